use Rattle.std.proofs.Common.{◌≡◌}
use Rattle.elf_linking.specs.VersionTables.{needs_in, needs_left}
use Rattle.elf_linking.specs.Versions.{version_tables, needs_number, first_item}
use Rattle.elf_linking.proofs.versions.Versions.need_with.Given as goal

-- a search of the remaining needs has the result of a search of all
abbrev pub invariant-loop-item : goal.invariant-loop-item
invariant-loop-item l = first_item (needs_number l.number) (needs_left l.item-iterator)
    ≡ first_item (needs_number l.number) (needs_in (version_tables l.fn.self).needs)
