use Rattle.std.proofs.Common.{◌≡◌}
use Rattle.elf_linking.specs.VersionTables.{needs_in, needs_left}
use Rattle.elf_linking.specs.Versions.{version_tables, name_error}
use Rattle.elf_linking.proofs.versions.Versions.check_needs.Given as goal

-- the check of the remaining needs has the result of that of all
abbrev pub invariant-loop-item : goal.invariant-loop-item
invariant-loop-item l = name_error (λ need. need.name) (needs_left l.item-iterator)
    ≡ name_error (λ need. need.name) (needs_in (version_tables l.fn.self).needs)
