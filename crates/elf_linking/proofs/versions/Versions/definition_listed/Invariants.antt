use Rattle.std.proofs.Common.{◌≡◌}
use Rattle.elf_linking.specs.VersionTables.{definitions_in, definitions_left}
use Rattle.elf_linking.specs.Versions.{version_tables, defines_number, first_item}
use Rattle.elf_linking.proofs.versions.Versions.definition_listed.Given as goal

-- a search of the remaining definitions has the result of a search of all
abbrev pub invariant-loop-item : goal.invariant-loop-item
invariant-loop-item l = first_item (defines_number l.number) (definitions_left l.item-iterator)
    ≡ first_item (defines_number l.number) (definitions_in (version_tables l.fn.self).definitions)
