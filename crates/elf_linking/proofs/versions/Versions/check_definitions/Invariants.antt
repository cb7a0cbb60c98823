use Rattle.std.proofs.Common.{◌≡◌}
use Rattle.elf_linking.specs.VersionTables.{definitions_in, definitions_left}
use Rattle.elf_linking.specs.Versions.{version_tables, name_error}
use Rattle.elf_linking.proofs.versions.Versions.check_definitions.Given as goal

-- the check of the remaining definitions has the result of that of all
abbrev pub invariant-loop-item : goal.invariant-loop-item
invariant-loop-item l = name_error (λ d. d.name) (definitions_left l.item-iterator)
    ≡ name_error (λ d. d.name) (definitions_in (version_tables l.fn.self).definitions)
