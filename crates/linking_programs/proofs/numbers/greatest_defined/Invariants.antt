use Rattle.std.proofs.Common.{◌≡◌}
use Rattle.elf_linking.specs.VersionTables.{definitions_in, definitions_left, version_number}
use Rattle.elf_linking.specs.Versions.{version_tables}
use Rattle.linking_programs.specs.Numbers.{greatest_of}
use Rattle.linking_programs.proofs.numbers.greatest_defined.Given as goal

-- the greatest of those that are left and so far is that of all
abbrev pub invariant-loop-item : goal.invariant-loop-item
invariant-loop-item l = greatest_of (λ definition. version_number definition.number) l.most (definitions_left l.item-iterator)
    ≡ greatest_of (λ definition. version_number definition.number) 1 (definitions_in (version_tables l.versions).definitions)
