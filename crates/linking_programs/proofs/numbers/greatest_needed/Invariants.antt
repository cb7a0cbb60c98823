use Rattle.std.proofs.Common.{◌≡◌}
use Rattle.elf_linking.specs.VersionTables.{needs_in, needs_left}
use Rattle.elf_linking.specs.Versions.{version_tables}
use Rattle.linking_programs.specs.Numbers.{greatest_of}
use Rattle.linking_programs.proofs.numbers.greatest_needed.Given as goal

-- the greatest of those that are left and so far is that of all
abbrev pub invariant-loop-item : goal.invariant-loop-item
invariant-loop-item l = greatest_of (λ need. need.number) l.most (needs_left l.item-iterator)
    ≡ greatest_of (λ need. need.number) l.least (needs_in (version_tables l.versions).needs)
