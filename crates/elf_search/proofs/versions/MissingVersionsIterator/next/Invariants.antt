use Rattle.std.proofs.Common.{◌≡◌, length}
use Rattle.elf_linking.specs.VersionTables.{needs_left}
use Rattle.elf_search.specs.MissingVersions.{missing_left}
use Rattle.elf_search.proofs.versions.MissingVersionsIterator.next.Given as goal

abbrev pub invariant-loop-item : goal.invariant-loop-item
invariant-loop-item l = missing_left l.self ≡ missing_left l.initial.self

abbrev pub decreases-loop-item : goal.decreases-loop-item
decreases-loop-item l = length (needs_left l.self.needs)
