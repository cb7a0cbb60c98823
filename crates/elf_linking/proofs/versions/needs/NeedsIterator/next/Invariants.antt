use Rattle.std.proofs.Common.{◌≡◌}
use Rattle.elf_linking.specs.VersionTables.{needs_left}
use Rattle.elf_linking.proofs.versions.needs.NeedsIterator.next.Given as goal

-- a need whose parts come next leaves the same items
abbrev pub invariant-loop-place : goal.invariant-loop-place
invariant-loop-place l = needs_left l.self ≡ needs_left l.initial.self

abbrev pub decreases-loop-place : goal.decreases-loop-place
decreases-loop-place l = l.self.needs.left
