use Rattle.std.proofs.Common.{◌≡◌, length}
use Rattle.elf_linking.specs.References.{all_left, references_left}
use Rattle.elf_linking.proofs.references.ReferencesIterator.next.Given as goal

abbrev pub invariant-loop-relocation : goal.invariant-loop-relocation
invariant-loop-relocation l = references_left l.self ≡ references_left l.initial.self

abbrev pub decreases-loop-relocation : goal.decreases-loop-relocation
decreases-loop-relocation l = length (all_left l.self.all)
