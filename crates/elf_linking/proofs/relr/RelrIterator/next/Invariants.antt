use Rattle.std.proofs.Common.{◌≡◌, length}
use Rattle.elf_linking.specs.Relr.{relr_rest, words_left}
use Rattle.elf_linking.proofs.relr.RelrIterator.next.Given as goal

abbrev pub invariant-loop-address : goal.invariant-loop-address
invariant-loop-address l = relr_rest l.self ≡ relr_rest l.initial.self

abbrev pub decreases-loop-address : goal.decreases-loop-address
decreases-loop-address l = length (words_left l.self.words)
