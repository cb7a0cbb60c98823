use Rattle.std.proofs.Common.{◌≡◌, length}
use Rattle.elf_search.specs.Tokens.{expanded_left}
use Rattle.elf_search.proofs.tokens.ExpandedIterator.next.Given as goal

abbrev pub invariant-loop-byte : goal.invariant-loop-byte
invariant-loop-byte l = expanded_left l.self ≡ expanded_left l.initial.self

abbrev pub decreases-loop-byte : goal.decreases-loop-byte
decreases-loop-byte l = length l.self.text.now
