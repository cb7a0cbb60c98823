use Rattle.std.proofs.Common.{◌≡◌}
use Rattle.elf_search.specs.Candidates.{candidates_left}
use Rattle.elf_search.proofs.ListSteps.{lists_count}
use Rattle.elf_search.proofs.candidates.CandidatesIterator.next.Given as goal

abbrev pub invariant-loop-how : goal.invariant-loop-how
invariant-loop-how l = candidates_left l.self ≡ candidates_left l.initial.self

abbrev pub decreases-loop-how : goal.decreases-loop-how
decreases-loop-how l = lists_count l.self
