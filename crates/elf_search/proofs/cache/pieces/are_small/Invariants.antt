use Rattle.std.proofs.Common.{◌≡◌, length}
use Rattle.elf_search.specs.Pieces.{are_small, pieces}
use Rattle.elf_search.proofs.cache.pieces.are_small.Given as goal

abbrev pub invariant-loop-others : goal.invariant-loop-others
invariant-loop-others l = are_small (pieces l.bytes) ≡ are_small (pieces l.rest)

abbrev pub decreases-loop-others : goal.decreases-loop-others
decreases-loop-others l = length l.rest
