use Rattle.std.proofs.Common.{◌≡◌, length}
use Rattle.elf_search.specs.Pieces.{name_order}
use Rattle.elf_search.proofs.cache.pieces.compare.Given as goal

abbrev pub invariant-loop-rest : goal.invariant-loop-rest
invariant-loop-rest l = name_order l.one l.other ≡ name_order l.left l.right

abbrev pub decreases-loop-rest : goal.decreases-loop-rest
decreases-loop-rest l = length l.left
