use Rattle.std.proofs.Common.{ℕ}
use Rattle.xmas_elf.specs.ChainLinks.{Joins}
use Rattle.xmas_elf.proofs.hash.HashTable.count_leading.Given as goal

abbrev pub invariant-loop-index : goal.invariant-loop-index
invariant-loop-index l = (i j : ℕ) → ¬ Joins l.words i j
