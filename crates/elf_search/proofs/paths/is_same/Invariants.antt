use Rattle.std.proofs.Common.{◌≡◌, length, nat_eq}
use Rattle.std.specs.Cmp.Lexicographic.{pointwise}
use Rattle.elf_search.specs.Paths.{directory_left}
use Rattle.elf_search.proofs.paths.is_same.Given as goal

abbrev pub invariant-loop-byte : goal.invariant-loop-byte
invariant-loop-byte l = pointwise nat_eq (directory_left l.left) (directory_left l.right) ≡ pointwise nat_eq (directory_left l.first) (directory_left l.second)

abbrev pub decreases-loop-byte : goal.decreases-loop-byte
decreases-loop-byte l = length (directory_left l.left)
