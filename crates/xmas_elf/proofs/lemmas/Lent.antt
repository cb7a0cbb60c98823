-- For callers: the place of one part of a whole in another part that contains it.
use Rattle.std.proofs.Common.{◌≡◌, ℕ, ◌+◌, List, sym, ◌∙◌, arith}
use Rattle.std.specs.Borrow.{Bor}
use Rattle.elf_base.specs.Lent.{LiesAt}

pub lies_between : (whole outer inner : Bor (List ℕ)) (start place later : ℕ) → LiesAt whole start outer → LiesAt whole later inner → start + place ≡ later → LiesAt outer place inner
lies_between whole outer inner start place later one other behind = record {
  block = other.block ∙ sym one.block;
  place_is = omega (arith, one.place_is, other.place_is, behind);
}
