-- A property of each row of a table of named numbers, and of every number without a row, is a property of the
-- meaning of each number.
use Rattle.std.proofs.Common.{◌≡◌, ℕ, ◌==◌, Bool, true, false, List, [], ◌∷◌, if◌then◌else◌, refl, sym, subst}
use Rattle.std.proofs.lemmas.Bool.{eqb-true}
use Rattle.elf_base.specs.Number.{named_or}

module _ {A : Type 0} (other : ℕ → A) (P : ℕ → A → Type 0) where
  abbrev pub EachRow : List (ℕ × A) → Type 0
  EachRow [] = Unit {0}
  EachRow (row ∷ rows) = P row.0 row.1 × (EachRow rows)

  row_or : (n number : ℕ) (named rest : A) (b : Bool) → (n == number) ≡ b → P number named → P n rest → P n (if b then named else rest)
  row_or n number named rest true same here later = subst (λ m. P m named) (sym (eqb-true n number same)) here
  row_or n number named rest false same here later = later

  pub named_has : (rows : List (ℕ × A)) (n : ℕ) → EachRow rows → P n (other n) → P n (named_or other rows n)
  named_has [] n all last = last
  named_has (row ∷ rows) n all last = row_or n row.0 row.1 (named_or other rows n) (n == row.0) refl all.0 (named_has rows n all.1 last)
