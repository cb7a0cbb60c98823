-- The greatest number of versions, one after the other.
use Rattle.std.proofs.Common.{◌≡◌, ℕ, List, [], ◌∷◌, Result, Ok, Err, ap}
use Rattle.std.specs.Prelude.{max}
use Rattle.elf_linking.specs.declared.error.LinkError.{LinkError}
use Rattle.linking_programs.specs.Numbers.{greatest_of}

module _ {A : Type 0} (number : A → ℕ) (most : ℕ) where
  pub greatest_end : (items : List (Result A LinkError)) → items ≡ [] → greatest_of number most items ≡ most
  greatest_end items is = ap (greatest_of number most) is

  pub greatest_item : (items others : List (Result A LinkError)) (item : A) → items ≡ Ok item ∷ others → greatest_of number most items ≡ greatest_of number (max most (number item)) others
  greatest_item items others item is = ap (greatest_of number most) is

  pub greatest_fault : (items others : List (Result A LinkError)) (error : LinkError) → items ≡ Err error ∷ others → greatest_of number most items ≡ greatest_of number most others
  greatest_fault items others error is = ap (greatest_of number most) is
