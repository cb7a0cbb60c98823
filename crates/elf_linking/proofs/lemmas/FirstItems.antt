-- Searches among items that can be errors: the computed answer is the first item with the property.
use Rattle.std.proofs.Common.{◌≡◌, ℕ, zero, suc, Bool, true, false, if◌then◌else◌, List, [], ◌∷◌, length, Option, Some, None, Result, Ok, Err, refl, ap, ◌∙◌, arith}
use Rattle.elf_linking.specs.declared.error.LinkError.{LinkError}
use Rattle.elf_linking.specs.Versions.{IsFirst, found, missing, failed, NoItemBefore, first_item}

module _ {A : Type 0} (test : A → Bool) where
  pub search_end : (items : List (Result A LinkError)) → items ≡ [] → first_item test items ≡ Ok None
  search_end items is = ap (first_item test) is

  pub search_fault : (items others : List (Result A LinkError)) (error : LinkError) → items ≡ Err error ∷ others → first_item test items ≡ Err error
  search_fault items others error is = ap (first_item test) is

  pub search_found : (items others : List (Result A LinkError)) (item : A) → items ≡ Ok item ∷ others → test item ≡ true → first_item test items ≡ Ok (Some item)
  search_found items others item is hit = ap (first_item test) is ∙ rw hit refl

  pub search_other : (items others : List (Result A LinkError)) (item : A) → items ≡ Ok item ∷ others → test item ≡ false → first_item test items ≡ first_item test others
  search_other items others item is miss = ap (first_item test) is ∙ rw miss refl

-- a search finds the first item with the property that its test decides
module _ {A : Type 0} (P : A → Type 0) (test : A → Bool) (hits : (x : A) → test x ≡ true → P x) (misses : (x : A) → test x ≡ false → P x → ⊥) where
  one_more : (item : A) (items : List (Result A LinkError)) (high : ℕ) → (P item → ⊥) → NoItemBefore P items high → NoItemBefore P (Ok item ∷ items) (suc high)
  one_more item items high never none zero below = (item, refl, never)
  one_more item items high never none (suc i) below = none i (omega (arith, below))

  behind : (item : A) (items : List (Result A LinkError)) (answer : Result (Option A) LinkError) → (P item → ⊥) → IsFirst P items answer → IsFirst P (Ok item ∷ items) answer
  behind item items _ never (found i x none is holds) = found (suc i) x (one_more item items i never none) is holds
  behind item items _ never (missing none) = missing (one_more item items (length items) never none)
  behind item items _ never (failed i error none is) = failed (suc i) error (one_more item items i never none) is

  first_by : (item : A) (items : List (Result A LinkError)) (b : Bool) → test item ≡ b → IsFirst P items (first_item test items) → IsFirst P (Ok item ∷ items) (if b then Ok (Some item) else first_item test items)
  first_by item items true is rest = found 0 item (λ i below. absurd (omega (arith, below))) refl (hits item is)
  first_by item items false is rest = behind item items (first_item test items) (misses item is) rest

  pub first_is : (items : List (Result A LinkError)) → IsFirst P items (first_item test items)
  first_is [] = missing (λ i below. absurd (omega (arith, below)))
  first_is (Err error ∷ items) = failed 0 error (λ i below. absurd (omega (arith, below))) refl
  first_is (Ok item ∷ items) = first_by item items (test item) refl (first_is items)
