-- The last item of a list that passes a test, item by item.
use Rattle.std.proofs.Common.{◌≡◌, ℕ, zero, suc, ◌+◌, ◌<◌, ◌≤◌, Bool, true, false, List, [], ◌∷◌, length, Option, Some, None, refl, ap, ◌∙◌, subst, arith}
use Rattle.std.specs.Prelude.{cond, filter}
use Rattle.std.specs.List.{AllWithin, HoldsAt, last_or}

module _ {X : Type 0} (test : X → Bool) where
  pub last_none : (old : Option X) (items : List X) → items ≡ [] → last_or old (filter test items) ≡ old
  last_none old items is = ap (λ xs. last_or old (filter test xs)) is

  pub last_hit : (old : Option X) (items others : List X) (x : X) → items ≡ x ∷ others → test x ≡ true → last_or old (filter test items) ≡ last_or (Some x) (filter test others)
  last_hit old items others x is hit = ap (λ xs. last_or old (filter test xs)) is ∙ rw hit refl

  pub last_other : (old : Option X) (items others : List X) (x : X) → items ≡ x ∷ others → test x ≡ false → last_or old (filter test items) ≡ last_or old (filter test others)
  last_other old items others x is miss = ap (λ xs. last_or old (filter test xs)) is ∙ rw miss refl

-- no item from an index on passes the test
abbrev pub NonePasses : {X : Type 0} → (X → Bool) → List X → ℕ → Type 0
NonePasses test items low = AllWithin (λ item. test item ≡ false) items low (length items)

-- the found item is at an index after which no item passes
pub record IsFound {X : Type 0} (test : X → Bool) (items : List X) (x : X) : Type 0 where
  pub position : ℕ
  pub below : position < length items
  pub stands : HoldsAt (λ item. item ≡ x) items position
  pub passes : test x ≡ true
  pub last : NonePasses test items (position + 1)

-- what a search from an earlier item on comes to: an item of the list, or the earlier one, if no item passes
data Comes {X : Type 0} (test : X → Bool) (old : Option X) (items : List X) (x : X) : Type 0 where
  inside : IsFound test items x → Comes test old items x
  before : old ≡ Some x → NonePasses test items 0 → Comes test old items x

module _ {X : Type 0} (test : X → Bool) (y : X) (others : List X) where
  one_more : test y ≡ false → NonePasses test others 0 → NonePasses test (y ∷ others) 0
  one_more fails later zero d low below = fails
  one_more fails later (suc k) d low below = later k d (omega arith) (omega (arith, below))

  one_before : (low : ℕ) → NonePasses test others low → NonePasses test (y ∷ others) (low + 1)
  one_before low later zero d above below = absurd (omega (arith, above))
  one_before low later (suc k) d above below = later k d (omega (arith, above)) (omega (arith, below))

  found_later : (x : X) → IsFound test others x → IsFound test (y ∷ others) x
  found_later x found = record {
    position = suc found.position;
    below = let below = found.below in omega (arith, below);
    stands = found.stands;
    passes = found.passes;
    last = let same : found.position + 1 + 1 ≡ suc found.position + 1 = omega arith in
        subst (NonePasses test (y ∷ others)) same (one_before (found.position + 1) found.last);
  }

  found_here : (x : X) → test y ≡ true → ◌≡◌ {A = Option X} (Some y) (Some x) → NonePasses test others 0 → IsFound test (y ∷ others) x
  found_here x passes is none =
      let same : y ≡ x = cc in record {
        position = 0;
        below = omega arith;
        stands = λ d. same;
        passes = subst (λ z. test z ≡ true) same passes;
        last = one_before 0 none;
      }

  comes_hit : (old : Option X) (x : X) → test y ≡ true → Comes test (Some y) others x → Comes test old (y ∷ others) x
  comes_hit old x passes (inside found) = inside (found_later x found)
  comes_hit old x passes (before same none) = inside (found_here x passes same none)

  comes_other : (old : Option X) (x : X) → test y ≡ false → Comes test old others x → Comes test old (y ∷ others) x
  comes_other old x fails (inside found) = inside (found_later x found)
  comes_other old x fails (before same none) = before same (one_more fails none)

  comes_by : (old : Option X) (x : X) (b : Bool) → test y ≡ b → ((earlier : Option X) → last_or earlier (filter test others) ≡ Some x → Comes test earlier others x)
      → last_or old (cond b (y ∷ filter test others) (filter test others)) ≡ Some x → Comes test old (y ∷ others) x
  comes_by old x true passes later is = comes_hit old x passes (later (Some y) is)
  comes_by old x false fails later is = comes_other old x fails (later old is)

  none_by : (old : Option X) (b : Bool) → test y ≡ b → ((earlier : Option X) → last_or earlier (filter test others) ≡ None → (earlier ≡ None) × NonePasses test others 0)
      → last_or old (cond b (y ∷ filter test others) (filter test others)) ≡ None → (old ≡ None) × NonePasses test (y ∷ others) 0
  none_by old true passes later is = let held : ◌≡◌ {A = Option X} (Some y) None = (later (Some y) is).0 in absurd (cc)
  none_by old false fails later is = let (absent, none) = later old is in (absent, one_more fails none)

comes : {X : Type 0} (test : X → Bool) (items : List X) (old : Option X) (x : X) → last_or old (filter test items) ≡ Some x → Comes test old items x
comes test [] old x is = before is (λ k d low high. absurd (omega (arith, high)))
comes test (y ∷ others) old x is = comes_by test y others old x (test y) refl (λ earlier. comes test others earlier x) is

nothing : {X : Type 0} (test : X → Bool) (items : List X) (old : Option X) → last_or old (filter test items) ≡ None → (old ≡ None) × NonePasses test items 0
nothing test [] old is = (is, λ k d low high. absurd (omega (arith, high)))
nothing test (y ∷ others) old is = none_by test y others old (test y) refl (nothing test others) is

found_by : {X : Type 0} (test : X → Bool) (items : List X) (x : X) → Comes test None items x → IsFound test items x
found_by test items x (inside found) = found
found_by test items x (before same none) = absurd (cc)

pub found_in : {X : Type 0} (test : X → Bool) (items : List X) (x : X) → last_or None (filter test items) ≡ Some x → IsFound test items x
found_in test items x is = found_by test items x (comes test items None x is)

-- if a search finds nothing, no item passes
pub none_in : {X : Type 0} (test : X → Bool) (items : List X) → last_or None (filter test items) ≡ None → NonePasses test items 0
none_in test items is = (nothing test items None is).1
