-- Items by their indices.
use Rattle.std.proofs.Common.{◌≡◌, ◌<◌, ◌+◌, ℕ, List, Option, Some, None, below_more, get_or, length, refl, sym, subst}
use Rattle.std.specs.Prelude.{IfSome, false, is_some, slice_get}
use Rattle.std.proofs.lemmas.Option.{slice_get_read, slice_get_within}

-- a property of one more item, if a condition holds
pub one_more_if : {A C : Type 0} (P : A → Type 0) (items : List A) (index : ℕ) (item : A) → index < length items → item ≡ get_or items index item → (C → (i : ℕ) → i < index → IfSome (slice_get items i) P) → (C → P item) → C → (i : ℕ) → i < index + 1 → IfSome (slice_get items i) P
one_more_if P items index item below is before own condition =
    below_more (λ i. IfSome (slice_get items i) P) index (before condition) (subst (λ found. IfSome found P) (sym (slice_get_read items (length items) index item refl below is)) (own condition))

-- a property of all items below their number is one of all
pub all_below : {A : Type 0} (P : A → Type 0) (items : List A) → ((i : ℕ) → i < length items → IfSome (slice_get items i) P) → (i : ℕ) → IfSome (slice_get items i) P
all_below {A} P items below i = go (slice_get items i) refl
  where
    go : (found : Option A) → slice_get items i ≡ found → IfSome found P
    go None is = tt
    go (Some item) is = subst (λ found. IfSome found P) is (below i (slice_get_within items i item is))

pub none_of : {A : Type 0} (found : Option A) → is_some found ≡ false → found ≡ None
none_of None lacks = refl
none_of (Some item) lacks = absurd (cc)
