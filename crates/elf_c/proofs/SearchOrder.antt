-- Entries of objects, object by object.
use Rattle.std.proofs.Common.{◌≡◌, ◌≢◌, ◌<◌, ◌≤◌, ◌+◌, ◌==◌, ℕ, suc, List, [], ◌∷◌, true, false, Bool, IfOk, drop, get_or, length, Option, None, Some, if◌then◌else◌, refl, ap, sym, subst, ◌∙◌, ◌⊎◌, inl, inr, arith}
use Rattle.std.proofs.lemmas.Bool.{cases_order, eqb-true, ltb-false}
use Rattle.std.proofs.lemmas.List.{drop_all, drop_more}
use Rattle.std.proofs.lemmas.List.Quantifiers.{position-Some}
use Rattle.std.proofs.lemmas.Option.{slice_get-get_or}
use Rattle.std.specs.Cmp.Lexicographic.{pointwise}
use Rattle.std.specs.List.{list_any}
use Rattle.std.specs.Prelude.{◌&&◌, IsSomeAnd, nat_eq, nat_lt, slice_get, slice_set}
use Rattle.elf_c.proofs.Batches.{put_elsewhere, put_there}
use Rattle.elf_c.specs.SearchOrder.{AreListed, HasFound, IsUnasked, entry_or, first_unasked, has_other_kind, next_answer, unasked_in}
use Rattle.elf_c.specs.declared.search_order.Dependencies.{Dependencies}
use Rattle.elf_c.specs.declared.search_order.TheConstants.{NOT_ASKED}

-- some entry of some objects is an auxiliary or a filter entry
abbrev pub has_other : List Dependencies → Bool
has_other objects = list_any (λ one. has_other_kind one.kinds.now) objects

some_same : {T : Type 0} (x y : T) → Some x ≡ Some y → x ≡ y
some_same x y is = cc

module _ (objects : List Dependencies) (place : ℕ) where
  pub needed_end : length objects ≤ place → has_other (drop place objects) ≡ false
  needed_end past = ap has_other (drop_all place objects past)

  pub needed_not : (one : Dependencies) → place < length objects → one ≡ get_or objects place one → has_other_kind one.kinds.now ≡ true → has_other (drop place objects) ≡ true
  needed_not one below is hit = ap has_other (drop_more objects place one below) ∙ rw (sym is) (rw hit refl)

  pub needed_more : (one : Dependencies) → place < length objects → one ≡ get_or objects place one → has_other_kind one.kinds.now ≡ false → has_other (drop place objects) ≡ has_other (drop (place + 1) objects)
  needed_more one below is miss = ap has_other (drop_more objects place one below) ∙ rw (sym is) (rw miss refl)

  pub unasked_end : length objects ≤ place → first_unasked place (drop place objects) ≡ None
  unasked_end past = ap (first_unasked place) (drop_all place objects past)

  pub unasked_hit : (one : Dependencies) (entry : ℕ) → place < length objects → one ≡ get_or objects place one → unasked_in one.found.now ≡ Some entry → first_unasked place (drop place objects) ≡ Some (place, entry)
  unasked_hit one entry below is hit = ap (first_unasked place) (drop_more objects place one below)
      ∙ rw (sym is) (ap (λ found. entry_or place found (first_unasked (place + 1) (drop (place + 1) objects))) hit)

  pub unasked_more : (one : Dependencies) → place < length objects → one ≡ get_or objects place one → unasked_in one.found.now ≡ None → first_unasked place (drop place objects) ≡ first_unasked (place + 1) (drop (place + 1) objects)
  unasked_more one below is miss = ap (first_unasked place) (drop_more objects place one below)
      ∙ rw (sym is) (ap (λ found. entry_or place found (first_unasked (place + 1) (drop (place + 1) objects))) miss)

-- the first entry that was not asked for was not asked for
found_at : (xs : List ℕ) (i : ℕ) → unasked_in xs ≡ Some i → slice_get xs i ≡ Some NOT_ASKED
found_at xs i is =
    let (below, passes, before) = position-Some (λ number. number == NOT_ASKED) xs i 0 is in
    slice_get-get_or xs i 0 below ∙ ap (λ x. Some x) (eqb-true (get_or xs i 0) NOT_ASKED passes)

unasked_from : (objects : List Dependencies) (n : ℕ) (own : ℕ × ℕ) → first_unasked n objects ≡ Some own → (k : ℕ) × (own.0 ≡ n + k) × IsUnasked objects k own.1
unasked_from [] n own is = absurd (cc)
unasked_from (one ∷ objects) n own is = by (unasked_in one.found.now) refl is (unasked_from objects (n + 1) own)
  where
    by : (found : Option ℕ) → unasked_in one.found.now ≡ found → entry_or n found (first_unasked (n + 1) objects) ≡ Some own
        → (first_unasked (n + 1) objects ≡ Some own → (k : ℕ) × (own.0 ≡ n + 1 + k) × IsUnasked objects k own.1) → (k : ℕ) × (own.0 ≡ n + k) × IsUnasked (one ∷ objects) k own.1
    by None at same others =
        let (k, sum, there) = others same in
        let more : own.0 ≡ n + suc k = omega (arith, sum) in (suc k, more, there)
    by (Some entry) at same others =
        let here : (n, entry) ≡ own = some_same (n, entry) own same in
        let sum : n ≡ n + 0 = omega arith in
        (0, ap (λ x. x.0) (sym here) ∙ sum, subst (λ x. slice_get one.found.now x.1 ≡ Some NOT_ASKED) here (found_at one.found.now entry at))

pub answer_unasked : (objects : List Dependencies) (found : Option (ℕ × ℕ)) → first_unasked 0 objects ≡ found → IfOk (next_answer found) (λ own. IsUnasked objects own.object own.entry)
answer_unasked objects None is = tt
answer_unasked objects (Some own) is =
    let (k, sum, there) = unasked_from objects 0 own is in
    let same : k ≡ own.0 = omega (arith, sum) in subst (λ i. IsUnasked objects i own.1) same there

-- what an entry of an object found
pub found_there : (objects : List Dependencies) (object entry number : ℕ) (one : Dependencies) → object < length objects → one ≡ get_or objects object one → entry < length one.found.now → number ≡ get_or one.found.now entry number → HasFound number objects object entry
found_there objects object entry number one below is within at =
    subst (λ found. IsSomeAnd found (λ own. slice_get own.found.now entry ≡ Some number)) (sym (slice_get-get_or objects object one below ∙ ap (λ x. Some x) (sym is)))
    (slice_get-get_or one.found.now entry number within ∙ ap (λ x. Some x) (sym at))

-- lists that compare equal are the same
pub same_lists : (xs ys : List ℕ) → pointwise nat_eq xs ys ≡ true → xs ≡ ys
same_lists [] [] is = refl
same_lists [] (y ∷ ys) is = absurd (cc)
same_lists (x ∷ xs) [] is = absurd (cc)
same_lists (x ∷ xs) (y ∷ ys) is = by (nat_eq x y) refl is (same_lists xs ys)
  where
    by : (b : Bool) → nat_eq x y ≡ b → (b && pointwise nat_eq xs ys) ≡ true → (pointwise nat_eq xs ys ≡ true → xs ≡ ys) → (x ∷ xs) ≡ (y ∷ ys)
    by true same rest others = ap (λ z. z ∷ xs) (eqb-true x y same) ∙ ap (λ zs. y ∷ zs) (others rest)
    by false same rest others = absurd (cc)

-- numbers in a list that are their own places
pub written_more : (list : List ℕ) (place : ℕ) → place < length list → ((k : ℕ) → k < place → slice_get list k ≡ Some k) → (k : ℕ) → k < place + 1 → slice_get (slice_set list place place) k ≡ Some k
written_more list place within before k below = by (cases_order k place)
  where
    by : ((k ≡ place) ⊎ ((k < place) ⊎ (place < k))) → slice_get (slice_set list place place) k ≡ Some k
    by (inl at) = ap (slice_get (slice_set list place place)) at ∙ put_there list place place within ∙ ap (λ i. Some i) (sym at)
    by (inr (inl less)) = put_elsewhere list place k place (λ same. absurd (omega (arith, less, same))) ∙ before k less
    by (inr (inr more)) = absurd (omega (arith, more, below))

pub next_is : (place count number : ℕ) → Some number ≡ (if nat_lt place count then Some place else None) → number ≡ place
next_is place count number is = by (nat_lt place count) is
  where
    by : (b : Bool) → Some number ≡ (if b then Some place else None) → number ≡ place
    by true same = some_same number place same
    by false same = absurd (cc)

pub none_is : (place count : ℕ) → None ≡ (if nat_lt place count then Some place else None) → count ≤ place
none_is place count is = by (nat_lt place count) refl is
  where
    by : (b : Bool) → nat_lt place count ≡ b → None ≡ (if b then Some place else None) → count ≤ place
    by true same none = absurd (cc)
    by false same none = ltb-false place count same

-- what objects found, in lists by their numbers
pub listed_none : (lists : ℕ → List ℕ) (objects : List Dependencies) → AreListed lists objects 0
listed_none lists objects number one below there = absurd (omega (arith, below))

pub listed_more : (lists : ℕ → List ℕ) (objects : List Dependencies) (place : ℕ) (own : Dependencies) → slice_get objects place ≡ Some own → lists place ≡ own.found.now → AreListed lists objects place → AreListed lists objects (place + 1)
listed_more lists objects place own here same before number one below there = by (cases_order number place)
  where
    by : ((number ≡ place) ⊎ ((number < place) ⊎ (place < number))) → lists number ≡ one.found.now
    by (inl at) =
        let found : own ≡ one = some_same own one (sym here ∙ ap (λ i. slice_get objects i) (sym at) ∙ there) in
        ap lists at ∙ same ∙ ap (λ x. x.found.now) found
    by (inr (inl less)) = before number one less there
    by (inr (inr more)) = absurd (omega (arith, more, below))
