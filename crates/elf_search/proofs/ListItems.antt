-- Items of a list at an index, and the items before and behind it.
use Rattle.std.proofs.Common.{◌≡◌, ℕ, zero, suc, ◌+◌, ◌<◌, ◌≤◌, ◌++◌, Bool, List, [], ◌∷◌, true, false, length, drop, take, Some, None, refl, ap, ◌∙◌, sym, arith, add-one, subst}
use Rattle.std.proofs.lemmas.List.{length-drop, take_all}
use Rattle.std.specs.List.{list_any}
use Rattle.std.specs.Prelude.{◌||◌, slice_get}

none_behind : {X : Type 0} (xs : List X) (i : ℕ) → slice_get xs i ≡ None → drop i xs ≡ []
none_behind [] zero is = refl
none_behind [] (suc i) is = refl
none_behind (x ∷ xs) zero is = cc
none_behind (x ∷ xs) (suc i) is = none_behind xs i is

some_behind : {X : Type 0} (xs : List X) (i : ℕ) (x : X) → slice_get xs i ≡ Some x → drop i xs ≡ x ∷ drop (suc i) xs
some_behind [] i x is = cc
some_behind (y ∷ xs) zero x is = let same : y ≡ x = cc in ap (λ z. z ∷ xs) same
some_behind (y ∷ xs) (suc i) x is = some_behind xs i x is

some_before : {X : Type 0} (xs : List X) (i : ℕ) (x : X) → slice_get xs i ≡ Some x → take (suc i) xs ≡ take i xs ++ x ∷ []
some_before [] i x is = cc
some_before (y ∷ xs) zero x is = let same : y ≡ x = cc in ap (λ z. z ∷ []) same
some_before (y ∷ xs) (suc i) x is = ap (λ zs. y ∷ zs) (some_before xs i x is)

-- the same at i + 1
pub drop_none : {X : Type 0} (xs : List X) (i : ℕ) → slice_get xs i ≡ None → drop i xs ≡ []
drop_none xs i is = none_behind xs i is

pub drop_some : {X : Type 0} (xs : List X) (i : ℕ) (x : X) → slice_get xs i ≡ Some x → drop i xs ≡ x ∷ drop (i + 1) xs
drop_some xs i x is = subst (λ n. drop i xs ≡ x ∷ drop n xs) (sym (add-one i)) (some_behind xs i x is)

pub take_some : {X : Type 0} (xs : List X) (i : ℕ) (x : X) → slice_get xs i ≡ Some x → take (i + 1) xs ≡ take i xs ++ x ∷ []
take_some xs i x is = subst (λ n. take n xs ≡ take i xs ++ x ∷ []) (sym (add-one i)) (some_before xs i x is)

-- the item in front of those behind an index, and those behind it
pub front_is : {X : Type 0} (xs : List X) (i : ℕ) (x : X) (rest : List X) → drop i xs ≡ x ∷ rest → slice_get xs i ≡ Some x
front_is [] zero x rest is = cc
front_is [] (suc i) x rest is = cc
front_is (y ∷ xs) zero x rest is = cc
front_is (y ∷ xs) (suc i) x rest is = front_is xs i x rest is

pub behind_is : {X : Type 0} (xs : List X) (i : ℕ) (x : X) (rest : List X) → drop i xs ≡ x ∷ rest → drop (i + 1) xs ≡ rest
behind_is xs i x rest is = let same : x ∷ drop (i + 1) xs ≡ x ∷ rest = sym (drop_some xs i x (front_is xs i x rest is)) ∙ is in cc

-- none is behind an index, so all are before it
pub none_past : {X : Type 0} (xs : List X) (i n : ℕ) → drop i xs ≡ [] → i ≤ n → take n xs ≡ take i xs
none_past xs i n is above =
    let count : length (drop i xs) ≡ 0 = ap length is in
    let whole : length xs ≤ i = omega (arith, length-drop i xs, count) in
    take_all n xs (omega (arith, whole, above)) ∙ sym (take_all i xs whole)

-- whether some item of a list passes a test
pub any_pushed : {X : Type 0} (test : X → Bool) (xs : List X) (x : X) → list_any test xs ≡ false → test x ≡ false → list_any test (xs ++ x ∷ []) ≡ false
any_pushed test [] x none fails = rw fails refl
any_pushed test (y ∷ xs) x none fails = by_first (test y) (λ rest. any_pushed test xs x rest fails) none
  where
    by_first : (b : Bool) → (list_any test xs ≡ false → list_any test (xs ++ x ∷ []) ≡ false) → (b || list_any test xs) ≡ false → (b || list_any test (xs ++ x ∷ [])) ≡ false
    by_first true later is = is
    by_first false later is = later is

pub any_at : {X : Type 0} (test : X → Bool) (xs : List X) (i n : ℕ) (x : X) → slice_get xs i ≡ Some x → i < n → test x ≡ true → list_any test (take n xs) ≡ true
any_at test [] i n x is below hit = cc
any_at test (y ∷ xs) i zero x is below hit = absurd (omega (arith, below))
any_at test (y ∷ xs) zero (suc n) x is below hit = let same : y ≡ x = cc in rw (ap test same ∙ hit) refl
any_at test (y ∷ xs) (suc i) (suc n) x is below hit = by_first (test y) (any_at test xs i n x is (omega (arith, below)) hit)
  where
    by_first : (b : Bool) → list_any test (take n xs) ≡ true → (b || list_any test (take n xs)) ≡ true
    by_first true later = refl
    by_first false later = later

pub any_more : {X : Type 0} (test : X → Bool) (xs : List X) (i : ℕ) (x : X) → slice_get xs i ≡ Some x → list_any test (take i xs) ≡ false → test x ≡ false → list_any test (take (i + 1) xs) ≡ false
any_more test xs i x is none fails = ap (list_any test) (take_some xs i x is) ∙ any_pushed test (take i xs) x none fails

-- the same of the items from an index on
pub any_behind : {X : Type 0} (test : X → Bool) (xs : List X) (i : ℕ) (x : X) → slice_get xs i ≡ Some x → test x ≡ false → list_any test (drop i xs) ≡ list_any test (drop (i + 1) xs)
any_behind test xs i x is fails = ap (list_any test) (drop_some xs i x is) ∙ rw fails refl

pub any_here : {X : Type 0} (test : X → Bool) (xs : List X) (i : ℕ) (x : X) → slice_get xs i ≡ Some x → test x ≡ true → list_any test (drop i xs) ≡ true
any_here test xs i x is hit = ap (list_any test) (drop_some xs i x is) ∙ rw hit refl

all_behind : {X : Type 0} (xs : List X) → drop (length xs) xs ≡ []
all_behind [] = refl
all_behind (x ∷ xs) = all_behind xs

pub drop_last : {X : Type 0} (xs : List X) (i : ℕ) → length xs ≡ i + 1 → drop (i + 1) xs ≡ []
drop_last xs i is = subst (λ n. drop n xs ≡ []) is (all_behind xs)
