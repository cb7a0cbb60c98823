-- The number of natural numbers with a property: sums and comparisons of such numbers.
use Rattle.std.proofs.Common.{◌≡◌, ◌<◌, ◌≤◌, ◌+◌, ℕ, List, [], ◌∷◌, ◌++◌, true, length, ◌⊎◌, inl, inr, refl, sym, subst, arith}
use Rattle.std.proofs.Math.Dec.{eqb}
use Rattle.std.proofs.lemmas.Bool.{cases_Bool, eq-eqb, eqb-true, false_from_ne_true, or_cases, or_left, or_right}
use Rattle.std.proofs.lemmas.Cmp.{nat_eq_equiv}
use Rattle.std.proofs.lemmas.List.Sorted.{IsPermutation-to_front}
use Rattle.std.proofs.lemmas.Map.Keys.{IsDistinct-IsPermutation, IsDistinct-push, IsDistinct-tail}
use Rattle.std.proofs.lemmas.Map.Made.{length-le_from_is_member}
use Rattle.std.specs.List.{IsDistinct, list_any}
use Rattle.xmas_elf.specs.Counted.{IsCount}

-- a number is in a list, or not
abbrev pub In : ℕ → List ℕ → Type 0
In i xs = list_any (eqb i) xs ≡ true

pub in_here : (i x : ℕ) (xs : List ℕ) → i ≡ x → In i (x ∷ xs)
in_here i x xs same = or_left (eqb i x) (list_any (eqb i) xs) (eq-eqb i x same)

pub in_later : (i x : ℕ) (xs : List ℕ) → In i xs → In i (x ∷ xs)
in_later i x xs h = or_right (eqb i x) (list_any (eqb i) xs) h

pub in_cons : (R : Type 0) (i x : ℕ) (xs : List ℕ) → In i (x ∷ xs) → (i ≡ x → R) → (In i xs → R) → R
in_cons R i x xs h here later =
    elim (or_cases (eqb i x) (list_any (eqb i) xs) h) [ inl e ↦ here (eqb-true i x e) | inr e ↦ later e ]

pub distinct_cons : (x : ℕ) (xs : List ℕ) → (In x xs → ⊥) → IsDistinct eqb xs → IsDistinct eqb (x ∷ xs)
distinct_cons x xs new d =
    IsDistinct-IsPermutation eqb nat_eq_equiv.symm (xs ++ x ∷ []) (x ∷ xs) (IsPermutation-to_front xs x)
    (IsDistinct-push nat_eq_equiv xs x d (false_from_ne_true (list_any (eqb x) xs) new))

distinct_head : (x : ℕ) (xs : List ℕ) → IsDistinct eqb (x ∷ xs) → In x xs → ⊥
distinct_head x xs d h =
    let bound : length (x ∷ xs) ≤ length xs = length-le_from_is_member nat_eq_equiv (x ∷ xs) xs d (λ i k. in_cons (In i xs) i x xs k (λ same. subst (λ z. In z xs) (sym same) h) (λ later. later)) in
    omega arith

-- no number has the property
pub count_none : (Q : ℕ → Type 0) → ((i : ℕ) → Q i → ⊥) → IsCount Q 0
unfolding IsDistinct
count_none Q none = record { list = []; once = tt; each = λ i. ((λ h. absurd (cc)), λ q. absurd (none i q)); many = refl }

-- two properties of the same numbers
pub count_same : (Q R : ℕ → Type 0) (n : ℕ) → ((i : ℕ) → Q i → R i) → ((i : ℕ) → R i → Q i) → IsCount Q n → IsCount R n
count_same Q R n to from count = record {
  list = count.list;
  once = count.once;
  each = λ i. ((λ h. to i ((count.each i).0 h)), λ r. (count.each i).1 (from i r));
  many = count.many;
}

-- a property of one number more
pub count_more : (Q R : ℕ → Type 0) (n x : ℕ) → (Q x → ⊥) → R x → ((i : ℕ) → Q i → R i) → ((i : ℕ) → R i → (i ≡ x) ⊎ Q i) → IsCount Q n → IsCount R (n + 1)
count_more Q R n x new here to from count = record {
  list = x ∷ count.list;
  once = distinct_cons x count.list (λ h. new ((count.each x).0 h)) count.once;
  each = λ i. (
    (λ h. in_cons (R i) i x count.list h (λ same. subst R (sym same) here) (λ later. to i ((count.each i).0 later))),
    λ r. (elim (from i r) [ inl same ↦ in_here i x count.list same | inr q ↦ in_later i x count.list ((count.each i).1 q) ]),
  );
  many = omega (arith, count.many);
}

-- the sum for two properties that no number has both
pub count_join : (Q R S : ℕ → Type 0) (n m : ℕ) → ((i : ℕ) → Q i → R i → ⊥) → ((i : ℕ) → Q i → S i) → ((i : ℕ) → R i → S i) → ((i : ℕ) → S i → Q i ⊎ R i) → IsCount Q n → IsCount R m → IsCount S (n + m)
count_join Q R S n m apart left right from count other =
    count_same (λ i. In i count.list ⊎ R i) S (n + m)
    (λ i h. elim h [ inl a ↦ left i ((count.each i).0 a) | inr r ↦ right i r ])
    (λ i s. elim (from i s) [ inl q ↦ inl ((count.each i).1 q) | inr r ↦ inr r ])
    (subst (λ k. IsCount (λ i. In i count.list ⊎ R i) (k + m)) count.many (joined count.list count.once (λ i h. apart i ((count.each i).0 h))))
  where
    joined : (xs : List ℕ) → IsDistinct eqb xs → ((i : ℕ) → In i xs → R i → ⊥) → IsCount (λ i. In i xs ⊎ R i) (length xs + m)
    joined [] d none =
        let sum : m ≡ length {A = ℕ} [] + m = omega arith in
        subst (IsCount (λ i. In i [] ⊎ R i)) sum (count_same R (λ i. In i [] ⊎ R i) m (λ i r. inr r) (λ i h. elim h [ inl a ↦ absurd (cc) | inr r ↦ r ]) other)
    joined (x ∷ xs) d none =
        let sum : length xs + m + 1 ≡ length (x ∷ xs) + m = omega arith in
        subst (IsCount (λ i. In i (x ∷ xs) ⊎ R i)) sum (count_more (λ i. In i xs ⊎ R i) (λ i. In i (x ∷ xs) ⊎ R i) (length xs + m) x
        (λ h. elim h [ inl a ↦ distinct_head x xs d a | inr r ↦ none x (in_here x x xs refl) r ])
        (inl (in_here x x xs refl))
        (λ i h. elim h [ inl a ↦ inl (in_later i x xs a) | inr r ↦ inr r ])
        (λ i h. elim h [ inl a ↦ in_cons ((i ≡ x) ⊎ (In i xs ⊎ R i)) i x xs a (λ e. inl e) (λ b. inr (inl b)) | inr r ↦ inr (inr r) ])
        (joined xs (IsDistinct-tail eqb x xs d) (λ i h. none i (in_later i x xs h))))

-- either some number of one list isn't in the other, or all are
lacking : (xs ys : List ℕ) → ((i : ℕ) × In i xs × (In i ys → ⊥)) ⊎ ((i : ℕ) → In i xs → In i ys)
lacking [] ys = inr (λ i h. absurd (cc))
lacking (x ∷ xs) ys = elim (cases_Bool (list_any (eqb x) ys)) [
  | inl there ↦ elim (lacking xs ys) [
    | inl (i, h, absent) ↦ inl (i, in_later i x xs h, absent)
    | inr all ↦ inr (λ i h. in_cons (In i ys) i x xs h (λ same. subst (λ z. In z ys) (sym same) there) (all i))
  ]
  | inr absent ↦ inl (x, in_here x x xs refl, λ h. cc)
]

-- if fewer numbers have one property than another, some number has only the other
pub count_lacks : (Q R : ℕ → Type 0) (n m : ℕ) → n < m → IsCount Q n → IsCount R m → (i : ℕ) × R i × (Q i → ⊥)
count_lacks Q R n m fewer count other = elim (lacking other.list count.list) [
  | inl (i, h, absent) ↦ (i, (other.each i).0 h, λ q. absent ((count.each i).1 q))
  | inr all ↦ absurd (let bound : length other.list ≤ length count.list = length-le_from_is_member nat_eq_equiv other.list count.list other.once all in omega (arith, count.many, other.many))
]

-- if at least as many numbers have a property as another that follows from it, the first follows from the
-- other
pub count_all : (Q R : ℕ → Type 0) (n m : ℕ) → m ≤ n → ((i : ℕ) → Q i → R i) → IsCount Q n → IsCount R m → (i : ℕ) → R i → Q i
count_all Q R n m many to count other i r = elim (cases_Bool (list_any (eqb i) count.list)) [
  | inl there ↦ (count.each i).0 there
  | inr absent ↦ absurd (
      let more = count_more Q (λ j. (j ≡ i) ⊎ Q j) n i (λ q. (let there : In i count.list = (count.each i).1 q in cc)) (inl refl) (λ j q. inr q) (λ j h. h) count in
      let (j, has, lost) = count_lacks R (λ j. (j ≡ i) ⊎ Q j) m (n + 1) (omega arith) other more in
      elim has [ inl same ↦ lost (subst R (sym same) r) | inr q ↦ lost (to j q) ])
]
