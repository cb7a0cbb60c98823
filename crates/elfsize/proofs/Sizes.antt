-- Sums of runs by part, and the list of those that are not 0.
use Rattle.std.proofs.Common.{◌≡◌, ℕ, ◌+◌, ◌<◌, ◌≤◌, ◌==◌, Bool, true, false, nat_lt, List, [], ◌∷◌, ◌++◌, length, get_or, set, take, replicate, if◌then◌else◌, refl, ap, sym, subst, ◌∙◌, inl, inr, arith}
use Rattle.std.specs.Cmp.{IsStrictWeakOrder}
use Rattle.std.specs.List.{All, sum}
use Rattle.std.specs.List.Sorted.{IsPermutation}
use Rattle.std.proofs.lemmas.Bool.{cases_eq, cases_lt, eq-eqb, eqb-false, eqb-true, false_from_ne_true, ltb-false, ltb-true, ne_eqb}
use Rattle.std.proofs.lemmas.List.{get_or-replicate, get_or-set_other, get_or-set_same, get_or-take, get_or_past, length-replicate, length-take, take_all}
use Rattle.std.proofs.lemmas.List.Elements.{All-append, All-cons, All-more, All-nil, All-weaker}
use Rattle.std.proofs.lemmas.List.Folds.{sum_by-replicate}
use Rattle.std.proofs.lemmas.List.Sorted.{All-permutation, sum_by-IsPermutation}
use Rattle.std.proofs.lemmas.List.Sums.{get_or-le-sum_by, sum_by-append, sum_by-cons, sum_by-set, sum_by-take-le, sum_by_more}
use Rattle.elf_addresses.proofs.Order.{less_or-cases, less_or-parts}
use Rattle.elfsize.specs.Totals.{AreSizes, AreTotals, IsLargestFirst, IsListed, all_bytes, bytes_of, comes_first, listed}
use Rattle.elfsize.specs.declared.totals.Run.{Run}

plus_zero : (n : ℕ) → n + 0 ≡ n
plus_zero n = omega arith

own_size : (run : Run) → (if run.part == run.part then run.size else 0) ≡ run.size
own_size run = rw (eq-eqb run.part run.part refl) refl

other_size : (run : Run) (part : ℕ) → (run.part ≡ part → ⊥) → (if run.part == part then run.size else 0) ≡ 0
other_size run part differ = rw (ne_eqb run.part part differ) refl

module _ (runs : List Run) (index : ℕ) (item : Run) (below : index < length runs) (is : item ≡ get_or runs index item) where
  -- one more run
  bytes_more : (part : ℕ) → bytes_of part (take (index + 1) runs) ≡ bytes_of part (take index runs) + (if item.part == part then item.size else 0)
  bytes_more part =
      sum_by_more (λ (run : Run). if run.part == part then run.size else 0) runs index item below
      ∙ ap (λ (run : Run). bytes_of part (take index runs) + (if run.part == part then run.size else 0)) (sym is)

  all_more : all_bytes (take (index + 1) runs) ≡ all_bytes (take index runs) + item.size
  all_more = sum_by_more (λ (run : Run). run.size) runs index item below ∙ ap (λ (run : Run). all_bytes (take index runs) + run.size) (sym is)

  -- a number of parts that is above that of the run
  pub count_step : (count more : ℕ) → count ≤ more → item.part < more → All (λ (run : Run). run.part < count) (take index runs) → All (λ (run : Run). run.part < more) (take (index + 1) runs)
  count_step count more grows here all =
      All-more (λ (run : Run). run.part < more) runs index item below
      (All-weaker (λ (run : Run). run.part < count) (λ (run : Run). run.part < more) (λ run less. omega arith) (take index runs) all)
      (subst (λ (run : Run). run.part < more) is here)

  -- the total of its part has room for it
  pub room : (totals : List ℕ) (limit : ℕ) → item.part < length totals → AreTotals (take index runs) totals → all_bytes runs < limit → get_or totals item.part 0 + item.size < limit
  room totals limit within are fits =
      let most : get_or totals item.part 0 ≤ sum totals = get_or-le-sum_by (λ x. x) totals item.part 0 within in
      let was : sum totals ≡ all_bytes (take index runs) = are.sum in
      let more : all_bytes (take (index + 1) runs) ≡ all_bytes (take index runs) + item.size = all_more in
      let part : all_bytes (take (index + 1) runs) ≤ all_bytes runs = sum_by-take-le (λ (run : Run). run.size) runs (index + 1) in
      omega arith

  -- the totals with it
  pub totals_step : (totals : List ℕ) (size : ℕ) → item.part < length totals → size ≡ get_or totals item.part 0 + item.size → AreTotals (take index runs) totals → AreTotals (take (index + 1) runs) (set totals item.part size)
  totals_step totals size within size_is are = record {
    each = λ part. elim (cases_eq item.part part) [
      | inl same ↦
          subst (λ p. get_or (set totals item.part size) p 0 ≡ bytes_of p (take (index + 1) runs)) same
          (get_or-set_same totals item.part size 0 within ∙ (size_is ∙ (ap (λ n. n + item.size) (are.each item.part)
          ∙ sym (bytes_more item.part ∙ ap (λ n. bytes_of item.part (take index runs) + n) (own_size item)))))
      | inr differ ↦
          get_or-set_other totals item.part part size 0 (λ e. differ (sym e)) ∙ (are.each part
          ∙ sym (bytes_more part ∙ (ap (λ n. bytes_of part (take index runs) + n) (other_size item part differ) ∙ plus_zero (bytes_of part (take index runs)))))
    ];
    sum =
        let put : sum (set totals item.part size) + get_or totals item.part 0 ≡ sum totals + size = sum_by-set (λ x. x) totals item.part size 0 within in
        let was : sum totals ≡ all_bytes (take index runs) = are.sum in
        let more : all_bytes (take (index + 1) runs) ≡ all_bytes (take index runs) + item.size = all_more in
        omega arith;
  }

-- no run yet
pub no_totals : (runs : List Run) (count : ℕ) → AreTotals (take 0 runs) (replicate count 0)
no_totals runs count = record {
  each = λ part. elim (cases_lt part count) [
    | inl less ↦ get_or-replicate count part 0 0 less
    | inr more ↦ get_or_past (replicate count 0) part 0 (omega (arith, length-replicate {A = ℕ} count 0))
  ];
  sum = let all = sum_by-replicate (λ x. x) count 0 in omega (arith, all);
}

-- sums over the list of one size, or of none
zero_if : (b : Bool) (size : ℕ) → size ≡ 0 → 0 ≡ (if b then size else 0)
zero_if true size none = sym none
zero_if false size none = refl

listed_bytes : (k part size : ℕ) (b : Bool) → (size == 0) ≡ b
    → bytes_of k (if b then [] else record { part = part; size = size } ∷ []) ≡ (if part == k then size else 0)
listed_bytes k part size true none = zero_if (part == k) size (eqb-true size 0 none)
listed_bytes k part size false some =
    sum_by-cons (λ (run : Run). if run.part == k then run.size else 0) (record { part = part; size = size }) [] ∙ plus_zero (if part == k then size else 0)

listed_all : (part size : ℕ) (b : Bool) → (size == 0) ≡ b → all_bytes (if b then [] else record { part = part; size = size } ∷ []) ≡ size
listed_all part size true none = sym (eqb-true size 0 none)
listed_all part size false some = sum_by-cons (λ (run : Run). run.size) (record { part = part; size = size }) [] ∙ plus_zero size

listed_each : (P : Run → Type 0) (part size : ℕ) (b : Bool) → (size == 0) ≡ b → (0 < size → P (record { part = part; size = size }))
    → All P (if b then [] else record { part = part; size = size } ∷ [])
listed_each P part size true none holds = All-nil P
listed_each P part size false some holds =
    let fails : size ≡ 0 → ⊥ = eqb-false size 0 some in
    All-cons P (record { part = part; size = size }) [] (holds (omega arith)) (All-nil P)

taken_past : (xs : List ℕ) (n k : ℕ) → n ≤ k → get_or (take n xs) k 0 ≡ 0
taken_past xs n k past = get_or_past (take n xs) k 0 (omega (arith, length-take n xs))

-- no part yet
pub none_listed : (totals : List ℕ) (sizes : List Run) → sizes ≡ [] → IsListed totals 0 sizes
none_listed totals sizes none = subst (λ (runs : List Run). IsListed totals 0 runs) (sym none) (record {
  each = All-nil (λ (one : Run). (0 < one.size) × (one.size ≡ get_or totals one.part 0));
  none_left_out = λ part. sym (taken_past totals 0 part (omega arith));
  sum = refl;
})

-- one more part
pub listed_step : (totals : List ℕ) (count size : ℕ) (sizes : List Run) → count < length totals → size ≡ get_or totals count 0 → IsListed totals count sizes → IsListed totals (count + 1) (sizes ++ listed count size)
listed_step totals count size sizes below is so_far = record {
  each =
      All-append (λ (one : Run). (0 < one.size) × (one.size ≡ get_or totals one.part 0)) sizes (listed count size) so_far.each
      (listed_each (λ (one : Run). (0 < one.size) × (one.size ≡ get_or totals one.part 0)) count size (size == 0) refl (λ some. (some, is)));
  none_left_out = λ k.
      sum_by-append (λ (run : Run). if run.part == k then run.size else 0) sizes (listed count size)
      ∙ (ap (λ n. bytes_of k sizes + n) (listed_bytes k count size (size == 0) refl)
      ∙ (ap (λ n. n + (if count == k then size else 0)) (so_far.none_left_out k) ∙ one_more k));
  sum =
      let both : all_bytes (sizes ++ listed count size) ≡ all_bytes sizes + all_bytes (listed count size) = sum_by-append (λ (run : Run). run.size) sizes (listed count size) in
      let own : all_bytes (listed count size) ≡ size = listed_all count size (size == 0) refl in
      let was : all_bytes sizes ≡ sum (take count totals) = so_far.sum in
      let more : sum (take (count + 1) totals) ≡ sum (take count totals) + get_or totals count 0 = sum_by_more (λ x. x) totals count 0 below in
      omega arith;
}
  where
    one_more : (k : ℕ) → get_or (take count totals) k 0 + (if count == k then size else 0) ≡ get_or (take (count + 1) totals) k 0
    one_more k = elim (cases_eq count k) [
      | inl same ↦ subst (λ p. get_or (take count totals) p 0 + (if count == p then size else 0) ≡ get_or (take (count + 1) totals) p 0) same
          (rw (eq-eqb count count refl) (
          let none = taken_past totals count count (omega arith) in
          let some = get_or-take (count + 1) totals count 0 (omega arith) in
          omega (arith, none, some, is)))
      | inr differ ↦ rw (ne_eqb count k differ) (elim (cases_lt k count) [
        | inl less ↦ (let one = get_or-take count totals k 0 less in let other = get_or-take (count + 1) totals k 0 (omega arith) in omega (arith, one, other))
        | inr more ↦ (let one = taken_past totals count k more in let other = taken_past totals (count + 1) k (omega arith) in omega (arith, one, other))
      ])
    ]

-- the order of the sizes
pub larger_order : IsStrictWeakOrder comes_first
larger_order = record { one_way = one_way; chain = chain }
  where
    one_way : (x y : Run) → comes_first x y ≡ true → comes_first y x ≡ false
    one_way x y h = false_from_ne_true (comes_first y x) (λ k.
        elim (less_or-cases y.size x.size (nat_lt x.part y.part) h) [
          | inl more ↦ elim (less_or-cases x.size y.size (nat_lt y.part x.part) k) [ inl less ↦ omega arith | inr (same, _) ↦ omega arith ]
          | inr (same, first) ↦ elim (less_or-cases x.size y.size (nat_lt y.part x.part) k) [
            | inl less ↦ omega arith
            | inr (_, second) ↦ (let p = ltb-true x.part y.part first in let q = ltb-true y.part x.part second in omega (arith, p, q))
          ]
        ])

    chain : (x y z : Run) → comes_first x y ≡ false → comes_first y z ≡ false → comes_first x z ≡ false
    chain x y z h k = false_from_ne_true (comes_first x z) (λ t.
        let (down, last) = less_or-parts y.size x.size (nat_lt x.part y.part) h in
        let (down', last') = less_or-parts z.size y.size (nat_lt y.part z.part) k in
        elim (less_or-cases z.size x.size (nat_lt x.part z.part) t) [
          | inl more ↦ omega arith
          | inr (same, first) ↦
              let p = ltb-false x.part y.part (last (omega arith)) in
              let q = ltb-false y.part z.part (last' (omega arith)) in
              let r = ltb-true x.part z.part first in
              omega (arith, p, q, r)
        ])

-- the sizes in another order
pub sorted_sizes : (runs sizes sorted : List Run) (totals : List ℕ) → AreTotals runs totals → IsListed totals (length totals) sizes → IsPermutation sizes sorted → IsLargestFirst sorted → AreSizes runs sorted
sorted_sizes runs sizes sorted totals are list moved largest =
    let whole : take (length totals) totals ≡ totals = take_all (length totals) totals (omega arith) in
    record {
      each =
          All-permutation (λ (one : Run). (0 < one.size) × (one.size ≡ bytes_of one.part runs)) sizes sorted moved
          (All-weaker (λ (one : Run). (0 < one.size) × (one.size ≡ get_or totals one.part 0)) (λ (one : Run). (0 < one.size) × (one.size ≡ bytes_of one.part runs))
          (λ one holds. (holds.0, holds.1 ∙ are.each one.part)) sizes list.each);
      none_left_out = λ part.
          sum_by-IsPermutation (λ (run : Run). if run.part == part then run.size else 0) sizes sorted moved
          ∙ (list.none_left_out part ∙ (ap (λ (xs : List ℕ). get_or xs part 0) whole ∙ are.each part));
      sum = sum_by-IsPermutation (λ (run : Run). run.size) sizes sorted moved ∙ (list.sum ∙ (ap (λ (xs : List ℕ). sum xs) whole ∙ are.sum));
      largest_first = largest;
    }
