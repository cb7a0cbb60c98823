-- Words that are sorted by their keys, and each run of them with one first address by their claims, are in order.
use Rattle.std.proofs.Common.{◌≡◌, ℕ, ◌<◌, ◌≤◌, ◌+◌, ◌-◌, ◌/◌, ◌^◌, Bool, false, List, ◌++◌, length, map, slice_index, get_or, Option, ◌⊎◌, inl, inr, ap, subst, sym, ◌∙◌, arith}
use Rattle.std.specs.List.{All}
use Rattle.std.specs.List.Sorted.{IsPermutation, IsSortedBy, IsSortedWithin}
use Rattle.std.proofs.lemmas.Bool.{cases_eq, cases_lt}
use Rattle.std.proofs.lemmas.Grind.{same_number_lists}
use Rattle.std.proofs.lemmas.List.{get_or-append_right, get_or-map, get_or_append_left, get_or_default, length-map}
use Rattle.std.proofs.lemmas.List.Elements.{Contains-get_or}
use Rattle.std.proofs.lemmas.List.Sorted.{Contains-permutation, IsPermutation-append_left, IsPermutation-append_right, IsPermutation-sym, IsPermutation-trans, length_permutation}
use Rattle.elf_addresses.specs.Index.{IsRising, is_behind, is_worse}
use Rattle.elf_addresses.specs.Keys.{AreKeys, IsKey, key_index}
use Rattle.elf_addresses.specs.declared.claim.Claim.{Claim}
use Rattle.elf_addresses.proofs.Order.{less_or-more}

-- a list of which each number is got from the one at its place in another
pub map_at : (f : ℕ → ℕ) (xs ys : List ℕ) → length ys ≡ length xs → ((k : ℕ) → k < length xs → slice_index ys k ≡ f (slice_index xs k)) → ys ≡ map f xs
map_at f xs ys same at = same_number_lists ys (map f xs) (same ∙ sym (length-map xs f)) (λ k less.
    let within : k < length xs = subst (λ n. k < n) same less in
    at k within ∙ sym (get_or-map f xs k 0 0 within))

-- the words that are read from keys
pub keys_read : (range_of : ℕ → ℕ × ℕ) (least : ℕ) (words keys : List ℕ) → words ≡ map key_index keys → All (IsKey range_of least) keys → AreKeys range_of words keys
keys_read range_of least words keys is all = record {
  least = least;
  count = sym (ap (λ (xs : List ℕ). length xs) is ∙ length-map keys key_index);
  begin_at = λ place less.
      let within : place < length keys = subst (λ n. place < n) (ap (λ (xs : List ℕ). length xs) is ∙ length-map keys key_index) less in
      let at : slice_index words place ≡ key_index (slice_index keys place) = ap (λ (xs : List ℕ). get_or xs place 0) is ∙ get_or-map key_index keys place 0 0 within in
      ap (λ (i : ℕ). (range_of i).0) at ∙ all place 0 within;
}

-- a part r of a list that is sorted to s, after a and before z
module _ (a r s z : List ℕ) (start end : ℕ) (before : length a ≡ start) (part : length r ≡ end - start) (up : start < end) (moved : IsPermutation r s) where
  part_new : length s ≡ end - start
  part_new = length_permutation r s moved ∙ part

  pub run_moved : IsPermutation (a ++ (r ++ z)) (a ++ (s ++ z))
  run_moved = IsPermutation-append_right a (r ++ z) (s ++ z) (IsPermutation-append_left z r s moved)

  in_part : (xs : List ℕ) (k d : ℕ) → length xs ≡ end - start → start ≤ k → k < end → get_or (a ++ (xs ++ z)) k d ≡ get_or xs (k - start) d
  in_part xs k d many from to = get_or-append_right a (xs ++ z) start k d before from ∙ get_or_append_left xs z d (k - start) (omega (arith, many))

  pub run_inside : (place : ℕ) → start ≤ place → place < end → (was : ℕ) × (start ≤ was) × (was < end) × (slice_index (a ++ (s ++ z)) place ≡ slice_index (a ++ (r ++ z)) was)
  run_inside place from to =
      let x = get_or s (place - start) 0 in
      let less : place - start < length s = omega (arith, part_new) in
      let (k, within, at) = Contains-permutation s r x (IsPermutation-sym r s moved) (Contains-get_or s (place - start) 0 less) in
      let below : k < end - start = subst (λ n. k < n) part within in
      let there : get_or r k 0 ≡ x = get_or_default r k 0 x within ∙ at in
      let back : start + k - start ≡ k = omega arith in
      let old : slice_index (a ++ (r ++ z)) (start + k) ≡ x = in_part r (start + k) 0 part (omega arith) (omega arith) ∙ (ap (λ i. get_or r i 0) back ∙ there) in
      (start + k, omega arith, omega arith, in_part s place 0 part_new from to ∙ sym old)

  pub run_sorted : (lt : ℕ → ℕ → Bool) → IsSortedBy lt s → IsSortedWithin lt (a ++ (s ++ z)) start end
  run_sorted lt sorted = λ k d from to.
      let here : get_or (a ++ (s ++ z)) k d ≡ get_or s (k - start) d = in_part s k d part_new from (omega arith) in
      let after : k + 1 - start ≡ k - start + 1 = omega arith in
      let next : get_or (a ++ (s ++ z)) (k + 1) d ≡ get_or s (k - start + 1) d = in_part s (k + 1) d part_new (omega arith) to ∙ ap (λ i. get_or s i d) after in
      let fails : lt (get_or s (k - start + 1) d) (get_or s (k - start) d) ≡ false = sorted (k - start) d (omega arith) (omega (arith, part_new)) in
      rw (here, next) fails

-- the part of a key that is of its first address
abbrev pub high : List ℕ → ℕ → ℕ
high keys place = slice_index keys place / 2 ^ 32

module _ (claim_of : ℕ → Option Claim) (range_of : ℕ → ℕ × ℕ) (keys : List ℕ) where
  -- words of these keys are sorted up to a place, where a run begins
  pub record SortedTo (was words : List ℕ) (start : ℕ) : Type 0 where
    pub bound : start ≤ length words
    pub moved : IsPermutation was words
    pub are : AreKeys range_of words keys
    pub sorted : IsSortedWithin (is_worse claim_of range_of) words 0 start
    pub edge : (place : ℕ) → place + 1 ≡ start → start < length words → high keys start ≡ high keys place → ⊥

  pub sorted_first : (words : List ℕ) → AreKeys range_of words keys → IsPermutation words words → SortedTo words words 0
  sorted_first words are moved = record {
    bound = omega arith;
    moved = moved;
    are = are;
    sorted = λ k d from to. absurd (omega arith);
    edge = λ place at less same. omega arith;
  }

  -- of two words, the one with the greater first address is not the worse
  later_begin : (one other : ℕ) → (range_of other).0 < (range_of one).0 → is_worse claim_of range_of one other ≡ false
  later_begin one other less = less_or-more (range_of one).0 (range_of other).0 (is_behind (claim_of one) (claim_of other)) less

  module _ (words words' : List ℕ) (start end : ℕ) (up : start < end) (bound : end ≤ length words) (many : length words' ≡ length words) (rising : IsRising keys) (are : AreKeys range_of words keys) (run : (place : ℕ) → start ≤ place → place < end → high keys place ≡ high keys start) (outside : (place : ℕ) → (place < start) ⊎ (end ≤ place) → slice_index words' place ≡ slice_index words place) (inside : (place : ℕ) → start ≤ place → place < end → (was : ℕ) × (start ≤ was) × (was < end) × (slice_index words' place ≡ slice_index words was)) where
    same_begin : (place : ℕ) → place < length words → (range_of (slice_index words' place)).0 ≡ are.least + high keys place
    same_begin place less = elim (cases_lt place start) [
      | inl before ↦ ap (λ (i : ℕ). (range_of i).0) (outside place (inl before)) ∙ are.begin_at place less
      | inr from ↦ elim (cases_lt place end) [
        | inl to ↦
            let (was, low, high', at) = inside place from to in
            let here : high keys was ≡ high keys place = run was low high' ∙ sym (run place from to) in
            ap (λ (i : ℕ). (range_of i).0) at ∙ (are.begin_at was (omega arith) ∙ ap (λ (n : ℕ). are.least + n) here)
        | inr past ↦ ap (λ (i : ℕ). (range_of i).0) (outside place (inr past)) ∙ are.begin_at place less
      ]
    ]

    pub keys_kept : AreKeys range_of words' keys
    keys_kept = record {
      least = are.least;
      count = are.count ∙ sym many;
      begin_at = λ place less. same_begin place (subst (λ n. place < n) many less);
    }

    -- at the edge of a run, the first address grows
    edge_grows : (place : ℕ) → place + 1 ≡ start → (high keys start ≡ high keys place → ⊥) → high keys place < high keys start
    edge_grows place at differ =
        let within : start < length keys = omega (arith, are.count) in
        let le : slice_index keys place ≤ slice_index keys start = rising place start (omega arith) within in
        let le' : high keys place ≤ high keys start = omega arith in
        elim (cases_eq (high keys start) (high keys place)) [ inl same ↦ absurd (differ same) | inr other ↦ omega arith ]

    pub sorted_run : IsSortedWithin (is_worse claim_of range_of) words 0 start → ((place : ℕ) → place + 1 ≡ start → start < length words → high keys start ≡ high keys place → ⊥) → IsSortedWithin (is_worse claim_of range_of) words' start end → IsSortedWithin (is_worse claim_of range_of) words' 0 end
    sorted_run sorted edge sorted' = λ k d from to.
        let one : get_or words' k d ≡ get_or words' k 0 = get_or_default words' k d 0 (omega (arith, many)) in
        let other : get_or words' (k + 1) d ≡ get_or words' (k + 1) 0 = get_or_default words' (k + 1) d 0 (omega (arith, many)) in
        let at : is_worse claim_of range_of (get_or words' (k + 1) 0) (get_or words' k 0) ≡ false = by_place k to in
        rw (one, other) at
      where
        by_place : (k : ℕ) → k + 1 < end → is_worse claim_of range_of (get_or words' (k + 1) 0) (get_or words' k 0) ≡ false
        by_place k to = elim (cases_lt k start) [
          | inr from ↦ sorted' k 0 from to
          | inl less ↦ elim (cases_eq (k + 1) start) [
            | inl edge' ↦
                let grows : high keys k < high keys start = edge_grows k edge' (edge k edge' (omega arith)) in
                let here : (range_of (slice_index words' k)).0 ≡ are.least + high keys k = same_begin k (omega arith) in
                let next : (range_of (slice_index words' (k + 1))).0 ≡ are.least + high keys (k + 1) = same_begin (k + 1) (omega arith) in
                let at : high keys (k + 1) ≡ high keys start = ap (λ (i : ℕ). high keys i) edge' in
                later_begin (slice_index words' (k + 1)) (slice_index words' k) (omega (arith, grows, here, next, at))
            | inr before ↦
                let below : k + 1 < start = omega arith in
                let one : slice_index words' k ≡ slice_index words k = outside k (inl less) in
                let other : slice_index words' (k + 1) ≡ slice_index words (k + 1) = outside (k + 1) (inl below) in
                let fails : is_worse claim_of range_of (slice_index words (k + 1)) (slice_index words k) ≡ false = sorted k 0 (omega arith) below in
                rw (one, other) fails
          ]
        ]

  -- with the next run the words are sorted to its end
  pub sorted_more : (was words words' : List ℕ) (start end : ℕ) → start < end → end ≤ length words → length words' ≡ length words → IsRising keys → ((place : ℕ) → start ≤ place → place < end → high keys place ≡ high keys start) → (end < length keys → high keys end ≡ high keys start → ⊥) → IsPermutation words words' → ((place : ℕ) → (place < start) ⊎ (end ≤ place) → slice_index words' place ≡ slice_index words place) → ((place : ℕ) → start ≤ place → place < end → (old : ℕ) × (start ≤ old) × (old < end) × (slice_index words' place ≡ slice_index words old)) → IsSortedWithin (is_worse claim_of range_of) words' start end → SortedTo was words start → SortedTo was words' end
  sorted_more was words words' start end up bound many rising run other moved outside inside sorted' so_far = record {
    bound = omega (arith, many);
    moved = IsPermutation-trans was words words' so_far.moved moved;
    are = keys_kept words words' start end up bound many rising so_far.are run outside inside;
    sorted = sorted_run words words' start end up bound many rising so_far.are run outside inside so_far.sorted so_far.edge sorted';
    edge = λ place at less same.
        let within : end < length keys = omega (arith, so_far.are.count, many) in
        let here : high keys place ≡ high keys start = run place (omega arith) (omega arith) in
        other within (same ∙ here);
  }
