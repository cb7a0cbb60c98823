-- Marks: which words they are of, mark by mark.
use Rattle.std.proofs.Common.{◌≡◌, ℕ, zero, suc, ◌+◌, ◌-◌, ◌*◌, ◌/◌, ◌%◌, ◌^◌, ◌<◌, ◌≤◌, ◌==◌, ◌&&◌, ◌||◌, not, nat_lt, nat_le, Bool, true, false, List, ◌∷◌, length, slice_index, inl, inr, min, max, refl, sym, ap, ◌∙◌, subst, arith}
use Rattle.std.proofs.lemmas.Bool.{and_from, and_parts, and_right, cases_eq, eq-eqb, eqb-false, eqb-true, false≢true, le-leb, le-ltb, leb-true, lt-ltb, ltb-true, ne_eqb, or_cases, or_left, or_right}
use Rattle.std.proofs.lemmas.List.{get_or-set_other, get_or-set_same}
use Rattle.std.proofs.lemmas.List.Folds.{Any-from_list_any, list_any-from_Any}
use Rattle.std.proofs.lemmas.Nat.Bits.{bit_at-lt, bit_at-zero, bit_at_ones, bit_at_set_other, bit_at_set_same}
use Rattle.std.proofs.Math.ListN.{set}
use Rattle.std.specs.Int.{w8, bit_at}
use Rattle.std.specs.Prelude.{bit_or}
use Rattle.std.specs.List.{list_any}
use Rattle.elf_loading.specs.ImageWords.{AreMarksOf, covers, is_marked, overlaps, some_marked}
use Rattle.elf_loading.specs.declared.words.Word.{Word}

-- a test that is true where another is, and only there
pub same_tests : (a b : Bool) → (a ≡ true → b ≡ true) → (b ≡ true → a ≡ true) → a ≡ b
same_tests true b to from = sym (to refl)
same_tests false true to from = from refl
same_tests false false to from = refl

-- One mark.

-- a byte with one bit more
abbrev pub with_bit : ℕ → ℕ → ℕ
with_bit byte k = bit_or byte (1 * 2 ^ k % 2 ^ 8)

module _ (marks : List ℕ) (index : ℕ) (below : index < 8 * length marks) where
  abbrev byte_at : ℕ
  byte_at = index / 8

  abbrev pub marks_after : List ℕ
  marks_after = set marks byte_at (with_bit (slice_index marks byte_at) (index % 8))

  set_there : is_marked marks_after index ≡ true
  set_there =
      let byte : slice_index marks_after byte_at ≡ with_bit (slice_index marks byte_at) (index % 8) = get_or-set_same marks byte_at _ 0 (omega (arith, below)) in
      rw (byte, bit_at_set_same w8 (slice_index marks byte_at) (index % 8) (omega arith)) refl

  kept_elsewhere : (i : ℕ) → (i ≡ index → ⊥) → is_marked marks_after i ≡ is_marked marks i
  kept_elsewhere i apart = elim (cases_eq (i / 8) byte_at) [
    | inl same ↦
        let byte : slice_index marks_after byte_at ≡ with_bit (slice_index marks byte_at) (index % 8) = get_or-set_same marks byte_at _ 0 (omega (arith, below)) in
        rw (same, byte, bit_at_set_other w8 (slice_index marks byte_at) (index % 8) (omega arith) (i % 8) (λ is. apart (omega (arith, same, is)))) refl
    | inr other ↦ ap (λ byte. bit_at byte (i % 8) == 1) (get_or-set_other marks byte_at (i / 8) _ 0 other)
  ]

  pub one_marked : (i : ℕ) → is_marked marks_after i ≡ (i == index || is_marked marks i)
  one_marked i = elim (cases_eq i index) [
    | inl is ↦ ap (is_marked marks_after) is ∙ set_there ∙ sym (or_left (i == index) (is_marked marks i) (eq-eqb i index is))
    | inr apart ↦ kept_elsewhere i apart ∙ ap (λ b. b || is_marked marks i) (sym (ne_eqb i index apart))
  ]

-- Many marks.

pub some_more : (marks : List ℕ) (start count : ℕ) → some_marked marks start (count + 1) ≡ (some_marked marks start count || is_marked marks (start + count))
some_more marks start count = let e : count + 1 ≡ suc count = omega arith in ap (some_marked marks start) e

some_found : (marks : List ℕ) (start count : ℕ) → some_marked marks start count ≡ true → (k : ℕ) × (k < count) × (is_marked marks (start + k) ≡ true)
some_found marks start zero is = absurd (cc)
some_found marks start (suc count) is = elim (or_cases (some_marked marks start count) (is_marked marks (start + count)) is) [
  | inl before ↦ let (k, below, marked) = some_found marks start count before in (k, omega (arith, below), marked)
  | inr last ↦ (count, omega arith, last)
]

some_at : (marks : List ℕ) (start count k : ℕ) → k < count → is_marked marks (start + k) ≡ true → some_marked marks start count ≡ true
some_at marks start zero k below is = absurd (omega (arith, below))
some_at marks start (suc count) k below is = elim (cases_eq k count) [
  | inl last ↦ or_right (some_marked marks start count) (is_marked marks (start + count)) (subst (λ n. is_marked marks (start + n) ≡ true) last is)
  | inr other ↦ or_left (some_marked marks start count) (is_marked marks (start + count)) (some_at marks start count k (omega (arith, below, other)) is)
]

-- an index is one of as many from `start` on
abbrev pub is_between : ℕ → ℕ → ℕ → Bool
is_between start count i = nat_le start i && nat_lt i (start + count)

between_from : (start count i : ℕ) → start ≤ i → i < start + count → is_between start count i ≡ true
between_from start count i from to = and_from _ _ (le-leb _ _ from) (lt-ltb _ _ to)

between_parts : (start count i : ℕ) → is_between start count i ≡ true → (start ≤ i) × (i < start + count)
between_parts start count i is = let (from, to) = and_parts (nat_le start i) (nat_lt i (start + count)) is in (leb-true _ _ from, ltb-true _ _ to)

-- The eight marks of a byte.

module _ (marks : List ℕ) (start : ℕ) (whole : start % 8 ≡ 0) where
  abbrev byte_of : ℕ
  byte_of = slice_index marks (start / 8)

  byte_bit : (k : ℕ) → k < 8 → is_marked marks (start + k) ≡ (bit_at byte_of k == 1)
  byte_bit k less =
      let place : (start + k) / 8 ≡ start / 8 = omega (arith, whole, less) in
      let bit : (start + k) % 8 ≡ k = omega (arith, whole, less) in
      rw (place, bit) refl

  no_bit : (k : ℕ) → k < 8 → some_marked marks start 8 ≡ false → bit_at byte_of k ≡ 0
  no_bit k less none = by_bit (bit_at byte_of k == 1) refl
    where
      by_bit : (b : Bool) → (bit_at byte_of k == 1) ≡ b → bit_at byte_of k ≡ 0
      by_bit true is = absurd (false≢true (sym none ∙ some_at marks start 8 k less (byte_bit k less ∙ is)))
      by_bit false is = let apart : bit_at byte_of k ≡ 1 → ⊥ = eqb-false _ _ is in let small = bit_at-lt byte_of k in omega (arith, apart, small)

  byte_empty : byte_of < 256 → some_marked marks start 8 ≡ false → byte_of ≡ 0
  byte_empty below none =
      let b0 : byte_of / 1 % 2 ≡ 0 = no_bit 0 (omega arith) none in
      let b1 : byte_of / 2 % 2 ≡ 0 = no_bit 1 (omega arith) none in
      let b2 : byte_of / 4 % 2 ≡ 0 = no_bit 2 (omega arith) none in
      let b3 : byte_of / 8 % 2 ≡ 0 = no_bit 3 (omega arith) none in
      let b4 : byte_of / 16 % 2 ≡ 0 = no_bit 4 (omega arith) none in
      let b5 : byte_of / 32 % 2 ≡ 0 = no_bit 5 (omega arith) none in
      let b6 : byte_of / 64 % 2 ≡ 0 = no_bit 6 (omega arith) none in
      let b7 : byte_of / 128 % 2 ≡ 0 = no_bit 7 (omega arith) none in
      omega (arith, below, b0, b1, b2, b3, b4, b5, b6, b7)

  byte_some : some_marked marks start 8 ≡ true → byte_of ≡ 0 → ⊥
  byte_some some empty =
      let (k, less, marked) = some_found marks start 8 some in
      let bit : bit_at byte_of k ≡ 1 = eqb-true _ _ (sym (byte_bit k less) ∙ marked) in
      let none : bit_at byte_of k ≡ 0 = ap (λ n. bit_at n k) empty ∙ bit_at-zero k in
      omega (arith, bit, none)

  was_by : (b : Bool) → byte_of < 256 → some_marked marks start 8 ≡ b → not (byte_of == 0) ≡ b
  was_by true below is = rw (ne_eqb byte_of 0 (byte_some is)) refl
  was_by false below is = rw (eq-eqb byte_of 0 (byte_empty below is)) refl

  pub byte_was : byte_of < 256 → not (byte_of == 0) ≡ some_marked marks start 8
  byte_was below = was_by (some_marked marks start 8) below refl

  abbrev full : List ℕ
  full = set marks (start / 8) 255

  pub byte_set : start + 8 ≤ 8 * length marks → (i : ℕ) → is_marked full i ≡ (is_between start 8 i || is_marked marks i)
  byte_set room i = elim (cases_eq (i / 8) (start / 8)) [
    | inl same ↦
        let there : slice_index full (i / 8) ≡ 255 = ap (slice_index full) same ∙ get_or-set_same marks (start / 8) 255 0 (omega (arith, room)) in
        let bit : bit_at 255 (i % 8) ≡ 1 = bit_at_ones 8 (i % 8) (omega arith) in
        rw (there, bit) (sym (or_left (is_between start 8 i) (is_marked marks i) (between_from start 8 i (omega (arith, same, whole)) (omega (arith, same, whole)))))
    | inr other ↦
        ap (λ byte. bit_at byte (i % 8) == 1) (get_or-set_other marks (start / 8) (i / 8) 255 0 other)
        ∙ ap (λ b. b || is_marked marks i) (sym (by_between (is_between start 8 i) refl other))
  ]
    where
      by_between : (b : Bool) → is_between start 8 i ≡ b → (i / 8 ≡ start / 8 → ⊥) → is_between start 8 i ≡ false
      by_between true is other = let (from, to) = between_parts start 8 i is in absurd (other (omega (arith, from, to, whole)))
      by_between false is other = is

pub none_between : (start i : ℕ) (b : Bool) → b ≡ (is_between start 0 i || b)
none_between start i b = ap (λ t. t || b) (same_tests false (is_between start 0 i) (λ never. absurd (cc)) (λ is. absurd (let (from, to) = between_parts start 0 i is in omega (arith, from, to))))

between_more : (start count i : ℕ) → is_between start (count + 1) i ≡ (i == start + count || is_between start count i)
between_more start count i = same_tests _ _ to from
  where
    to : is_between start (count + 1) i ≡ true → (i == start + count || is_between start count i) ≡ true
    to is = let (low, high) = between_parts start (count + 1) i is in elim (cases_eq i (start + count)) [
      | inl last ↦ or_left _ _ (eq-eqb i (start + count) last)
      | inr other ↦ or_right _ _ (between_from start count i low (omega (arith, high, other)))
    ]

    from : (i == start + count || is_between start count i) ≡ true → is_between start (count + 1) i ≡ true
    from is = elim (or_cases (i == start + count) (is_between start count i) is) [
      | inl last ↦ let same = eqb-true i (start + count) last in between_from start (count + 1) i (omega (arith, same)) (omega (arith, same))
      | inr other ↦ let (low, high) = between_parts start count i other in between_from start (count + 1) i low (omega (arith, high))
    ]

or_joined : (a b c : Bool) → (a || (b || c)) ≡ ((a || b) || c)
or_joined true b c = refl
or_joined false b c = refl

pub many_more : (start count i : ℕ) (new now old : Bool) → new ≡ (i == start + count || now) → now ≡ (is_between start count i || old) → new ≡ (is_between start (count + 1) i || old)
many_more start count i new now old one so_far =
    one ∙ ap (λ b. i == start + count || b) so_far ∙ or_joined (i == start + count) (is_between start count i) old ∙ ap (λ b. b || old) (sym (between_more start count i))

-- the next mark is as it was
pub next_as_before : (start count : ℕ) (now old : Bool) → now ≡ (is_between start count (start + count) || old) → now ≡ old
next_as_before start count now old is = is ∙ ap (λ b. b || old) (and_right (nat_le start (start + count)) (nat_lt (start + count) (start + count)) (le-ltb _ _ (omega arith)))

-- The marks of words.

-- a word with a byte at an address, and the address
pub covers_parts : (address : ℕ) (word : Word) → covers address word ≡ true → (word.address ≤ address) × (address < word.address + word.width)
covers_parts address word is = let (from, to) = and_parts (nat_le word.address address) (nat_lt address (word.address + word.width)) is in (leb-true _ _ from, ltb-true _ _ to)

covers_from : (address : ℕ) (word : Word) → word.address ≤ address → address < word.address + word.width → covers address word ≡ true
covers_from address word from to = and_from _ _ (le-leb _ _ from) (lt-ltb _ _ to)

covers_between : (start i : ℕ) (word : Word) → start ≤ word.address → is_between (word.address - start) word.width i ≡ covers (start + i) word
covers_between start i word after = same_tests _ _ (λ is. let (from, to) = between_parts (word.address - start) word.width i is in covers_from (start + i) word (omega (arith, from, after)) (omega (arith, to, after)))
    (λ is. let (from, to) = covers_parts (start + i) word is in between_from (word.address - start) word.width i (omega (arith, from, after)) (omega (arith, to, after)))

module _ (start : ℕ) (word : Word) (before : List Word) (old : List ℕ) (after : start ≤ word.address) (marks : AreMarksOf start before old) where
  pub marks_with : (new : List ℕ) → length new ≡ length old → ((i : ℕ) → is_marked new i ≡ (is_between (word.address - start) word.width i || is_marked old i)) → AreMarksOf start (word ∷ before) new
  marks_with new same set_is = record {
    each = λ i below. set_is i ∙ ap (λ b. b || is_marked old i) (covers_between start i word after)
        ∙ ap (λ b. covers (start + i) word || b) (marks.each i (omega (arith, below, same)));
  }

  module _ (fits : word.address - start + word.width ≤ 8 * length old) where
    to_overlap : some_marked old (word.address - start) word.width ≡ true → list_any (overlaps word) before ≡ true
    to_overlap is =
        let (k, below, marked) = some_found old (word.address - start) word.width is in
        let covered : list_any (covers (start + (word.address - start + k))) before ≡ true = sym (marks.each (word.address - start + k) (omega (arith, below, fits))) ∙ marked in
        let (j, other, within, at, has) = Any-from_list_any (covers (start + (word.address - start + k))) before covered in
        let (from, to) = covers_parts (start + (word.address - start + k)) other has in
        list_any-from_Any (overlaps word) before (j, other, within, at, lt-ltb _ _ (omega (arith, below, from, to, after)))

    from_overlap : list_any (overlaps word) before ≡ true → some_marked old (word.address - start) word.width ≡ true
    from_overlap is =
        let (j, other, within, at, meets) = Any-from_list_any (overlaps word) before is in
        let less : max word.address other.address < min (word.address + word.width) (other.address + other.width) = ltb-true _ _ meets in
        let k : ℕ = max word.address other.address - word.address in
        let here : word.address + k ≡ max word.address other.address = omega arith in
        let same : start + (word.address - start + k) ≡ max word.address other.address = omega (arith, after) in
        let covered : list_any (covers (start + (word.address - start + k))) before ≡ true =
        list_any-from_Any (covers (start + (word.address - start + k))) before (j, other, within, at, covers_from (start + (word.address - start + k)) other (omega (arith, same)) (omega (arith, same, less))) in
        let below : k < word.width = omega (arith, here, less) in
        some_at old (word.address - start) word.width k below (marks.each (word.address - start + k) (omega (arith, below, fits)) ∙ covered)

    pub taken_is : some_marked old (word.address - start) word.width ≡ list_any (overlaps word) before
    taken_is = same_tests _ _ to_overlap from_overlap
