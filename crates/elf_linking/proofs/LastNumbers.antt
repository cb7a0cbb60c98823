-- The last numbers of tags, noted entry by entry.
use Rattle.std.proofs.Common.{◌≡◌, ◌≢◌, ℕ, ◌-◌, ◌<◌, ◌≤◌, ◌⊎◌, ◌==◌, ◌&&◌, inl, inr, nat_le, nat_lt, arith, Bool, true, false, List, [], ◌∷◌, length, Option, Some, None, if◌then◌else◌, refl, sym, ap, ◌∙◌, subst}
use Rattle.std.proofs.lemmas.Bool.{and_parts, cases_eq, eq-eqb, eqb-true, leb-true, ltb-false, ltb-true, ne_eqb}
use Rattle.std.proofs.lemmas.List.{get_or-replicate, get_or_past, get_or-set_other, get_or-set_same, length-set}
use Rattle.std.specs.Prelude.{replicate, slice_index_or, slice_set, filter, map}
use Rattle.std.specs.List.{last_or}
use Rattle.elf_linking.specs.Entries.{number_with}
use Rattle.elf_linking.specs.LastNumbers.{AreLast, noted, noted_at, slot_of}
use Rattle.elf_linking.specs.declared.view.tags.TheConstants.{DT_GNU_HASH}
use Rattle.elf_records.specs.Dynamic.{dynamic_tag, dynamic_value}
use Rattle.elf_records.specs.declared.dynamic.Dynamic.{Dynamic}

-- which tags have a slot
data HasSlot (tag slot : ℕ) : Type 0 where
  low : tag < 32 → slot ≡ tag → HasSlot tag slot
  version : 0x6ffffff0 ≤ tag → tag ≤ 0x6fffffff → slot ≡ tag - 0x6fffffd0 → HasSlot tag slot
  gnu : tag ≡ 0x6ffffef5 → slot ≡ 48 → HasSlot tag slot

some_is : (one other : ℕ) → ◌≡◌ {A = Option ℕ} (Some one) (Some other) → other ≡ one
some_is one other same = cc

module _ (tag slot : ℕ) where
  by_gnu : (b : Bool) → (tag == DT_GNU_HASH) ≡ b → (if b then Some 48 else None) ≡ Some slot → HasSlot tag slot
  by_gnu true is some = gnu (eqb-true tag DT_GNU_HASH is) (some_is 48 slot some)
  by_gnu false is some = absurd (cc)

  by_version : (b : Bool) → (nat_le 0x6ffffff0 tag && nat_le tag 0x6fffffff) ≡ b
      → (if b then Some (tag - 0x6fffffd0) else (if tag == DT_GNU_HASH then Some 48 else None)) ≡ Some slot → HasSlot tag slot
  by_version true is some =
      let both = and_parts (nat_le 0x6ffffff0 tag) (nat_le tag 0x6fffffff) is in
      version (leb-true 0x6ffffff0 tag both.0) (leb-true tag 0x6fffffff both.1) (some_is (tag - 0x6fffffd0) slot some)
  by_version false is some = by_gnu (tag == DT_GNU_HASH) refl some

  by_low : (b : Bool) → nat_lt tag 32 ≡ b
      → (if b then Some tag else (if nat_le 0x6ffffff0 tag && nat_le tag 0x6fffffff then Some (tag - 0x6fffffd0) else (if tag == DT_GNU_HASH then Some 48 else None))) ≡ Some slot → HasSlot tag slot
  by_low true is some = low (ltb-true tag 32 is) (some_is tag slot some)
  by_low false is some = by_version (nat_le 0x6ffffff0 tag && nat_le tag 0x6fffffff) refl some

  has_slot : slot_of tag ≡ Some slot → HasSlot tag slot
  has_slot some = by_low (nat_lt tag 32) refl some

below : (tag slot : ℕ) → HasSlot tag slot → slot < 49
below tag slot (low small is) = omega (arith, small, is)
below tag slot (version above upto is) = omega (arith, above, upto, is)
below tag slot (gnu is at) = omega (arith, at)

-- two tags have two slots
once : (one other slot : ℕ) → HasSlot one slot → HasSlot other slot → one ≡ other
once one other slot (low a is) (low b at) = omega (arith, is, at)
once one other slot (low a is) (version b c at) = omega (arith, a, is, b, c, at)
once one other slot (low a is) (gnu b at) = omega (arith, a, is, at)
once one other slot (version a b is) (low c at) = omega (arith, a, b, is, c, at)
once one other slot (version a b is) (version c d at) = omega (arith, a, b, is, c, d, at)
once one other slot (version a b is) (gnu c at) = omega (arith, a, b, is, at)
once one other slot (gnu a is) (low b at) = omega (arith, is, b, at)
once one other slot (gnu a is) (version b c at) = omega (arith, is, b, c, at)
once one other slot (gnu a is) (gnu b at) = omega (arith, a, b)

-- the numbers in the entries with a tag, in order
abbrev pub numbers_with : ℕ → List (Dynamic ℕ) → List ℕ
numbers_with tag entries = map (λ entry. dynamic_value entry) (filter (λ (entry : Dynamic ℕ). dynamic_tag entry == tag) entries)

-- the last number of the remaining entries, or else an earlier one, entry by entry
pub number_none : (tag : ℕ) (old : Option ℕ) (entries : List (Dynamic ℕ)) → entries ≡ [] → last_or old (numbers_with tag entries) ≡ old
number_none tag old entries is = ap (λ e. last_or old (numbers_with tag e)) is

module _ (tag : ℕ) (old : Option ℕ) (entries others : List (Dynamic ℕ)) (entry : Dynamic ℕ) (is : entries ≡ entry ∷ others) where
  pub number_hit : dynamic_tag entry ≡ tag → last_or old (numbers_with tag entries) ≡ last_or (Some (dynamic_value entry)) (numbers_with tag others)
  number_hit same = ap (λ e. last_or old (numbers_with tag e)) is ∙ rw (eq-eqb (dynamic_tag entry) tag same) refl

  pub number_other : dynamic_tag entry ≢ tag → last_or old (numbers_with tag entries) ≡ last_or old (numbers_with tag others)
  number_other other = ap (λ e. last_or old (numbers_with tag e)) is ∙ rw (ne_eqb (dynamic_tag entry) tag other) refl

-- the numbers of the remaining entries, and else those noted so far, are the last numbers
pub record AreNoted (numbers : List (Option ℕ)) (rest all : List (Dynamic ℕ)) : Type 0 where
  pub long : length numbers ≡ 49
  pub each : (tag slot : ℕ) → slot_of tag ≡ Some slot
      → last_or (slice_index_or numbers slot None) (numbers_with tag rest) ≡ number_with tag all

module _ (entry : Dynamic ℕ) (rest others all : List (Dynamic ℕ)) (is : rest ≡ entry ∷ others) (numbers : List (Option ℕ)) (are : AreNoted numbers rest all) where
  -- an entry with another tag is passed
  passed : (tag slot : ℕ) → slot_of tag ≡ Some slot → dynamic_tag entry ≢ tag → last_or (slice_index_or numbers slot None) (numbers_with tag others) ≡ number_with tag all
  passed tag slot has other = sym (number_other tag (slice_index_or numbers slot None) rest others entry is other) ∙ are.each tag slot has

  -- an entry whose tag has no slot
  unnoted : slot_of (dynamic_tag entry) ≡ None → AreNoted numbers others all
  unnoted none = record {
    long = are.long;
    each = λ tag slot has.
        let other : dynamic_tag entry ≢ tag = λ same. (let no : ◌≡◌ {A = Option ℕ} None (Some slot) = sym none ∙ ap slot_of same ∙ has in cc) in
        passed tag slot has other;
  }

  module _ (place : ℕ) (at : slot_of (dynamic_tag entry) ≡ Some place) where
    abbrev with_number : List (Option ℕ)
    with_number = slice_set numbers place (Some (dynamic_value entry))

    -- its slot takes the number
    taken : AreNoted with_number others all
    taken = record { long = length-set numbers place (Some (dynamic_value entry)) ∙ are.long; each = λ tag slot has. go tag slot has (cases_eq slot place) }
      where
        go : (tag slot : ℕ) → slot_of tag ≡ Some slot → (slot ≡ place) ⊎ (slot ≢ place)
            → last_or (slice_index_or with_number slot None) (numbers_with tag others) ≡ number_with tag all
        go tag slot has (inl same) =
            let one : dynamic_tag entry ≡ tag = once (dynamic_tag entry) tag place (has_slot (dynamic_tag entry) place at) (has_slot tag place (subst (λ s. slot_of tag ≡ Some s) same has)) in
            let small : place < length numbers = omega (arith, below (dynamic_tag entry) place (has_slot (dynamic_tag entry) place at), are.long) in
            let new : slice_index_or with_number slot None ≡ Some (dynamic_value entry) = ap (λ s. slice_index_or with_number s None) same ∙ get_or-set_same numbers place (Some (dynamic_value entry)) None small in
            ap (λ o. last_or o (numbers_with tag others)) new ∙ sym (number_hit tag (slice_index_or numbers slot None) rest others entry is one) ∙ are.each tag slot has
        go tag slot has (inr different) =
            let other : dynamic_tag entry ≢ tag = λ same. different (some_is place slot (sym at ∙ ap slot_of same ∙ has)) in
            ap (λ o. last_or o (numbers_with tag others)) (get_or-set_other numbers place slot (Some (dynamic_value entry)) None different) ∙ passed tag slot has other

  by_slot : (slot : Option ℕ) → slot_of (dynamic_tag entry) ≡ slot → AreNoted (noted_at slot (dynamic_value entry) numbers) others all
  by_slot None none = unnoted none
  by_slot (Some place) at = taken place at

-- one more entry
pub one_noted : (entry : Dynamic ℕ) (rest others all : List (Dynamic ℕ)) → rest ≡ entry ∷ others → (numbers after : List (Option ℕ)) → after ≡ noted (dynamic_tag entry) (dynamic_value entry) numbers → AreNoted numbers rest all → AreNoted after others all
one_noted entry rest others all is numbers after now are = subst (λ n. AreNoted n others all) (sym now) (by_slot entry rest others all is numbers are (slot_of (dynamic_tag entry)) refl)

-- no number is noted at the start
pub none_noted : (numbers : List (Option ℕ)) (all : List (Dynamic ℕ)) → length numbers ≡ 49 → ((slot : ℕ) → slice_index_or numbers slot None ≡ None) → AreNoted numbers all all
none_noted numbers all long none = record { long = long; each = λ tag slot has. ap (λ o. last_or o (numbers_with tag all)) (none slot) }

-- at the end all are
pub all_noted : (numbers : List (Option ℕ)) (rest all : List (Dynamic ℕ)) → rest ≡ [] → AreNoted numbers rest all → AreLast numbers all
all_noted numbers rest all ended are = λ tag slot has.
    sym (number_none tag (slice_index_or numbers slot None) rest ended) ∙ are.each tag slot has

-- all slots are empty at the start
abbrev nothing : Option ℕ
nothing = None

pub none_at : (slot : ℕ) → slice_index_or (replicate 49 nothing) slot nothing ≡ nothing
none_at slot = go (nat_lt slot 49) refl
  where
    go : (b : Bool) → nat_lt slot 49 ≡ b → slice_index_or (replicate 49 nothing) slot nothing ≡ nothing
    go true is = get_or-replicate 49 slot nothing nothing (ltb-true slot 49 is)
    go false is = get_or_past (replicate 49 nothing) slot nothing (ltb-false slot 49 is)
