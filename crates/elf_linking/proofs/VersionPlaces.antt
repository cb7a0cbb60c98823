-- The places of a list of records, record by record: the computed places are those of the longest list.
use Rattle.std.proofs.Common.{◌≡◌, ◌≢◌, ℕ, zero, suc, ◌+◌, ◌-◌, ◌≤◌, ◌<◌, ◌==◌, ◌&&◌, Bool, true, false, if◌then◌else◌, List, [], ◌∷◌, ◌++◌, length, map, Result, Ok, Err, refl, sym, ap, ◌∙◌, arith}
use Rattle.std.specs.Prelude.{nat_lt, not}
use Rattle.std.proofs.lemmas.Bool.{eq-eqb, eqb-true, eqb-false, ne_eqb, lt-ltb, le-ltb, ltb-true, ltb-false}
use Rattle.elf_linking.specs.declared.error.LinkError.{LinkError}
use Rattle.elf_linking.specs.declared.error.LinkError.TheVariants.{ShortVersion}
use Rattle.elf_linking.specs.VersionTables.{AreChained, none, last, more, ArePlaces, VersionRecords, field, goes_on, is_cut, places_of, error_at_end}

-- no records are left
pub places_end : (records : VersionRecords) (offset start count : ℕ) → count ≡ 0 → places_of records offset start count ≡ []
unfolding places_of
places_end records offset start count done = rw done refl

-- one record: it is cut off, the last, or followed by another
cut_suc : (records : VersionRecords) (offset start count : ℕ) → length records.bytes < start + offset + 4 → places_of records offset start (suc count) ≡ Err ShortVersion ∷ []
unfolding places_of
cut_suc records offset start count short =
    let is : is_cut records offset start ≡ true = lt-ltb _ _ short in rw is refl

last_suc : (records : VersionRecords) (offset start count : ℕ) → start + offset + 4 ≤ length records.bytes → field records 4 start offset ≡ 0 → places_of records offset start (suc count) ≡ Ok start ∷ []
unfolding places_of
last_suc records offset start count whole ends =
    let is : is_cut records offset start ≡ false = le-ltb _ _ whole in
    let done : (field records 4 start offset == 0) ≡ true = eq-eqb _ _ ends in rw (is, done) refl

pub more_suc : (records : VersionRecords) (offset start count : ℕ) → start + offset + 4 ≤ length records.bytes → field records 4 start offset ≢ 0
    → places_of records offset start (suc count) ≡ Ok start ∷ places_of records offset (start + field records 4 start offset) count
unfolding places_of
more_suc records offset start count whole goes =
    let is : is_cut records offset start ≡ false = le-ltb _ _ whole in
    let on : (field records 4 start offset == 0) ≡ false = ne_eqb _ _ goes in rw (is, on) refl

pub place_first : (records : VersionRecords) (offset start count : ℕ) → start + offset + 4 ≤ length records.bytes → (rest : List (Result ℕ LinkError)) × (places_of records offset start (suc count) ≡ Ok start ∷ rest)
unfolding places_of
place_first records offset start count whole =
    let is : is_cut records offset start ≡ false = le-ltb _ _ whole in
    ((if field records 4 start offset == 0 then [] else places_of records offset (start + field records 4 start offset) count), rw is refl)

some_left : (count : ℕ) → count ≢ 0 → count ≡ suc (count - 1)
some_left count some = omega (arith, some)

pub places_cut : (records : VersionRecords) (offset start count : ℕ) → count ≢ 0 → length records.bytes < start + offset + 4 → places_of records offset start count ≡ Err ShortVersion ∷ []
places_cut records offset start count some short =
    ap (places_of records offset start) (some_left count some) ∙ cut_suc records offset start (count - 1) short

pub places_last : (records : VersionRecords) (offset start count : ℕ) → count ≢ 0 → start + offset + 4 ≤ length records.bytes → field records 4 start offset ≡ 0 → places_of records offset start count ≡ Ok start ∷ []
places_last records offset start count some whole ends =
    ap (places_of records offset start) (some_left count some) ∙ last_suc records offset start (count - 1) whole ends

pub places_more : (records : VersionRecords) (offset start count : ℕ) → count ≢ 0 → start + offset + 4 ≤ length records.bytes → field records 4 start offset ≢ 0
    → places_of records offset start count ≡ Ok start ∷ places_of records offset (start + field records 4 start offset) (count - 1)
places_more records offset start count some whole goes =
    ap (places_of records offset start) (some_left count some) ∙ more_suc records offset start (count - 1) whole goes

-- there are no more items than records
fit_by : {A : Type 0} (cut done : Bool) (first error : A) (rest : List A) (count : ℕ) → length rest ≤ count
    → length (if cut then error ∷ [] else first ∷ (if done then [] else rest)) ≤ suc count
fit_by true done first error rest count few = omega arith
fit_by false true first error rest count few = omega arith
fit_by false false first error rest count few = omega (arith, few)

pub places_fit : (records : VersionRecords) (offset start count : ℕ) → length (places_of records offset start count) ≤ count
unfolding places_of
places_fit records offset start zero = omega arith
places_fit records offset start (suc count) =
    let next = field records 4 start offset in
    fit_by (is_cut records offset start) (next == 0) (Ok start) (Err ShortVersion) (places_of records offset (start + next) count) count (places_fit records offset (start + next) count)

-- the list of no records, of one that ends it, and of one before others, is the longest
no_longer : (records : VersionRecords) (offset start : ℕ) → length records.bytes < start + offset + 4 → (others : List ℕ) → AreChained records offset start others → length others ≤ 0
no_longer records offset start short _ (none _) = omega arith
no_longer records offset start short _ (last _ whole) = absurd (omega (arith, short, whole))
no_longer records offset start short _ (more _ places whole goes rest) = absurd (omega (arith, short, whole))

one_longest : (records : VersionRecords) (offset start : ℕ) → field records 4 start offset ≡ 0 → (others : List ℕ) → AreChained records offset start others → length others ≤ 1
one_longest records offset start ends _ (none _) = omega arith
one_longest records offset start ends _ (last _ whole) = omega arith
one_longest records offset start ends _ (more _ places whole goes rest) = absurd (goes ends)

more_longest : (records : VersionRecords) (offset start count most : ℕ)
    → ((others : List ℕ) → AreChained records offset (start + field records 4 start offset) others → length others ≤ count → length others ≤ most)
    → (others : List ℕ) → AreChained records offset start others → length others ≤ suc count → length others ≤ suc most
more_longest records offset start count most longest _ (none _) few = omega arith
more_longest records offset start count most longest _ (last _ whole) few = omega arith
more_longest records offset start count most longest _ (more _ places whole goes rest) few =
    let fewer = longest places rest (omega (arith, few)) in omega (arith, fewer)

-- a list that ends is not cut short
and_false : (b : Bool) → (b && false) ≡ false
and_false true = refl
and_false false = refl

-- a record more on both sides, where others follow the first
less_suc : (a b : ℕ) (c : Bool) → nat_lt a b ≡ c → nat_lt (suc a) (suc b) ≡ c
less_suc a b true is = lt-ltb _ _ (let less = ltb-true a b is in omega (arith, less))
less_suc a b false is = le-ltb _ _ (let most = ltb-false a b is in omega (arith, most))

same_test : (records : VersionRecords) (offset start count : ℕ) (places : List ℕ) → (field records 4 start offset == 0) ≡ false
    → (nat_lt (suc (length places)) (suc count) && goes_on records offset true (start ∷ places)) ≡ (nat_lt (length places) count && goes_on records offset true places)
same_test records offset start count places is =
    ap (λ b. b && goes_on records offset true (start ∷ places)) (less_suc (length places) count (nat_lt (length places) count) refl)
    ∙ ap (λ b. nat_lt (length places) count && goes_on records offset (not b) places) is

are_by : (records : VersionRecords) (offset start count : ℕ) (cut done : Bool) (items : List (Result ℕ LinkError)) → is_cut records offset start ≡ cut → (field records 4 start offset == 0) ≡ done
    → ArePlaces records offset (start + field records 4 start offset) count items
    → ArePlaces records offset start (suc count) (if cut then Err ShortVersion ∷ [] else Ok start ∷ (if done then [] else items))
are_by records offset start count true done items cut is rest =
    let short = ltb-true (length records.bytes) (start + offset + 4) cut in record {
      places = [];
      longest = record { chained = none start; few = omega arith; longest = λ others chained few. no_longer records offset start short others chained };
      items_are = ap (λ b. error_at_end (b && true)) (sym (lt-ltb 0 (suc count) (omega arith)));
    }
are_by records offset start count false true items cut is rest =
    let whole = ltb-false (length records.bytes) (start + offset + 4) cut in
    let ends = eqb-true (field records 4 start offset) 0 is in record {
      places = start ∷ [];
      longest = record { chained = last start whole; few = omega arith; longest = λ others chained few. one_longest records offset start ends others chained };
      items_are = rw is (rw (and_false (nat_lt 1 (suc count))) refl);
    }
are_by records offset start count false false items cut is rest =
    let whole = ltb-false (length records.bytes) (start + offset + 4) cut in
    let goes = eqb-false (field records 4 start offset) 0 is in
    let longest = rest.longest in
    let few = longest.few in record {
      places = start ∷ rest.places;
      longest = record {
        chained = more start rest.places whole goes longest.chained;
        few = omega (arith, few);
        longest = more_longest records offset start count (length rest.places) longest.longest;
      };
      items_are = ap (λ others. Ok start ∷ others) (rest.items_are
          ∙ ap (λ b. map (λ place. Ok place) rest.places ++ error_at_end b) (sym (same_test records offset start count rest.places is)));
    }

pub places_are : (records : VersionRecords) (offset start count : ℕ) → ArePlaces records offset start count (places_of records offset start count)
unfolding places_of
places_are records offset start zero = record {
  places = [];
  longest = record { chained = none start; few = omega arith; longest = λ others chained few. few };
  items_are = refl;
}
places_are records offset start (suc count) =
    let next = field records 4 start offset in
    are_by records offset start count (is_cut records offset start) (next == 0) (places_of records offset (start + next) count) refl refl (places_are records offset (start + next) count)
