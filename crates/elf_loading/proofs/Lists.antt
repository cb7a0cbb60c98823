-- Searches of the segments of a file, segment by segment.
use Rattle.std.proofs.Common.{◌≡◌, ℕ, ◌+◌, ◌-◌, ◌<◌, Bool, true, false, List, [], ◌∷◌, length, Some, None, if◌then◌else◌, refl, sym, ap, ◌∙◌, arith}
use Rattle.std.proofs.lemmas.Bool.{and_parts, eq-eqb, ne_eqb}
use Rattle.std.specs.List.{filter, find, list_all, list_any}
use Rattle.elf_linking.specs.declared.segments.Segment.{Segment}
use Rattle.elf_loading.specs.LoadCheck.{fits_below, holds_address}
use Rattle.elf_loading.specs.LoadsAmong.{loads_among}
use Rattle.elf_loading.specs.Segments.{is_load}
use Rattle.elf_loading.specs.Words.{has_zeros}
use Rattle.elf_linking.specs.declared.segments.Segments.{Segments}
use Rattle.elf_linking.specs.SegmentsLeft.{left_count}
use Rattle.elf_linking.proofs.lemmas.SegmentsLeft.{some_left}

pub load_kept : (items others : List Segment) (segment : Segment) → items ≡ segment ∷ others → is_load segment ≡ true → filter is_load items ≡ segment ∷ filter is_load others
load_kept items others segment is hit = ap (filter is_load) is ∙ rw hit refl

pub load_skipped : (items others : List Segment) (segment : Segment) → items ≡ segment ∷ others → is_load segment ≡ false → filter is_load items ≡ filter is_load others
load_skipped items others segment is miss = ap (filter is_load) is ∙ rw miss refl

-- the number of loads, segment by segment
count_by : (count : ℕ) (segment : Segment) (others : List Segment) (b : Bool) → is_load segment ≡ b → (if b then count + 1 else count) + length (filter is_load others) ≡ count + length (filter is_load (segment ∷ others))
count_by count segment others true hit = rw hit (omega arith)
count_by count segment others false miss = rw miss refl

pub count_load : (count total : ℕ) (items others : List Segment) (segment : Segment) → items ≡ segment ∷ others → segment.kind ≡ 1 → count + length (filter is_load items) ≡ total → count + 1 + length (filter is_load others) ≡ total
count_load count total items others segment is one before =
    count_by count segment others true (eq-eqb segment.kind 1 one)
    ∙ (sym (ap (λ list. count + length (filter is_load list)) is) ∙ before)

pub count_other : (count total : ℕ) (items others : List Segment) (segment : Segment) → items ≡ segment ∷ others → (segment.kind ≡ 1 → ⊥) → count + length (filter is_load items) ≡ total → count + length (filter is_load others) ≡ total
count_other count total items others segment is none before =
    count_by count segment others false (ne_eqb segment.kind 1 none)
    ∙ (sym (ap (λ list. count + length (filter is_load list)) is) ∙ before)

pub count_all : (count total : ℕ) (items : List Segment) → items ≡ [] → count + length (filter is_load items) ≡ total → count ≡ total
count_all count total items is before =
    let none : length (filter is_load items) ≡ 0 = ap (λ list. length (filter is_load list)) is in omega arith

pub count_kept : {A : Type 0} → (count : ℕ) (items others : List A) (item : A) → items ≡ item ∷ others → count ≡ length items → count - 1 ≡ length others
count_kept count items others item is counted =
    let one : length items ≡ length others + 1 = ap length is ∙ omega arith in omega arith

-- where loads are left, segments are left
pub some_more : (count : ℕ) (segments start : Segments) → (count ≡ 0 → ⊥) → count ≡ length (loads_among start) → loads_among segments ≡ loads_among start → 0 < left_count segments
some_more count segments start some counted same =
    let equal : length (loads_among segments) ≡ length (loads_among start) = ap length same in
    some_left is_load segments (omega (arith, some, counted, equal))

-- no loads are left
pub none_left : {A : Type 0} → (items : List A) → length items ≡ 0 → items ≡ []
none_left [] none = refl
none_left (item ∷ items) none = absurd (omega arith)

pub all_first : (test : Segment → Bool) (items others : List Segment) (load : Segment) → items ≡ load ∷ others → list_all test items ≡ true → test load ≡ true
all_first test items others load is all = (and_parts (test load) (list_all test others) (rw is at all)).0

pub all_rest : (test : Segment → Bool) (items others : List Segment) (load : Segment) → items ≡ load ∷ others → list_all test items ≡ true → list_all test others ≡ true
all_rest test items others load is all = (and_parts (test load) (list_all test others) (rw is at all)).1

pub fits_first : (page limit : ℕ) (items others : List Segment) (load : Segment) → items ≡ load ∷ others → list_all (fits_below page limit) items ≡ true → fits_below page limit load ≡ true
fits_first page limit = all_first (fits_below page limit)

pub fits_rest : (page limit : ℕ) (items others : List Segment) (load : Segment) → items ≡ load ∷ others → list_all (fits_below page limit) items ≡ true → list_all (fits_below page limit) others ≡ true
fits_rest page limit = all_rest (fits_below page limit)

pub held_first : (page address : ℕ) (items others : List Segment) (load : Segment) → items ≡ load ∷ others → holds_address page address load ≡ true → find (holds_address page address) items ≡ Some load
held_first page address items others load is hit = ap (find (holds_address page address)) is ∙ rw hit refl

pub held_rest : (page address : ℕ) (items others : List Segment) (load : Segment) → items ≡ load ∷ others → holds_address page address load ≡ false → find (holds_address page address) items ≡ find (holds_address page address) others
held_rest page address items others load is miss = ap (find (holds_address page address)) is ∙ rw miss refl

pub held_end : (page address : ℕ) (items : List Segment) → items ≡ [] → find (holds_address page address) items ≡ None
held_end page address items is = ap (find (holds_address page address)) is

pub zeros_first : (address width : ℕ) (items others : List Segment) (load : Segment) → items ≡ load ∷ others → has_zeros address width load ≡ true → list_any (has_zeros address width) items ≡ true
zeros_first address width items others load is hit = ap (list_any (has_zeros address width)) is ∙ rw hit refl

pub zeros_rest : (address width : ℕ) (items others : List Segment) (load : Segment) → items ≡ load ∷ others → has_zeros address width load ≡ false → list_any (has_zeros address width) items ≡ list_any (has_zeros address width) others
zeros_rest address width items others load is miss = ap (list_any (has_zeros address width)) is ∙ rw miss refl

pub zeros_end : (address width : ℕ) (items : List Segment) → items ≡ [] → list_any (has_zeros address width) items ≡ false
zeros_end address width items is = ap (list_any (has_zeros address width)) is
