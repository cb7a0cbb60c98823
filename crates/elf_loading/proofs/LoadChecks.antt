-- The checks of the loads of a file, load by load.
use Rattle.std.proofs.Common.{◌≡◌, ℕ, ◌+◌, ◌%◌, ◌==◌, ◌≤◌, ◌&&◌, not, nat_lt, nat_le, Bool, true, false, List, [], ◌∷◌, Option, Some, unwrap_or, Result, Ok, Err, if◌then◌else◌, refl, ap, ◌∙◌, zero, suc, ◌<◌, length, slice_index_or, sym, subst, arith}
use Rattle.std.proofs.lemmas.Bool.{and_from, le-leb, ltb-false, or_parts, and_right, le-ltb, lt-ltb, and_parts, leb-true}
use Rattle.std.specs.List.{list_all, Contains, find}
use Rattle.elf_base.specs.FirstError.{and_then, unless}
use Rattle.elf_loading.specs.Types.{LoadError, Segment}
use Rattle.elf_loading.specs.FileCheck.{NoneApplies}
use Rattle.elf_loading.specs.LoadCheck.{check_load, check_loads, fits_below, is_inside_page, load_end, load_rows, load_start, holds_address, file_end}
use Rattle.elf_loading.specs.Pages.{down}
use Rattle.elf_loading.specs.Spans.{last_end}
use Rattle.elf_loading.proofs.Rounded.{down_le, up_ge, file_end_le}

pub checked_load : (page limit len : ℕ) (before : Option ℕ) (items others : List Segment) (load : Segment) (end : ℕ) → items ≡ load ∷ others → check_load page limit len before load ≡ Ok end → check_loads page limit len before items ≡ check_loads page limit len (Some end) others
unfolding check_loads
checked_load page limit len before items others load end is ok = ap (check_loads page limit len before) is ∙ rw ok refl

pub error_load : (page limit len : ℕ) (before : Option ℕ) (items others : List Segment) (load : Segment) (error : LoadError) → items ≡ load ∷ others → check_load page limit len before load ≡ Err error → check_loads page limit len before items ≡ Err error
unfolding check_loads
error_load page limit len before items others load error is err = ap (check_loads page limit len before) is ∙ rw err refl

pub checked_end : (page limit len : ℕ) (before : Option ℕ) (items : List Segment) → items ≡ [] → check_loads page limit len before items ≡ Ok before
unfolding check_loads
checked_end page limit len before items is = ap (check_loads page limit len before) is

unless_by : {A : Type 0} (b : Bool) (error : LoadError) (value end : A) (rows : List (Bool × LoadError)) → (unless rows value ≡ Ok end → NoneApplies rows × (value ≡ end)) → (if b then Err error else unless rows value) ≡ Ok end → ((b ≡ false) × (NoneApplies rows)) × (value ≡ end)
unless_by true error value end rows next is = absurd (cc)
unless_by false error value end rows next is = let (none, same) = next is in ((refl, none), same)

pub unless_ok : {A : Type 0} (rows : List (Bool × LoadError)) (value end : A) → unless rows value ≡ Ok end → NoneApplies rows × (value ≡ end)
unless_ok [] value end is = (tt, cc)
unless_ok (row ∷ rows) value end is = unless_by row.0 row.1 value end rows (unless_ok rows value end) is

-- a load that passes its check fits
pub load_fits : (page limit len : ℕ) (before : Option ℕ) (load : Segment) (end : ℕ) → check_load page limit len before load ≡ Ok end → fits_below page limit load ≡ true
unfolding check_load
load_fits page limit len before load end is =
    let (none, same) = unless_ok (load_rows page limit len before load) (load_end page load) end is in
    let range = or_parts (nat_le limit load.address) (nat_lt limit (load_end page load)) none.1.1.1.1.0 in
    and_from (nat_le load.file_size load.mem_size) (nat_le (load_end page load) limit)
    (le-leb _ _ (ltb-false _ _ none.0)) (le-leb _ _ (ltb-false _ _ range.1))

-- a load lies in a file with `len` bytes, at the place in a page at which it is in memory
abbrev pub lies_in : ℕ → ℕ → Segment → Bool
lies_in page len load =
    load.address % page == load.offset % page && nat_le (load.offset + load.file_size) len

-- a load that passes its check lies in the file
pub load_lies : (page limit len : ℕ) (before : Option ℕ) (load : Segment) (end : ℕ) → check_load page limit len before load ≡ Ok end → lies_in page len load ≡ true
unfolding check_load
load_lies page limit len before load end is =
    let (none, same) = unless_ok (load_rows page limit len before load) (load_end page load) end is in
    let parts = or_parts (nat_lt len (load.offset + load.file_size)) (load.file_size == 0 && is_inside_page page load && nat_le len (down page load.offset)) none.1.1.1.1.1.0 in
    and_from (load.address % page == load.offset % page) (nat_le (load.offset + load.file_size) len)
    (not_false (load.address % page == load.offset % page) none.1.1.0) (le-leb _ _ (ltb-false _ _ parts.0))
  where
    not_false : (b : Bool) → not b ≡ false → b ≡ true
    not_false true is = refl
    not_false false is = absurd (cc)

module _ (page limit len : ℕ) (test : Segment → Bool) (passes : (before : Option ℕ) (load : Segment) (end : ℕ) → check_load page limit len before load ≡ Ok end → test load ≡ true) where
  each_passes : (before last : Option ℕ) (load : Segment) (loads : List Segment) (answer : Result ℕ LoadError) → check_load page limit len before load ≡ answer
      → ((end : ℕ) → check_loads page limit len (Some end) loads ≡ Ok last → list_all test loads ≡ true)
      → and_then answer (λ end. check_loads page limit len (Some end) loads) ≡ Ok last → (test load && list_all test loads) ≡ true
  each_passes before last load loads (Ok end) one next is = and_from _ _ (passes before load end one) (next end is)
  each_passes before last load loads (Err error) one next is = absurd (cc)

  all_pass : (before last : Option ℕ) (loads : List Segment) → check_loads page limit len before loads ≡ Ok last → list_all test loads ≡ true
  unfolding check_loads
  all_pass before last [] is = refl
  all_pass before last (load ∷ loads) is =
      each_passes before last load loads (check_load page limit len before load) refl (λ end. all_pass (Some end) last loads) is

-- the loads of a file that passes its check fit, and lie in the file
pub loads_fit : (page limit len : ℕ) (before last : Option ℕ) (loads : List Segment) → check_loads page limit len before loads ≡ Ok last → list_all (fits_below page limit) loads ≡ true
loads_fit page limit len = all_pass page limit len (fits_below page limit) (load_fits page limit len)

pub loads_lie : (page limit len : ℕ) (before last : Option ℕ) (loads : List Segment) → check_loads page limit len before loads ≡ Ok last → list_all (lies_in page len) loads ≡ true
loads_lie page limit len = all_pass page limit len (lies_in page len) (load_lies page limit len)

-- the end of a load that passes its check
pub end_is : (page limit len : ℕ) (before : Option ℕ) (load : Segment) (end : ℕ) → check_load page limit len before load ≡ Ok end → load_end page load ≡ end
unfolding check_load
end_is page limit len before load end is =
    let (none, same) = unless_ok (load_rows page limit len before load) (load_end page load) end is in same

-- a load that passes its check begins after the one before it
pub begins_after : (page limit len : ℕ) (before : Option ℕ) (load : Segment) (end : ℕ) → check_load page limit len before load ≡ Ok end → unwrap_or before 0 ≤ load_start page load
unfolding check_load
begins_after page limit len before load end is =
    let (none, same) = unless_ok (load_rows page limit len before load) (load_end page load) end is in
    ltb-false _ _ none.1.1.1.1.1.1.0

-- The loads of a file that passes its check are apart: each begins after the end of the one before it.

-- each load begins at or after the end of the one before it, and the first at or after an address
abbrev pub AreApart : ℕ → ℕ → List Segment → Type 0
AreApart page before [] = Unit {0}
AreApart page before (load ∷ loads) = (before ≤ load_start page load) × (AreApart page (load_end page load) loads)

-- the end of the last load, if there is one, or of the load before
abbrev pub end_after : ℕ → Option ℕ → List Segment → Option ℕ
end_after page before [] = before
end_after page before (load ∷ loads) = Some (last_end page (load_end page load) loads)

-- after a load it is an end
pub some_end : (page end : ℕ) (loads : List Segment) → end_after page (Some end) loads ≡ Some (last_end page end loads)
some_end page end [] = refl
some_end page end (load ∷ loads) = refl

module _ (page limit len : ℕ) where
  step_end : (before last : Option ℕ) (load : Segment) (loads : List Segment) (answer : Result ℕ LoadError) → check_load page limit len before load ≡ answer
      → ((end : ℕ) → check_loads page limit len (Some end) loads ≡ Ok last → last ≡ end_after page (Some end) loads)
      → and_then answer (λ end. check_loads page limit len (Some end) loads) ≡ Ok last → last ≡ Some (last_end page (load_end page load) loads)
  step_end before last load loads (Ok end) one next is =
      let same : load_end page load ≡ end = end_is page limit len before load end one in
      rw same (next end is ∙ some_end page end loads)
  step_end before last load loads (Err error) one next is = absurd (cc)

  -- what the check of loads ends with
  pub checks_end : (before last : Option ℕ) (loads : List Segment) → check_loads page limit len before loads ≡ Ok last → last ≡ end_after page before loads
  unfolding check_loads
  checks_end before last [] is = cc
  checks_end before last (load ∷ loads) is =
      step_end before last load loads (check_load page limit len before load) refl (λ end. checks_end (Some end) last loads) is

  step_apart : (before last : Option ℕ) (load : Segment) (loads : List Segment) (answer : Result ℕ LoadError) → check_load page limit len before load ≡ answer
      → ((end : ℕ) → check_loads page limit len (Some end) loads ≡ Ok last → AreApart page end loads)
      → and_then answer (λ end. check_loads page limit len (Some end) loads) ≡ Ok last → (unwrap_or before 0 ≤ load_start page load) × (AreApart page (load_end page load) loads)
  step_apart before last load loads (Ok end) one next is =
      let same : load_end page load ≡ end = end_is page limit len before load end one in
      (begins_after page limit len before load end one, rw same (next end is))
  step_apart before last load loads (Err error) one next is = absurd (cc)

  pub checks_apart : (before last : Option ℕ) (loads : List Segment) → check_loads page limit len before loads ≡ Ok last → AreApart page (unwrap_or before 0) loads
  unfolding check_loads
  checks_apart before last [] is = tt
  checks_apart before last (load ∷ loads) is =
      step_apart before last load loads (check_load page limit len before load) refl (λ end. checks_apart (Some end) last loads) is

-- The load whose pages contain an address.

pub holds_between : (page address : ℕ) (load : Segment) → load_start page load ≤ address → address < load_end page load → holds_address page address load ≡ true
holds_between page address load from to = and_from _ _ (le-leb _ _ from) (lt-ltb _ _ to)

pub start_le_end : (page : ℕ) (load : Segment) → 0 < page → load_start page load ≤ load_end page load
start_le_end page load h =
    let below : load_start page load ≤ load.address = down_le page load.address in
    let above : load.address + load.mem_size ≤ load_end page load = up_ge page (load.address + load.mem_size) h in
    omega arith

-- a load begins at or after the address before all of them
pub after_all : (page before k : ℕ) (loads : List Segment) (load : Segment) → 0 < page → AreApart page before loads → k < length loads → slice_index_or loads k load ≡ load → before ≤ load_start page load
after_all page before k [] load h apart below is = absurd (omega arith)
after_all page before zero (first ∷ loads) load h (after, apart) below is = subst (λ l. before ≤ load_start page l) is after
after_all page before (suc k) (first ∷ loads) load h (after, apart) below is =
    let order : load_start page first ≤ load_end page first = start_le_end page first h in
    let later : load_end page first ≤ load_start page load = after_all page (load_end page first) k loads load h apart (omega arith) is in
    omega arith

pub missed : (page address : ℕ) (load : Segment) → load_end page load ≤ address → holds_address page address load ≡ false
missed page address load past = and_right (nat_le (load_start page load) address) (nat_lt address (load_end page load)) (le-ltb address (load_end page load) past)

held_at : (page address before k : ℕ) (loads : List Segment) (load : Segment) → 0 < page → AreApart page before loads → k < length loads → slice_index_or loads k load ≡ load → load_start page load ≤ address → address < load_end page load → find (holds_address page address) loads ≡ Some load
held_at page address before k [] load h apart below is from to = absurd (omega arith)
held_at page address before zero (first ∷ loads) load h apart below is from to =
    let hit : holds_address page address first ≡ true = subst (λ l. holds_address page address l ≡ true) (sym is) (holds_between page address load from to) in
    rw hit (ap (λ l. Some l) is)
held_at page address before (suc k) (first ∷ loads) load h (after, apart) below is from to =
    let later : load_end page first ≤ load_start page load = after_all page (load_end page first) k loads load h apart (omega arith) is in
    let miss : holds_address page address first ≡ false = missed page address first (omega arith) in
    rw miss (held_at page address (load_end page first) k loads load h apart (omega arith) is from to)

-- of loads that are apart, the one with an address in its pages is found
pub held : (page address : ℕ) (loads : List Segment) (load : Segment) → 0 < page → AreApart page 0 loads → Contains loads load → load_start page load ≤ address → address < load_end page load → find (holds_address page address) loads ≡ Some load
held page address loads load h apart (k, below, is) from to = held_at page address 0 k loads load h apart below is from to

-- A load whose pages end at a limit or before it.

-- its sums and the ends of its pages
pub record Fits (page limit : ℕ) (load : Segment) : Type 0 where
  pub sizes : load.file_size ≤ load.mem_size
  pub ends : load_end page load ≤ limit
  pub file_ends : file_end page load ≤ limit
  pub sum : load.address + load.mem_size ≤ limit
  pub file_sum : load.address + load.file_size ≤ limit

pub fits_facts : (page limit : ℕ) (load : Segment) → 0 < page → fits_below page limit load ≡ true → Fits page limit load
fits_facts page limit load h fits =
    let both = and_parts (nat_le load.file_size load.mem_size) (nat_le (load_end page load) limit) fits in
    let sizes : load.file_size ≤ load.mem_size = leb-true _ _ both.0 in
    let ends : load_end page load ≤ limit = leb-true _ _ both.1 in
    let less : file_end page load ≤ load_end page load = file_end_le page load.address load.file_size load.mem_size h sizes in
    let above : load.address + load.mem_size ≤ load_end page load = up_ge page (load.address + load.mem_size) h in
    record { sizes = sizes; ends = ends; file_ends = omega arith; sum = omega arith; file_sum = omega arith }
