-- The mappings of one load, before those of others.
use Rattle.std.proofs.Common.{◌≡◌, ℕ, ◌+◌, ◌<◌, ◌≤◌, ◌==◌, not, min, nat_lt, Bool, true, false, List, [], ◌∷◌, ◌++◌, Option, Some, None, if◌then◌else◌, refl, sym, ap, ◌∙◌, arith}
use Rattle.std.proofs.Math.Nat.{min-eq_left, min-eq_right}
use Rattle.std.proofs.lemmas.Bool.{le-ltb, lt-ltb, ltb-false, ltb-true}
use Rattle.std.specs.List.{cons_option}
use Rattle.elf_loading.specs.Types.{Loader, Mapping, Parts, Segment}
use Rattle.elf_loading.specs.LoadCheck.{file_end, load_end, load_start}
use Rattle.elf_loading.specs.MappingParts.{pages_from, parts_before, parts_of, parts_rest, zeros_from}
use Rattle.elf_loading.specs.Mappings.{file_mapping, gap_mapping, mapped_end, mapping_if, mappings_of, zero_mapping}
use Rattle.elf_loading.specs.declared.mapping.Contents.TheVariants.{File, Zero, NoAccess}
use Rattle.elf_loading.specs.declared.mapping.Loader.TheVariants.{Kernel, Glibc}
use Rattle.elf_loading.proofs.Rounded.{down_le, up_ge}

if_append : (b : Bool) (m : Mapping) (xs ys xs' ys' others : List Mapping) → xs ≡ xs' ++ others → ys ≡ ys' ++ others → (if b then m ∷ xs else ys) ≡ (if b then m ∷ xs' else ys') ++ others
if_append true m xs ys xs' ys' others front back = ap (λ l. m ∷ l) front
if_append false m xs ys xs' ys' others front back = back

zeros_append : (at : ℕ) (parts : Parts) (others : List Mapping) → zeros_from at parts others ≡ zeros_from at parts [] ++ others
zeros_append at parts others =
    if_append (nat_lt at parts.end) (record { start = at; end = parts.end; flags = parts.flags; contents = Zero }) others others [] [] others refl refl

pages_append : (at : ℕ) (parts : Parts) (others : List Mapping) → pages_from at parts others ≡ pages_from at parts [] ++ others
pages_append at parts others =
    if_append (nat_lt at parts.middle) (record { start = at; end = parts.middle; flags = parts.flags; contents = File parts.offset })
    (zeros_from parts.middle parts others) (zeros_from at parts others) (zeros_from parts.middle parts []) (zeros_from at parts []) others
    (zeros_append parts.middle parts others) (zeros_append at parts others)

parts_append : (parts : Parts) (others : List Mapping) → parts_before parts others ≡ parts_rest parts ++ others
unfolding parts_before
parts_append parts others =
    if_append (nat_lt parts.at parts.start) (record { start = parts.at; end = parts.start; flags = record { 0 = 0 }; contents = NoAccess })
    (pages_from parts.start parts others) (pages_from parts.at parts others) (pages_from parts.start parts []) (pages_from parts.at parts []) others
    (pages_append parts.start parts others) (pages_append parts.at parts others)

pub parts_none : (parts : Parts) (others : List Mapping) → parts_rest parts ≡ [] → parts_before parts others ≡ others
parts_none parts others is = parts_append parts others ∙ ap (λ xs. xs ++ others) is

pub parts_first : (parts new : Parts) (mapping : Mapping) (others : List Mapping) → parts_rest parts ≡ mapping ∷ parts_rest new → parts_before parts others ≡ mapping ∷ parts_before new others
parts_first parts new mapping others is = parts_append parts others ∙ (ap (λ xs. xs ++ others) is ∙ ap (λ xs. mapping ∷ xs) (sym (parts_append new others)))

-- no mappings are left
pub nothing_left : (others : List Mapping) → parts_before (record { at = 0; start = 0; middle = 0; end = 0; flags = record { 0 = 0 }; offset = 0 }) others ≡ others
unfolding parts_before
nothing_left others = refl

-- what is left once the mappings up to an address are returned
abbrev pub from : Parts → ℕ → Parts
from parts at = record { at = at; start = parts.start; middle = parts.middle; end = parts.end; flags = parts.flags; offset = parts.offset }

pub gap_first : (parts : Parts) → parts.at < parts.start → parts_rest parts ≡ record { start = parts.at; end = parts.start; flags = record { 0 = 0 }; contents = NoAccess } ∷ parts_rest (from parts parts.start)
unfolding parts_before
gap_first parts more =
    rw (lt-ltb parts.at parts.start more, le-ltb parts.start parts.start (omega arith)) refl

pub pages_first : (parts : Parts) → parts.start ≤ parts.at → parts.at < parts.middle → parts_rest parts ≡ record { start = parts.at; end = parts.middle; flags = parts.flags; contents = File parts.offset } ∷ parts_rest (from parts parts.middle)
unfolding parts_before
pages_first parts after more =
    rw (le-ltb parts.at parts.start after, lt-ltb parts.at parts.middle more, le-ltb parts.middle parts.start (omega arith), le-ltb parts.middle parts.middle (omega arith)) refl

pub zeros_first : (parts : Parts) → parts.start ≤ parts.at → parts.middle ≤ parts.at → parts.at < parts.end → parts_rest parts ≡ record { start = parts.at; end = parts.end; flags = parts.flags; contents = Zero } ∷ parts_rest (from parts parts.end)
unfolding parts_before
zeros_first parts after past more =
    rw (le-ltb parts.at parts.start after, le-ltb parts.at parts.middle past, lt-ltb parts.at parts.end more, le-ltb parts.end parts.start (omega arith), le-ltb parts.end parts.middle (omega arith), le-ltb parts.end parts.end (omega arith)) refl

pub parts_end : (parts : Parts) → parts.start ≤ parts.at → parts.middle ≤ parts.at → parts.end ≤ parts.at → parts_rest parts ≡ []
unfolding parts_before
parts_end parts after past over =
    rw (le-ltb parts.at parts.start after, le-ltb parts.at parts.middle past, le-ltb parts.at parts.end over) refl

middle_by : (page : ℕ) (load : Segment) (b : Bool) → 0 < page → load_start page load ≤ (if b then file_end page load else load_start page load)
middle_by page load true h =
    let above : load.address + load.file_size ≤ file_end page load = up_ge page (load.address + load.file_size) h in
    let below : load_start page load ≤ load.address = down_le page load.address in omega arith
middle_by page load false h = omega arith

middle_after : (page : ℕ) (by : Loader) (load : Segment) → 0 < page → load_start page load ≤ mapped_end page by load
middle_after page Kernel load h = middle_by page load (not (load.file_size == 0)) h
middle_after page Glibc load h = middle_by page load true h

module _ (parts : Parts) (others : List Mapping) where
  zeros_are : (at : ℕ) (b : Bool) → nat_lt at parts.end ≡ b → zeros_from at parts others ≡ cons_option (mapping_if at parts.end parts.flags Zero) others
  zeros_are at true is = rw is refl
  zeros_are at false is = rw is refl

  pages_are : (b : Bool) → nat_lt parts.start parts.middle ≡ b → parts.start ≤ parts.middle → pages_from parts.start parts others ≡ cons_option (mapping_if parts.start parts.middle parts.flags (File parts.offset)) (cons_option (mapping_if parts.middle parts.end parts.flags Zero) others)
  pages_are true is after = rw is (ap (λ l. record { start = parts.start; end = parts.middle; flags = parts.flags; contents = File parts.offset } ∷ l) (zeros_are parts.middle (nat_lt parts.middle parts.end) refl))
  pages_are false is after =
      let same : parts.start ≡ parts.middle = let over = ltb-false _ _ is in omega arith in
      rw is (ap (λ at. zeros_from at parts others) same ∙ zeros_are parts.middle (nat_lt parts.middle parts.end) refl)

  -- the gap before a load, up to its start
  gap_are : (before : ℕ) (b : Bool) → nat_lt before parts.start ≡ b → parts.at ≡ min before parts.start → parts_before parts others ≡ cons_option (mapping_if before parts.start (record { 0 = 0 }) NoAccess) (pages_from parts.start parts others)
  unfolding parts_before
  gap_are before true is at =
      let same : parts.at ≡ before = at ∙ min-eq_left (let more = ltb-true _ _ is in omega arith) in rw (same, is) refl
  gap_are before false is at =
      let same : parts.at ≡ parts.start = at ∙ min-eq_right (ltb-false _ _ is) in
      rw (same, le-ltb parts.start parts.start (omega arith), is) refl

  no_gap : parts.at ≡ parts.start → parts_before parts others ≡ pages_from parts.start parts others
  unfolding parts_before
  no_gap same = rw (same, le-ltb parts.start parts.start (omega arith)) refl

module _ (page : ℕ) (load : Segment) (others : List Mapping) where
  from_gap : (by : Loader) (before : Option ℕ) → parts_before (parts_of page by before load) others ≡ cons_option (gap_mapping page by before load) (pages_from (load_start page load) (parts_of page by before load) others)
  from_gap Glibc (Some before) = gap_are (parts_of page Glibc (Some before) load) others before (nat_lt before (load_start page load)) refl refl
  from_gap Glibc None = no_gap (parts_of page Glibc None load) others refl
  from_gap Kernel (Some before) = no_gap (parts_of page Kernel (Some before) load) others refl
  from_gap Kernel None = no_gap (parts_of page Kernel None load) others refl

  parts_are : (by : Loader) (before : Option ℕ) → 0 < page → parts_before (parts_of page by before load) others ≡ cons_option (gap_mapping page by before load) (cons_option (file_mapping page by load) (cons_option (zero_mapping page by load) others))
  parts_are by before h =
      from_gap by before ∙ ap (cons_option (gap_mapping page by before load))
      (pages_are (parts_of page by before load) others (nat_lt (load_start page load) (mapped_end page by load)) refl (middle_after page by load h))

pub parts_load : (page end : ℕ) (by : Loader) (before : Option ℕ) (items others : List Segment) (load : Segment) → 0 < page → items ≡ load ∷ others → end ≡ load_end page load → parts_before (parts_of page by before load) (mappings_of page by (Some end) others) ≡ mappings_of page by before items
unfolding mappings_of
parts_load page end by before items others load h is same =
    ap (λ n. parts_before (parts_of page by before load) (mappings_of page by (Some n) others)) same
    ∙ (parts_are page load (mappings_of page by (Some (load_end page load)) others) by before h ∙ sym (ap (mappings_of page by before) is))

pub no_loads : (page : ℕ) (by : Loader) (before : Option ℕ) (items : List Segment) → items ≡ [] → mappings_of page by before items ≡ []
unfolding mappings_of
no_loads page by before items is = ap (mappings_of page by before) is
