-- The first of the remaining relocations of a file, table by table.
use Rattle.std.proofs.Common.{◌≡◌, ◌<◌, ◌≤◌, ◌+◌, ◌-◌, ◌/◌, ◌%◌, ℕ, zero, suc, Bool, false, true, List, [], ◌∷◌, ◌++◌, length, map, refl, sym, ap, ◌∙◌, arith, if◌then◌else◌}
use Rattle.std.specs.Prelude.{Option, None, Some, Result, Ok, Err, drop, is_some, option_map, slice_get, take}
use Rattle.std.proofs.lemmas.Option.{slice_get-map}
use Rattle.elf_base.specs.FileHeader.{file_class, file_order}
use Rattle.elf_base.specs.FirstError.{and_then}
use Rattle.elf_base.specs.Table.{first_records, records}
use Rattle.elf_base.specs.declared.bytes.Order.{Order}
use Rattle.elf_linking.specs.DynamicView.{number_with}
use Rattle.elf_linking.specs.Loaded.{bytes_at_of}
use Rattle.elf_linking.specs.References.{Tables, file_machine, reference_in, references_in, relocation_tables, table_relocations, tables_with}
use Rattle.elf_linking.specs.RelocationRecords.{rela_reference}
use Rattle.elf_linking.specs.RelocationTypes.{relative_kind}
use Rattle.elf_linking.specs.TableLocations.{table_but_zero, table_by}
use Rattle.elf_linking.specs.declared.error.LinkError.{LinkError}
use Rattle.elf_linking.specs.declared.references.Reference.{Reference}
use Rattle.elf_linking.specs.declared.view.tags.TheConstants.{DT_JMPREL, DT_PLTREL, DT_PLTRELSZ, DT_REL, DT_RELA, DT_RELASZ, DT_RELSZ}
use Rattle.elf_loading.specs.InOrder.{HasRecords, is_kind, kept_records, order_left, part_left, placed, records_left, relative_at, relocations_in_order, relr_addresses, relr_left}
use Rattle.elf_loading.specs.Types.{Dynamic, ElfFile, InOrder, Records, Relr, Rela, Relocation, TableLocation}
use Rattle.elf_records.specs.Relocations.{rela_64, symbol_in_64, type_in_64}

-- a relocation of a table
abbrev place : Bool → Bool → Reference → Relocation
place in_place slot reference = record { reference = reference; in_place = in_place; slot = slot }

pub relative_none : (kind : ℕ) (addresses : List ℕ) → addresses ≡ [] → map (relative_at kind) addresses ≡ []
relative_none kind addresses is = ap (map (relative_at kind)) is

pub relative_first : (kind after : ℕ) (addresses others : List ℕ) (address : ℕ) → after ≡ kind → addresses ≡ address ∷ others
    → map (relative_at kind) addresses ≡ relative_at kind address ∷ map (relative_at after) others
relative_first kind after addresses others address same is =
    ap (map (relative_at kind)) is ∙ ap (λ m. relative_at kind address ∷ map (relative_at m) others) (sym same)

pub placed_none : (in_place slot : Bool) (references : List Reference) → references ≡ [] → placed in_place slot references ≡ []
placed_none in_place slot references is = ap (placed in_place slot) is

pub placed_first : (in_place slot in_place_after slot_after : Bool) (references others : List Reference) (reference : Reference)
    → in_place_after ≡ in_place → slot_after ≡ slot → references ≡ reference ∷ others
    → placed in_place slot references ≡ place in_place slot reference ∷ placed in_place_after slot_after others
placed_first in_place slot in_place_after slot_after references others reference in_same slot_same is =
    ap (placed in_place slot) is
    ∙ ap (λ b. place in_place slot reference ∷ placed b slot others) (sym in_same)
    ∙ ap (λ b. place in_place slot reference ∷ placed in_place_after b others) (sym slot_same)

-- the first of as many as are left
pub taken_none : {A : Type 0} (most : ℕ) (xs : List A) → xs ≡ [] → take most xs ≡ []
taken_none zero xs is = refl
taken_none (suc n) xs is = ap (take (suc n)) is

pub taken_first : {A : Type 0} (most : ℕ) (xs ys : List A) (x : A) → 0 < most → xs ≡ x ∷ ys → take most xs ≡ x ∷ take (most - 1) ys
taken_first zero xs ys x above is = absurd (omega (arith, above))
taken_first (suc n) xs ys x above is = let e : suc n - 1 ≡ n = omega arith in rw e (ap (take (suc n)) is)

-- the first of a list and of those after it, and those after an empty list
pub begins : {A : Type 0} (table others later : List A) (x : A) → table ≡ x ∷ others → table ++ later ≡ x ∷ (others ++ later)
begins table others later x is = ap (λ items. items ++ later) is

pub goes_on : {A : Type 0} (table later : List A) → table ≡ [] → table ++ later ≡ later
goes_on table later is = ap (λ items. items ++ later) is

-- The records of a table.

-- what is left from an index on, which is past the records that are kept or past the table
pub left_past : {A B : Type 0} (f : A → B) (xs : List A) (at end : ℕ) → end ≤ at → map f (drop at (take end xs)) ≡ []
left_past f [] zero zero past = refl
left_past f [] zero (suc end) past = refl
left_past f [] (suc at) zero past = refl
left_past f [] (suc at) (suc end) past = refl
left_past f (x ∷ xs) zero zero past = refl
left_past f (x ∷ xs) zero (suc end) past = absurd (omega (arith, past))
left_past f (x ∷ xs) (suc at) zero past = refl
left_past f (x ∷ xs) (suc at) (suc end) past = left_past f xs at end (omega (arith, past))

pub left_none : {A B : Type 0} (f : A → B) (xs : List A) (at end : ℕ) → slice_get xs at ≡ None → map f (drop at (take end xs)) ≡ []
left_none f [] zero zero none = refl
left_none f [] zero (suc end) none = refl
left_none f [] (suc at) zero none = refl
left_none f [] (suc at) (suc end) none = refl
left_none f (x ∷ xs) zero end none = absurd (cc)
left_none f (x ∷ xs) (suc at) zero none = refl
left_none f (x ∷ xs) (suc at) (suc end) none = left_none f xs at end none

left_some : {A B : Type 0} (f : A → B) (xs : List A) (at end : ℕ) (x : A) → at < end → slice_get xs at ≡ Some x
    → map f (drop at (take end xs)) ≡ f x ∷ map f (drop (suc at) (take end xs))
left_some f [] at end x below is = absurd (cc)
left_some f (y ∷ xs) at zero x below is = absurd (omega (arith, below))
left_some f (y ∷ xs) zero (suc end) x below is = ap (λ one. f one ∷ map f (take end xs)) (let same : y ≡ x = cc in same)
left_some f (y ∷ xs) (suc at) (suc end) x below is = left_some f xs at end x (omega (arith, below)) is

first_mapped : (order : Order) (count : ℕ) (bytes : List ℕ)
    → first_records 24 (reference_in 8 true order) count bytes ≡ map (rela_reference symbol_in_64 type_in_64) (first_records 24 (rela_64 order) count bytes)
unfolding first_records
first_mapped order zero bytes = refl
first_mapped order (suc count) bytes = ap (λ others. reference_in 8 true order (take 24 bytes) ∷ others) (first_mapped order count (drop 24 bytes))

mapped : (order : Order) (bytes : List ℕ) → references_in 8 true order bytes ≡ map (rela_reference symbol_in_64 type_in_64) (records 24 (rela_64 order) bytes)
unfolding records
mapped order bytes = first_mapped order (length bytes / 24) bytes

-- the relocation of the record at an index
module _ (order : Order) (bytes : List ℕ) (at : ℕ) where
  abbrev all : List Reference
  all = references_in 8 true order bytes

  there_is : slice_get all at ≡ option_map (rela_reference symbol_in_64 type_in_64) (slice_get (records 24 (rela_64 order) bytes) at)
  there_is = ap (λ list. slice_get list at) (mapped order bytes) ∙ slice_get-map (rela_reference symbol_in_64 type_in_64) (records 24 (rela_64 order) bytes) at

  pub none_left : (end : ℕ) → slice_get (records 24 (rela_64 order) bytes) at ≡ None → placed false false (drop at (take end all)) ≡ []
  none_left end is = left_none (place false false) all at end (there_is ∙ ap (option_map (rela_reference symbol_in_64 type_in_64)) is)

  pub left_first : (end : ℕ) (rela : Rela ℕ) (reference : Reference) → at < end → slice_get (records 24 (rela_64 order) bytes) at ≡ Some rela
      → reference ≡ rela_reference symbol_in_64 type_in_64 rela
      → placed false false (drop at (take end all)) ≡ record { reference = reference; in_place = false; slot = false } ∷ placed false false (drop (at + 1) (take end all))
  left_first end rela reference below is same =
      let next : at + 1 ≡ suc at = omega arith in
      rw next (left_some (place false false) all at end reference below (there_is ∙ ap (option_map (rela_reference symbol_in_64 type_in_64)) is ∙ ap (λ one. Some one) (sym same)))

module _ (file : ElfFile) (table : TableLocation) (start size : ℕ) (bytes : List ℕ) (class_is : file_class file.header ≡ 2) (start_is : table.start ≡ Some start) (size_is : table.size ≡ Some size) (bytes_are : bytes_at_of file start size ≡ Ok bytes) (whole : length bytes % 24 ≡ 0) where
  abbrev order : Order
  order = file_order file.header

  read : table_relocations file table (Some DT_RELA) ≡ Ok (references_in 8 true order bytes)
  read = rw (start_is, size_is, bytes_are, class_is, whole) refl

  pub records_kept : (kept : ℕ) (references : List Reference) → table_relocations file table (Some DT_RELA) ≡ Ok references
      → placed false false (take kept (references_in 8 true order bytes)) ≡ placed false false (take kept references)
  records_kept kept references is =
      let are : references_in 8 true order bytes ≡ references = (let both : ◌≡◌ {A = Result (List Reference) LinkError} (Ok (references_in 8 true order bytes)) (Ok references) = sym read ∙ is in cc) in
      ap (λ list. placed false false (take kept list)) are

-- the table of DT_RELA is that of a file whose tables can be read
rela_by : (rela rel plt : Result (List Reference) LinkError) (tables : Tables)
    → and_then rela (λ one. and_then rel (λ two. and_then plt (λ three. Ok (record { rela = one; rel = two; plt = three })))) ≡ Ok tables → rela ≡ Ok tables.rela
rela_by (Err error) rel plt tables is = absurd (cc)
rela_by (Ok one) (Err error) plt tables is = absurd (cc)
rela_by (Ok one) (Ok two) (Err error) tables is = absurd (cc)
rela_by (Ok one) (Ok two) (Ok three) tables is = let same : record { rela = one; rel = two; plt = three } ≡ tables = cc in ap (λ (all : Tables). Ok all.rela) same

pub rela_of : (file : ElfFile) (entries : List (Dynamic ℕ)) (tables : Tables) → relocation_tables file entries ≡ Ok tables
    → table_relocations file (table_but_zero entries DT_RELA DT_RELASZ) (Some DT_RELA) ≡ Ok tables.rela
unfolding relocation_tables tables_with
rela_of file entries tables is = rela_by (table_relocations file (table_but_zero entries DT_RELA DT_RELASZ) (Some DT_RELA)) (table_relocations file (table_but_zero entries DT_REL DT_RELSZ) (Some DT_REL))
    (table_relocations file (table_by entries DT_JMPREL DT_PLTRELSZ) (number_with DT_PLTREL entries)) tables is

-- the records and what is left of the table are those of the table that are kept
pub kept_by : (answer : Result (List Reference) LinkError) (kept : ℕ) (records : Option Records) (references : List Reference) (later : List Relocation)
    → HasRecords answer kept records → answer ≡ Ok references
    → records_left records ++ (placed false false (take (if is_some records then 0 else kept) references) ++ later) ≡ placed false false (take kept references) ++ later
kept_by answer kept None references later has is = refl
kept_by answer kept (Some records) references later has is = ap (λ some. some ++ later) (has references is)

-- without packed relocations the records come first
none_packed : (kind : ℕ) (rest : Option Relr) → is_some rest ≡ false → map (relative_at kind) (relr_left rest) ≡ []
none_packed kind None is = refl
none_packed kind (Some relr) is = absurd (cc)

abbrev pub after_records : InOrder → List Relocation
after_records order = part_left order.rela ++ (part_left order.rel ++ part_left order.slots)

pub records_first : (order : InOrder) → is_some order.packed.rest ≡ false → order_left order ≡ records_left order.records ++ after_records order
records_first order is = ap (λ packed. packed ++ (records_left order.records ++ after_records order)) (none_packed order.packed.kind order.packed.rest is)

-- all relocations in order
pub in_order : (file : ElfFile) (entries : List (Dynamic ℕ)) (addresses : List ℕ) (tables : Tables) (records : Option Records) (kind kept after kept_rel : ℕ) (in_place : Bool)
    → relr_addresses file entries ≡ Ok addresses → relocation_tables file entries ≡ Ok tables → kind ≡ relative_kind (file_machine file)
    → kept ≡ kept_records file entries DT_RELA DT_RELASZ
    → HasRecords (table_relocations file (table_but_zero entries DT_RELA DT_RELASZ) (Some DT_RELA)) kept records → after ≡ (if is_some records then 0 else kept)
    → kept_rel ≡ kept_records file entries DT_REL DT_RELSZ → in_place ≡ is_kind DT_REL (number_with DT_PLTREL entries)
    → relocations_in_order file entries ≡ Ok (map (relative_at kind) addresses ++ (records_left records ++ (placed false false (take after tables.rela)
    ++ (placed true false (take kept_rel tables.rel) ++ placed in_place true tables.plt))))
unfolding relocations_in_order
in_order file entries addresses tables records kind kept after kept_rel in_place addresses_are tables_are kind_is kept_is has after_is rel_is place_is =
    let later = placed true false (take kept_rel tables.rel) ++ placed in_place true tables.plt in
    let all = kept_by (table_relocations file (table_but_zero entries DT_RELA DT_RELASZ) (Some DT_RELA)) kept records tables.rela later has (rela_of file entries tables tables_are) in
    rw (addresses_are, tables_are, sym kind_is, sym kept_is, sym rel_is, sym place_is, after_is) (ap (λ rest. Ok (map (relative_at kind) addresses ++ rest)) (sym all))
