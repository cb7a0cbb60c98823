-- The relocations of a file in the order in which a dynamic linker applies them (gABI, "Relocation" and "Dynamic
-- Section"; the order, and which records are passed over, as glibc 2.36 has it).
use Rattle.std.specs.Prelude.{◌≡◌, ℕ, ◌+◌, ◌-◌, ◌/◌, ◌==◌, ◌&&◌, is_some, nat_le, Bool, true, false, List, [], ◌++◌, drop, map, take, ⊤, Option, None, Some, option_map, unwrap_or, Result, Ok, if◌then◌else◌}
use Rattle.elf_base.specs.FirstError.{and_then}
use Rattle.elf_base.specs.Table.{table_data, table_order}
use Rattle.elf_linking.specs.DynamicView.{number_with}
use Rattle.elf_linking.specs.LinkedSections.{relr_at}
use Rattle.elf_linking.specs.References.{file_machine, record_size, references_in, relocation_tables, table_left}
use Rattle.elf_linking.specs.RelocationTypes.{relative_kind}
use Rattle.elf_linking.specs.Relr.{relr_rest}
use Rattle.elf_linking.specs.TableLocations.{table_but_zero, table_by}
use Rattle.elf_loading.specs.Types.{Dynamic, ElfFile, InOrder, LinkError, Packed, Part, Records, Reference, Relocation, Relr, TableLocation}
use Rattle.elf_linking.specs.declared.view.tags.TheConstants.{DT_JMPREL, DT_PLTREL, DT_PLTRELSZ, DT_REL, DT_RELA, DT_RELASZ, DT_RELR, DT_RELRSZ, DT_RELSZ}
use Rattle.elf_loading.specs.Words.{address_size}

-- the relocations of a table, with addends in the records or in place, of the procedure linkage table or not
abbrev pub placed : Bool → Bool → List Reference → List Relocation
placed in_place slot references = map (λ reference. record { reference = reference; in_place = in_place; slot = slot }) references

-- the relative relocation at an address, of a type, whose addend is the word there
abbrev pub relative_at : ℕ → ℕ → Relocation
relative_at kind address =
    record { reference = record { offset = address; kind = kind; symbol = 0; addend = 0 }; in_place = true; slot = false }

-- the addresses of packed relocations, at the entries DT_RELR and DT_RELRSZ; none if there is no entry DT_RELR
abbrev pub relr_addresses : ElfFile → List (Dynamic ℕ) → Result (List ℕ) LinkError
relr_addresses file entries =
    unwrap_or (option_map (relr_at file (number_with DT_RELRSZ entries)) (number_with DT_RELR entries)) (Ok [])

-- The records at the end of a table that are those of the procedure linkage table again.

-- an entry DT_PLTREL has this number
abbrev pub is_kind : ℕ → Option ℕ → Bool
is_kind kind None = false
is_kind kind (Some number) = number == kind

-- a table ends with another: both end at one address, and the other isn't longer
abbrev pub ends_with : TableLocation → TableLocation → Bool
ends_with table other = is_some other.start && nat_le (unwrap_or other.size 0) (unwrap_or table.size 0)
    && unwrap_or table.start 0 + unwrap_or table.size 0 == unwrap_or other.start 0 + unwrap_or other.size 0

-- the number of records of the table at the entries `kind` and `size`, without those of the procedure linkage table if it
-- ends with that table, and both are of one kind
abbrev pub kept_records : ElfFile → List (Dynamic ℕ) → ℕ → ℕ → ℕ
kept_records file entries kind size =
    let table = table_but_zero entries kind size in let slots = table_by entries DT_JMPREL DT_PLTRELSZ in
    (unwrap_or table.size 0 - (if is_kind kind (number_with DT_PLTREL entries) && ends_with table slots then unwrap_or slots.size 0 else 0))
    / record_size (address_size file) (kind == DT_RELA)

-- all relocations of a file: the packed ones, those of the tables DT_RELA and DT_REL that are not those of the
-- procedure linkage table again, and those of the procedure linkage table (DT_JMPREL); or the first error
unfoldable pub relocations_in_order : ElfFile → List (Dynamic ℕ) → Result (List Relocation) LinkError
relocations_in_order file entries = and_then (relr_addresses file entries) (λ addresses.
    and_then (relocation_tables file entries) (λ tables.
    Ok (map (relative_at (relative_kind (file_machine file))) addresses
    ++ (placed false false (take (kept_records file entries DT_RELA DT_RELASZ) tables.rela)
    ++ (placed true false (take (kept_records file entries DT_REL DT_RELSZ) tables.rel)
    ++ placed (is_kind DT_REL (number_with DT_PLTREL entries)) true tables.plt)))))

-- What iterators have not yet returned.

-- the addresses of packed relocations that are left, if there are any
abbrev pub relr_left : Option Relr → List ℕ
relr_left None = []
relr_left (Some relr) = relr_rest relr

-- the packed relocations that are left
abbrev pub packed_left : Packed → List Relocation
packed_left packed = map (relative_at packed.kind) (relr_left packed.rest)

-- at most a number of references, or all of them
abbrev pub take_most : Option ℕ → List Reference → List Reference
take_most None references = references
take_most (Some most) references = take most references

-- the relocations of a table that are left
abbrev pub part_left : Part → List Relocation
part_left part = placed part.in_place part.slot (take_most part.most (table_left part.rest))

-- the relocations of records from an index on
abbrev pub first_left : Records → ℕ → List Relocation
first_left records at = placed false false (drop at (take records.end
    (references_in 8 true (table_order records.table) (table_data records.table))))

-- the relocations of records that are left, if there are records
abbrev pub records_left : Option Records → List Relocation
records_left None = []
records_left (Some records) = first_left records records.at

-- some records, if there are any, are the first `kept` ones of a table
abbrev pub HasRecords : Result (List Reference) LinkError → ℕ → Option Records → Type 0
HasRecords answer kept None = ⊤
HasRecords answer kept (Some records) = (references : List Reference) → answer ≡ Ok references
    → records_left (Some records) ≡ placed false false (take kept references)

-- the relocations of all tables that are left
abbrev pub order_left : InOrder → List Relocation
order_left order = packed_left order.packed ++ (records_left order.records
    ++ (part_left order.rela ++ (part_left order.rel ++ part_left order.slots)))
