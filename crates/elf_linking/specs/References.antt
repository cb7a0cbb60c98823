-- The relocations of a file that name a symbol (gABI, "Relocation" and "Dynamic Section").
use Rattle.std.specs.Prelude.{◌≡◌, ℕ, ◌+◌, ◌*◌, ◌/◌, ◌%◌, ◌^◌, nat_le, nat_lt, ◌==◌, ◌&&◌, ◌||◌, not, Bool, true, false, List, [], ◌∷◌, ◌++◌, length, filter, Option, Some, ok_or, option_map, unwrap_or, Result, Ok, Err, if◌then◌else◌}
use Rattle.elf_base.specs.FileHeader.{file_class, file_order, header_fields, machine_number}
use Rattle.elf_base.specs.Number.{number}
use Rattle.elf_base.specs.FirstError.{and_then, unless}
use Rattle.elf_base.specs.Table.{records, table_data, table_order, table_rest}
use Rattle.elf_base.specs.declared.bytes.Order.{Order}
use Rattle.elf_base.specs.declared.error.ElfError.TheVariants.{NotMultiple}
use Rattle.elf_linking.specs.DynamicView.{IsSymbolCount, number_with}
use Rattle.elf_linking.specs.Loaded.{bytes_at_of}
use Rattle.elf_linking.specs.RelocationTypes.{row_of}
use Rattle.elf_linking.specs.TableLocations.{table_but_zero, table_by}
use Rattle.elf_linking.specs.declared.error.LinkError.{LinkError}
use Rattle.elf_linking.specs.declared.error.LinkError.TheVariants.{Elf, NoEntry, RelocationKind, UnknownClass}
use Rattle.elf_linking.specs.declared.references.Reference.{Reference}
use Rattle.elf_linking.specs.declared.references.AllRelocations.{AllRelocations}
use Rattle.elf_linking.specs.declared.references.References.{References}
use Rattle.elf_linking.specs.declared.references.RelocationTables.{RelocationTables}
use Rattle.elf_linking.specs.declared.references.TableRelocations.{TableRelocations}
use Rattle.elf_linking.specs.declared.references.tables.Relocations.{Relocations}
use Rattle.elf_linking.specs.declared.references.tables.Relocations.TheVariants.{Absent, Rel32, Rel64, Rela32, Rela64}
use Rattle.elf_linking.specs.declared.view.location.TableLocation.{TableLocation}
use Rattle.elf_records.specs.declared.dynamic.Dynamic.{Dynamic}
use Rattle.elf_linking.specs.declared.view.tags.TheConstants.{DT_JMPREL, DT_PLTREL, DT_PLTRELSZ, DT_REL, DT_RELA, DT_RELASZ, DT_RELSZ}
use Rattle.xmas_elf.specs.declared.ElfFile.{ElfFile}

-- The relocations of a table: each record has two or three numbers, of 4 or 8 bytes each.

-- the relocation in the bytes of a record (Elf32_Rel, Elf32_Rela, Elf64_Rel and Elf64_Rela): r_offset; r_info, with the
-- type in its lower 8 bits (ELF32_R_TYPE) or 32 bits (ELF64_R_TYPE), and the index of the symbol above; and r_addend, or 0
abbrev pub reference_in : ℕ → Bool → Order → List ℕ → Reference
reference_in width addends order bytes = let types = if width == 4 then 2 ^ 8 else 2 ^ 32 in record {
  offset = number order width 0 bytes;
  kind = number order width width bytes % types;
  symbol = number order width width bytes / types;
  addend = if addends then number order width (2 * width) bytes else 0;
}

-- the size of a record
abbrev pub record_size : ℕ → Bool → ℕ
record_size width addends = if addends then 3 * width else 2 * width

-- the relocations in the bytes of a table
abbrev pub references_in : ℕ → Bool → Order → List ℕ → List Reference
references_in width addends order bytes = records (record_size width addends) (reference_in width addends order) bytes

-- the same in a file of this class and byte order: an error if the class is unknown, or the bytes are not whole records
abbrev pub relocations_in : ℕ → Order → Bool → List ℕ → Result (List Reference) LinkError
relocations_in class order addends bytes = let width = if class == 1 then 4 else 8 in unless (
    (not (class == 1 || class == 2), UnknownClass)
    ∷ (not (length bytes % record_size width addends == 0), Elf NotMultiple)
    ∷ []) (references_in width addends order bytes)

-- The three tables of a dynamic segment: that of DT_RELA, that of DT_REL, and that of DT_JMPREL, whose
-- relocations are of the kind that DT_PLTREL says.

-- the relocations at an address, by their size in bytes and by their kind, which is DT_RELA or DT_REL
abbrev pub relocations_at : ElfFile → ℕ → ℕ → ℕ → Result (List Reference) LinkError
relocations_at file address size kind = if kind == DT_RELA || kind == DT_REL
    then and_then (bytes_at_of file address size) (relocations_in (file_class file.header) (file_order file.header) (kind == DT_RELA))
    else Err RelocationKind

-- the relocations of a table; none if there is no entry with its address
abbrev pub table_relocations : ElfFile → TableLocation → Option ℕ → Result (List Reference) LinkError
table_relocations file table kind = unwrap_or (option_map (λ address. and_then (ok_or table.size NoEntry) (λ size.
    and_then (ok_or kind NoEntry) (relocations_at file address size))) table.start) (Ok [])

-- a relocation in a file for a machine names a symbol: its symbol isn't number 0 (STN_UNDEF), and its type takes one
abbrev pub names_symbol : ℕ → Reference → Bool
names_symbol machine relocation = not (relocation.symbol == 0) && (row_of machine relocation.kind).names

-- the machine of a file (gABI, "ELF Header": e_machine)
abbrev pub file_machine : ElfFile → ℕ
file_machine file = machine_number (header_fields file.header.pt2).machine

-- the relocations of each table
pub record Tables : Type 0 where
  pub rela : List Reference
  pub rel : List Reference
  pub plt : List Reference

-- those of the three tables, or of two without that of DT_REL; or the first error
unfoldable pub tables_with : Bool → ElfFile → List (Dynamic ℕ) → Result Tables LinkError
tables_with with_rel file entries =
    and_then (table_relocations file (table_but_zero entries DT_RELA DT_RELASZ) (Some DT_RELA)) (λ rela.
    and_then (if with_rel then table_relocations file (table_but_zero entries DT_REL DT_RELSZ) (Some DT_REL) else Ok []) (λ rel.
    and_then (table_relocations file (table_by entries DT_JMPREL DT_PLTRELSZ) (number_with DT_PLTREL entries)) (λ plt.
    Ok (record { rela = rela; rel = rel; plt = plt }))))

-- those of the three tables
unfoldable pub relocation_tables : ElfFile → List (Dynamic ℕ) → Result Tables LinkError
relocation_tables file entries = tables_with true file entries

-- the machines x86-64 (62) and AArch64 (183) have records with addends alone (their psABIs), and glibc doesn't read the
-- table of DT_REL there
abbrev pub takes_rel : ℕ → Bool
takes_rel machine = not (machine == 62 || machine == 183)

-- the relocations of some tables, one table after the other
abbrev pub in_tables : Result Tables LinkError → Result (List Reference) LinkError
in_tables answer = and_then answer (λ tables. Ok (tables.rela ++ (tables.rel ++ tables.plt)))

-- those of the three tables
unfoldable pub relocations_of : ElfFile → List (Dynamic ℕ) → Result (List Reference) LinkError
relocations_of file entries = in_tables (relocation_tables file entries)

-- those that name a symbol, of the tables that the machine has
unfoldable pub references_of : ElfFile → List (Dynamic ℕ) → Result (List Reference) LinkError
references_of file entries = let machine = file_machine file in
    and_then (in_tables (tables_with (takes_rel machine) file entries)) (λ all. Ok (filter (names_symbol machine) all))

-- the relocations that an iterator over one table has not yet read
abbrev pub relocations_left : Relocations → List Reference
relocations_left Absent = []
relocations_left (Rela32 rest) = references_in 4 true (table_order (table_rest rest)) (table_data (table_rest rest))
relocations_left (Rela64 rest) = references_in 8 true (table_order (table_rest rest)) (table_data (table_rest rest))
relocations_left (Rel32 rest) = references_in 4 false (table_order (table_rest rest)) (table_data (table_rest rest))
relocations_left (Rel64 rest) = references_in 8 false (table_order (table_rest rest)) (table_data (table_rest rest))

-- the relocations that an iterator over all three tables has not yet returned, table by table
abbrev pub tables_left : AllRelocations → Tables
tables_left iter = record { rela = relocations_left iter.rela; rel = relocations_left iter.rel; plt = relocations_left iter.plt }

-- the same, one table after the other
abbrev pub all_left : AllRelocations → List Reference
all_left iter = relocations_left iter.rela ++ (relocations_left iter.rel ++ relocations_left iter.plt)

-- those that an iterator over one table has not yet returned
abbrev pub table_left : TableRelocations → List Reference
table_left iter = relocations_left iter.rest

-- those of each table
abbrev pub each_left : RelocationTables → Tables
each_left tables = record { rela = table_left tables.rela; rel = table_left tables.rel; plt = table_left tables.plt }

-- the references that an iterator has not yet returned
abbrev pub references_left : References → List Reference
references_left iter = filter (names_symbol iter.machine) (all_left iter.all)

-- The number of symbols that look-ups and relocations reach (this project's own: no entry says how many there are).

-- the least number that is not below the count, and above the index of the symbol of each reference
abbrev pub count_with : ℕ → List Reference → ℕ
count_with count [] = count
count_with count (reference ∷ rest) =
    count_with (if nat_le count reference.symbol then reference.symbol + 1 else count) rest

-- the number of symbols by the hash table; or, if that is symbol 0 at most, one above the indices of all references
pub record IsReachedCount (file : ElfFile) (entries : List (Dynamic ℕ)) (answer : Result ℕ LinkError) : Type 0 where
  pub count : Result ℕ LinkError
  pub counted : IsSymbolCount file entries count
  pub reached : answer ≡ and_then count (λ least. if nat_lt 1 least then Ok least else
      and_then (references_of file entries) (λ references. Ok (count_with least references)))
