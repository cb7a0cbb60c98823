-- The symbols of the dynamic segment, which is found without section headers, and those of a file (gABI, "Dynamic
-- Section": DT_SYMTAB, and "Symbol Table"; their number is that of a hash table: "Hash Table", nchain, and the
-- convention of GNU binutils and glibc).
use Rattle.std.specs.Prelude.{◌≡◌, ℕ, ◌*◌, ◌==◌, List, MatchOption, Option, None, Some, Result, Ok, Err, if◌then◌else◌}
use Rattle.elf_addresses.specs.Symtab.{IsSymtabSection}
use Rattle.elf_base.specs.FileHeader.{encoding_number, file_class, file_order}
use Rattle.elf_base.specs.Table.{records}
use Rattle.elf_linking.specs.DynamicView.{AreSymbols, IsSymbolCount, dynamic_entries_of, number_with}
use Rattle.elf_linking.specs.declared.error.LinkError.{LinkError}
use Rattle.elf_linking.specs.declared.error.LinkError.TheVariants.{NoEntry}
use Rattle.elf_records.specs.declared.dynamic.Dynamic.{Dynamic}
use Rattle.elf_linking.specs.declared.view.tags.TheConstants.{DT_SYMTAB}
use Rattle.xmas_elf.specs.First.{FindsFirstAt}
use Rattle.xmas_elf.specs.SectionHeader.{section_list}
use Rattle.xmas_elf.specs.Symbol.{SymbolFields, dyn_entry_32, dyn_entry_32_fields, dyn_entry_64, dyn_entry_64_fields}
use Rattle.xmas_elf.specs.declared.ElfFile.{ElfFile}
use Rattle.elf_c.specs.Addresses.{range_at_address}
use Rattle.elf_c.specs.DynamicTexts.{linked_name, range_in_strings, strings_range}
use Rattle.elf_c.specs.Records.{record_in}
use Rattle.elf_c.specs.SymbolTables.{table_of_section}
use Rattle.elf_c.specs.declared.names.Name.{Name}
use Rattle.elf_c.specs.declared.names.Range.{Range}
use Rattle.elf_c.specs.declared.status.AnyError.{AnyError}
use Rattle.elf_c.specs.declared.status.AnyError.TheVariants.{Link}
use Rattle.elf_c.specs.declared.symbol_tables.SymbolTable.{SymbolTable}

-- the number of symbols by the entries, or why there is none
abbrev pub IsCountBy : ElfFile → Result (List (Dynamic ℕ)) LinkError → Result ℕ LinkError → Type 0
IsCountBy file (Ok entries) count = IsSymbolCount file entries count
IsCountBy file (Err error) count = count ≡ Err error

-- the number of symbols of a file's dynamic segment, or why there is none
abbrev pub IsDynamicCount : ElfFile → Result ℕ LinkError → Type 0
IsDynamicCount file count = IsCountBy file (dynamic_entries_of file) count

-- the size of a symbol in bytes, by the class
abbrev pub symbol_size : ElfFile → ℕ
symbol_size file = if file_class file.header == 1 then 16 else 24

-- the bytes of the symbols by the entries, or why there are none
abbrev pub AreSymbolsBy : ElfFile → Result (List (Dynamic ℕ)) LinkError → Result (List ℕ) LinkError → Type 0
AreSymbolsBy file (Ok entries) bytes = AreSymbols file entries (symbol_size file) bytes
AreSymbolsBy file (Err error) bytes = bytes ≡ Err error

-- the bytes of the symbols of a file's dynamic segment, or why there are none
abbrev pub AreDynamicSymbols : ElfFile → Result (List ℕ) LinkError → Type 0
AreDynamicSymbols file bytes = AreSymbolsBy file (dynamic_entries_of file) bytes

-- the value of the symbol at an index of these bytes, by the class, or that there is none
abbrev pub linked_symbol_in : {T : Type 0} → (SymbolFields → T) → ElfFile → List ℕ → ℕ → Result T AnyError
linked_symbol_in value file bytes index = let order = file_order file.header in
    if file_class file.header == 1
    then record_in (λ e. value (dyn_entry_32_fields e)) (records 16 (dyn_entry_32 order) bytes) index
    else record_in (λ e. value (dyn_entry_64_fields e)) (records 24 (dyn_entry_64 order) bytes) index

-- the value of the symbol at an index, if there are symbols
abbrev pub dynamic_symbol_at : {T : Type 0} → (SymbolFields → T) → ElfFile → Result (List ℕ) LinkError → ℕ → Result T AnyError
dynamic_symbol_at value file (Ok bytes) index = linked_symbol_in value file bytes index
dynamic_symbol_at value file (Err error) index = Err (Link error)

-- the input range of the string table of the entries, or why there is none
abbrev pub strings_range_by : ElfFile → Result (List (Dynamic ℕ)) LinkError → Result Range AnyError
strings_range_by file (Ok entries) = strings_range file entries
strings_range_by file (Err error) = Err (Link error)

-- the range of a symbol's name in the string table of the dynamic segment, or why there is none
abbrev pub dynamic_symbol_name : ElfFile → SymbolFields → Name
dynamic_symbol_name file fields =
    linked_name (range_in_strings file.input.now (strings_range_by file (dynamic_entries_of file)) fields.name)

-- the record of a number of symbols in a range, with the range of the string table, or the error for it
abbrev pub segment_table : ElfFile → Result Range AnyError → ℕ → Range → SymbolTable
segment_table file strings count range = record {
  symbols = range;
  strings = (linked_name strings).range;
  count = count;
  strings_status = (linked_name strings).status;
  class = file_class file.header;
  encoding = encoding_number file.header.pt1.encoding;
}

-- the record of a number of symbols in the range, if there is one
abbrev pub table_in_range : ElfFile → Result Range AnyError → ℕ → Result Range AnyError → Result SymbolTable AnyError
table_in_range file strings count (Ok range) = Ok (segment_table file strings count range)
table_in_range file strings count (Err why) = Err why

-- the record of a number of symbols at an address, or why there are none
abbrev pub table_at_address : ElfFile → Result Range AnyError → Result ℕ LinkError → Option ℕ → Result SymbolTable AnyError
table_at_address file strings (Err error) address = Err (Link error)
table_at_address file strings (Ok count) None = Err (Link NoEntry)
table_at_address file strings (Ok count) (Some address) =
    table_in_range file strings count (range_at_address file address (count * symbol_size file))

-- the record of the symbols of the entries, with their number
abbrev pub symbol_table_by : ElfFile → Result (List (Dynamic ℕ)) LinkError → Result ℕ LinkError → Result SymbolTable AnyError
symbol_table_by file (Ok entries) count =
    table_at_address file (strings_range file entries) count (number_with DT_SYMTAB entries)
symbol_table_by file (Err error) count = Err (Link error)

-- the result is the record of the symbols of a file's dynamic segment, or why there are none
abbrev pub IsSegmentTable : ElfFile → Result SymbolTable AnyError → Type 0
IsSegmentTable file answer = (count : Result ℕ LinkError)
    × IsDynamicCount file count × (answer ≡ symbol_table_by file (dynamic_entries_of file) count)

-- the result is the record of the symbols of a file, or why there are none: those of the first section of type
-- SHT_SYMTAB, or, if there is no such section, those of the dynamic segment
abbrev pub IsFileTable : ElfFile → Result SymbolTable AnyError → Type 0
IsFileTable file answer = (found : Option ℕ) × FindsFirstAt IsSymtabSection (section_list file) found
    × MatchOption found (IsSegmentTable file answer) (λ index. answer ≡ table_of_section file index)
