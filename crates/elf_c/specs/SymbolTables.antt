-- The symbols of a section, found once: the record of a first call, and what later calls read by it (gABI,
-- "Symbol Table").
use Rattle.std.specs.Prelude.{◌≡◌, ℕ, ◌%◌, ◌==◌, Bool, true, false, List, length, Result, Ok, Err, MatchResult, if◌then◌else◌}
use Rattle.elf_base.specs.FileHeader.{encoding_number, file_class, order_of}
use Rattle.elf_base.specs.Table.{records, table_items}
use Rattle.elf_base.specs.declared.bytes.Order.{Order}
use Rattle.elf_base.specs.declared.error.ElfError.TheVariants.{NotMultiple}
use Rattle.xmas_elf.specs.Content.{Content, dyn_symbols_32, dyn_symbols_64, symbols_32, symbols_64, table_of}
use Rattle.xmas_elf.specs.Ranges.{range_of}
use Rattle.xmas_elf.specs.SectionContent.{section_content_of}
use Rattle.xmas_elf.specs.SectionHeader.{section_fields, section_of}
use Rattle.xmas_elf.specs.Symbol.{SymbolFields, dyn_entry_32, dyn_entry_32_fields, dyn_entry_64, dyn_entry_64_fields, entry_32, entry_64}
use Rattle.xmas_elf.specs.declared.ElfFile.{ElfFile}
use Rattle.xmas_elf.specs.declared.sections.section_header.SectionHeader.{SectionHeader}
use Rattle.elf_c.specs.Records.{LiesIn, name_answer, range_at, record_among, text_range}
use Rattle.elf_c.specs.Status.{and_so}
use Rattle.elf_c.specs.Symbols.{linked_range}
use Rattle.elf_c.specs.declared.names.Name.{Name}
use Rattle.elf_c.specs.declared.status.AnyError.{AnyError}
use Rattle.elf_c.specs.declared.status.AnyError.TheVariants.{Elf, OtherData}
use Rattle.elf_c.specs.declared.symbol_tables.AnySymbols.{AnySymbols}
use Rattle.elf_c.specs.declared.symbol_tables.AnySymbols.TheVariants.{Narrow, Wide}
use Rattle.elf_c.specs.declared.symbol_tables.SymbolTable.{SymbolTable}

-- the number of symbols in the contents of a section, or that they are none
abbrev pub symbol_count_in : Content → Result ℕ AnyError
symbol_count_in (table_of symbols_32 order bytes) = Ok (length (records 16 (entry_32 order) bytes))
symbol_count_in (table_of symbols_64 order bytes) = Ok (length (records 24 (entry_64 order) bytes))
symbol_count_in (table_of dyn_symbols_32 order bytes) = Ok (length (records 16 (dyn_entry_32 order) bytes))
symbol_count_in (table_of dyn_symbols_64 order bytes) = Ok (length (records 24 (dyn_entry_64 order) bytes))
symbol_count_in _ = Err OtherData

-- the record of a section with this number of symbols: their range, and that of the names (sh_link)
abbrev pub table_with : ElfFile → SectionHeader → ℕ → SymbolTable
table_with file header count = let strings = name_answer (linked_range file header) in record {
  symbols = range_at (section_fields header).offset (section_fields header).size;
  strings = strings.range;
  count = count;
  strings_status = strings.status;
  class = file_class file.header;
  encoding = encoding_number file.header.pt1.encoding;
}

-- the record of a section, if it has symbols
abbrev pub table_if : ElfFile → SectionHeader → Result ℕ AnyError → Result SymbolTable AnyError
table_if file header (Ok count) = Ok (table_with file header count)
table_if file header (Err why) = Err why

-- the record of the section at an index, if it has symbols
abbrev pub table_of_section : ElfFile → ℕ → Result SymbolTable AnyError
table_of_section file section = and_so (section_of file section) (λ header.
    and_so (section_content_of file header) (λ content. table_if file header (symbol_count_in content)))

-- the value of the symbol at an index of bytes in the layout of class 32 or else of class 64, or why there is none:
-- the bytes are a whole number of symbols
abbrev pub symbol_among : {T : Type 0} → (SymbolFields → T) → Bool → Order → List ℕ → ℕ → Result T AnyError
symbol_among value true order bytes index =
    record_among (λ e. value (dyn_entry_32_fields e)) 16 (dyn_entry_32 order) bytes index
symbol_among value false order bytes index =
    record_among (λ e. value (dyn_entry_64_fields e)) 24 (dyn_entry_64 order) bytes index

-- the value of the symbol at an index of the range in a record, or why there is none
abbrev pub symbol_by : {T : Type 0} → (SymbolFields → T) → List ℕ → SymbolTable → ℕ → Result T AnyError
symbol_by value input table index = and_so (range_of input table.symbols.offset table.symbols.size)
    (λ bytes. symbol_among value (table.class == 1) (order_of table.encoding) bytes index)

-- the result is the table of the symbols in bytes, in the layout of class 32 or else of class 64, or the error
abbrev pub AreSymbolsIn : Bool → Order → List ℕ → Result AnySymbols AnyError → Type 0
AreSymbolsIn true order bytes (Ok (Narrow table)) =
    ((length bytes % 16 == 0) ≡ true) × (table_items table ≡ records 16 (dyn_entry_32 order) bytes)
AreSymbolsIn true order bytes (Err why) = ((length bytes % 16 == 0) ≡ false) × (why ≡ Elf NotMultiple)
AreSymbolsIn false order bytes (Ok (Wide table)) =
    ((length bytes % 24 == 0) ≡ true) × (table_items table ≡ records 24 (dyn_entry_64 order) bytes)
AreSymbolsIn false order bytes (Err why) = ((length bytes % 24 == 0) ≡ false) × (why ≡ Elf NotMultiple)
AreSymbolsIn _ order bytes _ = ⊥

-- the result is the table of the symbols in the range in a record, or the error
abbrev pub AreSymbolsBy : List ℕ → SymbolTable → Result AnySymbols AnyError → Type 0
AreSymbolsBy input table answer = MatchResult (range_of input table.symbols.offset table.symbols.size)
    (λ bytes. AreSymbolsIn (table.class == 1) (order_of table.encoding) bytes answer)
    (λ error. answer ≡ Err (Elf error))

-- the range of the name at an offset in the string table of a record, with its status: that of the string table, if it
-- is not 0
abbrev pub name_range_in : List ℕ → SymbolTable → ℕ → Name
name_range_in input table name = if table.strings_status == 0
    then name_answer (text_range input table.strings name)
    else record { range = range_at 0 0; status = table.strings_status }

-- the range of a symbol's name
abbrev pub symbol_name_range : List ℕ → SymbolTable → SymbolFields → Name
symbol_name_range input table fields = name_range_in input table fields.name

-- the ranges of a record lie in the input
abbrev pub LieWithin : List ℕ → SymbolTable → Type 0
LieWithin input table = LiesIn input table.symbols × LiesIn input table.strings
