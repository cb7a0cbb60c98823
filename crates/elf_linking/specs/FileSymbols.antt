-- The symbols of a file, wherever it has them (gABI, "Sections", SHT_SYMTAB and SHT_DYNSYM, sh_link, and "Dynamic
-- Section", DT_SYMTAB; which of them are read is this project's own).
use Rattle.std.specs.Prelude.{◌≡◌, ◌≢◌, ℕ, ◌%◌, ◌==◌, not, Bool, List, length, Option, None, Some, Result, Ok, Err, if◌then◌else◌}
use Rattle.std.specs.List.{find}
use Rattle.std.specs.Option.{option_or}
use Rattle.std.specs.Borrow.{Bor}
use Rattle.elf_base.specs.FileHeader.{file_class, file_order}
use Rattle.elf_base.specs.FirstError.{and_then}
use Rattle.elf_base.specs.Table.{table_bytes, table_data, table_order}
use Rattle.elf_base.specs.declared.error.ElfError.TheVariants.{NotMultiple}
use Rattle.elf_linking.specs.DynamicView.{LieAsSymbols, LiesAsStrings, as_link_error, counted_symbols_of, dynamic_entries_of, strings_by}
use Rattle.elf_linking.specs.References.{IsReachedCount}
use Rattle.elf_linking.specs.declared.error.LinkError.{LinkError}
use Rattle.elf_linking.specs.declared.error.LinkError.TheVariants.{Elf, UnknownClass}
use Rattle.elf_linking.specs.declared.symbols.FileSymbols.{FileSymbols}
use Rattle.elf_linking.specs.declared.symbols.FileSymbols.TheVariants.{Narrow, Wide}
use Rattle.elf_records.specs.declared.dynamic.Dynamic.{Dynamic}
use Rattle.xmas_elf.specs.Place.{LiesAsSection}
use Rattle.xmas_elf.specs.SectionData.{section_data_of}
use Rattle.xmas_elf.specs.SectionHeader.{section_fields, section_list, section_of}
use Rattle.xmas_elf.specs.SymbolTable.{carried_strings, carried_table, table_symbols}
use Rattle.xmas_elf.specs.Symbols.{named_symbols}
use Rattle.xmas_elf.specs.declared.ElfFile.{ElfFile}
use Rattle.xmas_elf.specs.Types.{SectionHeader}
use Rattle.xmas_elf.specs.declared.symbol_table.table.SymbolTable.{SymbolTable}

-- a section has a type (sh_type)
abbrev pub is_of_type : ℕ → SectionHeader → Bool
is_of_type kind section = (section_fields section).type_ == kind

-- the first section of a type
abbrev pub first_of_type : ElfFile → ℕ → Option SectionHeader
first_of_type file kind = find (is_of_type kind) (section_list file)

-- the section with the symbols: the first of type SHT_SYMTAB, 2, otherwise the first of type SHT_DYNSYM, 11
unfoldable pub symbols_section_of : ElfFile → Option SectionHeader
symbols_section_of file = option_or (first_of_type file 2) (first_of_type file 11)

-- the bytes of symbols of a size in a section, and those of the string table that it links to
unfoldable pub section_symbols_of : ElfFile → ℕ → SectionHeader → Result (List ℕ × List ℕ) LinkError
section_symbols_of file size section = and_then (as_link_error (section_data_of file section)) (λ bytes.
    if not (length bytes % size == 0) then Err (Elf NotMultiple)
    else and_then (as_link_error (section_of file (section_fields section).link)) (λ strings.
    and_then (as_link_error (section_data_of file strings)) (λ text. Ok (bytes, text))))

-- the same of a dynamic segment, with as many symbols as look-ups and relocations reach
pub data AreSegmentSymbols (file : ElfFile) (size : ℕ) : Result (List ℕ × List ℕ) LinkError → Type 0 where
  unread : (error : LinkError) → dynamic_entries_of file ≡ Err error → AreSegmentSymbols file size (Err error)
  counted : (entries : List (Dynamic ℕ)) (count : Result ℕ LinkError) (answer : Result (List ℕ × List ℕ) LinkError)
      → dynamic_entries_of file ≡ Ok entries → IsReachedCount file entries count
      → answer ≡ and_then count (λ many. and_then (counted_symbols_of file entries many size) (λ bytes.
      and_then (strings_by file entries) (λ text. Ok (bytes, text))))
      → AreSegmentSymbols file size answer

-- the bytes of the symbols of a file, of a size, and those of their string table
pub data AreFileSymbols (file : ElfFile) (size : ℕ) : Result (List ℕ × List ℕ) LinkError → Type 0 where
  in_section : (section : SectionHeader) (answer : Result (List ℕ × List ℕ) LinkError)
      → symbols_section_of file ≡ Some section → answer ≡ section_symbols_of file size section
      → AreFileSymbols file size answer
  in_segment : (answer : Result (List ℕ × List ℕ) LinkError) → symbols_section_of file ≡ None
      → AreSegmentSymbols file size answer → AreFileSymbols file size answer

-- two slices, by their bytes alone
abbrev pub pair_bytes : Result (Bor (List ℕ) × Bor (List ℕ)) LinkError → Result (List ℕ × List ℕ) LinkError
pair_bytes (Ok pair) = Ok (pair.0.now, pair.1.now)
pair_bytes (Err error) = Err error

-- where these two slices lie: at the offsets of the section and of the string table that it links to, or at those of
-- the addresses in the dynamic segment
pub data LieAsFileSymbols (file : ElfFile) (bytes strings : Bor (List ℕ)) : Type 0 where
  as_section : (section linked : SectionHeader) → symbols_section_of file ≡ Some section
      → section_of file (section_fields section).link ≡ Ok linked
      → LiesAsSection file section bytes → LiesAsSection file linked strings → LieAsFileSymbols file bytes strings
  as_segment : (entries : List (Dynamic ℕ)) → symbols_section_of file ≡ None → dynamic_entries_of file ≡ Ok entries
      → LieAsSymbols file entries bytes → LiesAsStrings file entries strings → LieAsFileSymbols file bytes strings

-- the symbols of a file, of a size, with their names in their string table
pub record AreTableOf {E : Type 0} {e r : _} (size : ℕ) (file : ElfFile) (symbols : SymbolTable E e r) : Type 0 where
  pub strings : Bor (List ℕ)
  pub strings_are : carried_strings symbols ≡ Some (Ok strings)
  pub bytes_are : AreFileSymbols file size (Ok (table_data (carried_table symbols), strings.now))
  pub order_is : table_order (carried_table symbols) ≡ file_order file.header
  pub symbols_are : table_symbols symbols ≡ named_symbols e.fields strings.now (carried_table symbols)
  pub lie : LieAsFileSymbols file (table_bytes (carried_table symbols)) strings

-- why there are none: by the class of the file, whose symbols have 16 bytes or 24 (Elf32_Sym, Elf64_Sym)
pub data NoFileSymbols (file : ElfFile) : LinkError → Type 0 where
  narrow : (error : LinkError) → file_class file.header ≡ 1 → AreFileSymbols file 16 (Err error) → NoFileSymbols file error
  wide : (error : LinkError) → file_class file.header ≡ 2 → AreFileSymbols file 24 (Err error) → NoFileSymbols file error
  no_class : file_class file.header ≢ 1 → file_class file.header ≢ 2 → NoFileSymbols file UnknownClass

-- the symbols of a file, of its class
abbrev pub AreSymbolsOf : ElfFile → FileSymbols → Type 0
AreSymbolsOf file (Narrow symbols) = (file_class file.header ≡ 1) × AreTableOf 16 file symbols
AreSymbolsOf file (Wide symbols) = (file_class file.header ≡ 2) × AreTableOf 24 file symbols
