-- The symbols that own bytes of sections (this project's own): those of the first section of type SHT_SYMTAB, if they are
-- asked for, there is one, and the section header table is whole.
use Rattle.std.specs.Prelude.{◌≡◌, ◌≢◌, ℕ, ◌≤◌, ◌<◌, ◌⊎◌, List, Option, None, Some, Result, Ok, Err, codes, slice_get}
use Rattle.elf_addresses.specs.FileClaims.{section_parts}
use Rattle.elf_addresses.specs.SymbolClaims.{symbol_count, symbol_items}
use Rattle.elf_addresses.specs.Symtab.{IsSymtab, IsSymtabFailed, IsSymtabSection}
use Rattle.elf_base.specs.FileHeader.{file_class}
use Rattle.elf_base.specs.Text.{bytes_up_to_zero_of}
use Rattle.elfsize.specs.Parts.{AreRuns}
use Rattle.elfsize.specs.Split.{AreSplit, section_claims}
use Rattle.elfsize.specs.declared.lines.AnyError.{AnyError}
use Rattle.elfsize.specs.declared.lines.AnyError.TheVariants.{Elf, Many, Memory}
use Rattle.elfsize.specs.declared.symbols.Symbols.{Symbols}
use Rattle.elfsize.specs.declared.symbols.Symbols.TheVariants as are
use Rattle.elfsize.specs.declared.totals.Run.{Run}
use Rattle.elfsize.specs.declared.view.View.{View}
use Rattle.elfsize.specs.declared.view.View.TheVariants as views
use Rattle.xmas_elf.specs.First.{FindsFirstAt}
use Rattle.xmas_elf.specs.Symbol.{SymbolFields, entry_32_fields, entry_64_fields}
use Rattle.xmas_elf.specs.Types.{ElfError, ElfFile}

-- the number of symbols
abbrev pub count_in : Symbols → ℕ
count_in are.None = 0
count_in (are.Narrow symbols) = symbol_count symbols
count_in (are.Wide symbols) = symbol_count symbols

-- there are fewer than 2 to the 32
abbrev pub AreFew : Symbols → Type 0
AreFew symbols = count_in symbols < 0x100000000

-- the runs of a file, with the bytes of sections by symbol if there are symbols
abbrev pub AreRunsBy : Symbols → ElfFile → List Run → Type 0
AreRunsBy are.None file runs = AreRuns file runs
AreRunsBy (are.Narrow symbols) file runs = AreSplit (section_claims entry_32_fields symbols) file runs
AreRunsBy (are.Wide symbols) file runs = AreSplit (section_claims entry_64_fields symbols) file runs

-- the symbols of the section at an index, by the class of the file
abbrev pub AreSymtabAt : ElfFile → ℕ → Symbols → Type 0
AreSymtabAt file index are.None = ⊥
AreSymtabAt file index (are.Narrow symbols) = (file_class file.header ≡ 1) × IsSymtab file index symbols
AreSymtabAt file index (are.Wide symbols) = (file_class file.header ≢ 1) × IsSymtab file index symbols

-- the symbols of the first section of type SHT_SYMTAB of a whole section header table, or none if there is no such section
abbrev pub AreFirst : ElfFile → Option ℕ → Symbols → Type 0
AreFirst file None symbols = symbols ≡ are.None
AreFirst file (Some index) symbols = AreSymtabAt file index symbols

-- the symbols of a file: those of the first section of type SHT_SYMTAB in its section header table, or none
abbrev pub AreSymtab : ElfFile → Symbols → Type 0
AreSymtab file symbols = (first : Option ℕ) × FindsFirstAt IsSymtabSection (section_parts file) first × AreFirst file first symbols

-- the symbols by what is asked for
abbrev pub AreSymbols : View → ElfFile → Symbols → Type 0
AreSymbols views.Whole file symbols = symbols ≡ are.None
AreSymbols views.Segments file symbols = symbols ≡ are.None
AreSymbols views.Symbols file symbols = AreSymtab file symbols

-- Why there are none.

-- an error of the section at an index, by the class of the file
abbrev pub IsSymtabError : ElfFile → ℕ → ElfError → Type 0
IsSymtabError file index error = ((file_class file.header ≡ 1) × IsSymtabFailed 16 file index error)
    ⊎ ((file_class file.header ≢ 1) × IsSymtabFailed 24 file index error)

-- or it has 2 to the 32 symbols or more
abbrev pub IsFailedAt : ElfFile → ℕ → AnyError → Type 0
IsFailedAt file index (Elf error) = IsSymtabError file index error
IsFailedAt file index Many = (symbols : Symbols) × AreSymtabAt file index symbols × (0x100000000 ≤ count_in symbols)
IsFailedAt file index Memory = ⊥

-- why the symbols of a file can't be used: the first section of type SHT_SYMTAB has this error
abbrev pub IsSymtabReason : ElfFile → AnyError → Type 0
IsSymtabReason file failure =
    (index : ℕ) × FindsFirstAt IsSymtabSection (section_parts file) (Some index) × IsFailedAt file index failure

-- the same by what is asked for: no error where no symbols are
abbrev pub IsSymbolsError : View → ElfFile → AnyError → Type 0
IsSymbolsError views.Whole file failure = ⊥
IsSymbolsError views.Segments file failure = ⊥
IsSymbolsError views.Symbols file failure = IsSymtabReason file failure

-- The names of symbols.

-- a name, or `?` if it can't be read
abbrev pub or_mark : Result (List ℕ) ElfError → List ℕ
or_mark (Ok name) = name
or_mark (Err error) = codes "?"

-- the name of a symbol in a string table, or `?` if it can't be read
abbrev pub symbol_name : {E : Type 0} → (E → SymbolFields) → List ℕ → Option E → List ℕ
symbol_name fields strings None = codes "?"
symbol_name fields strings (Some symbol) = or_mark (bytes_up_to_zero_of strings (fields symbol).name)

-- the name of the symbol at an index
abbrev pub symbol_name_in : Symbols → ℕ → List ℕ
symbol_name_in are.None index = codes "?"
symbol_name_in (are.Narrow symbols) index = symbol_name entry_32_fields symbols.strings.now (slice_get (symbol_items symbols) index)
symbol_name_in (are.Wide symbols) index = symbol_name entry_64_fields symbols.strings.now (slice_get (symbol_items symbols) index)
