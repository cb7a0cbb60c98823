-- The symbols of a file that name addresses: those of its symbol table, or else those of its dynamic segment (gABI, "Symbol
-- Table", SHT_SYMTAB, and "Dynamic Section", DT_SYMTAB; that the symbol table comes first is this project's own).
use Rattle.std.specs.Prelude.{◌≡◌, ◌≢◌, ℕ, [], Ok, None, Some}
use Rattle.elf_base.specs.FileHeader.{file_class}
use Rattle.elf_base.specs.Table.{table_data}
use Rattle.elf_addresses.specs.Symtab.{IsSymtab, IsSymtabFailed, IsSymtabSection, LieAsSymtab}
use Rattle.elf_addresses.specs.declared.file_symbols.AnyAddressSymbols.{AnyAddressSymbols}
use Rattle.elf_addresses.specs.declared.file_symbols.AnyAddressSymbols.TheVariants.{Narrow, Wide}
use Rattle.elf_addresses.specs.declared.symbols.AddressSymbols.{AddressSymbols}
use Rattle.elf_linking.specs.DynamicObject.{IsObject, IsObjectError, object_records}
use Rattle.elf_linking.specs.DynamicView.{LiesAsFileStrings, dynamic_strings_of}
use Rattle.elf_linking.specs.References.{file_machine}
use Rattle.elf_linking.specs.declared.error.LinkError.{LinkError}
use Rattle.elf_linking.specs.declared.error.LinkError.TheVariants.{Elf, UnknownClass}
use Rattle.elf_linking.specs.declared.object.DynamicObject.{DynamicObject}
use Rattle.xmas_elf.specs.First.{FindsFirstAt}
use Rattle.xmas_elf.specs.SectionHeader.{section_list}
use Rattle.xmas_elf.specs.Types.{ElfError, ElfFile}

-- the symbols of the dynamic segment of a file of this class, each of this size, and the string table of their names; no
-- section indices of SHT_SYMTAB_SHNDX belong to them; the machine is that of the file
pub record AreDynamic {E : Type 0} {r : _} (class size : ℕ) (file : ElfFile) (symbols : AddressSymbols E r) : Type 0 where
  pub object : DynamicObject E r
  pub is_object : IsObject class size file object
  pub table : symbols.table ≡ object_records object
  pub strings : dynamic_strings_of file ≡ Ok symbols.strings.now
  pub strings_lie : LiesAsFileStrings file symbols.strings
  pub indices : table_data symbols.indices ≡ []
  pub machine : symbols.machine ≡ file_machine file

-- the symbols of a file of this class: of the first section of type SHT_SYMTAB, or if there is none of the dynamic segment
pub data AreAddressSymbols {E : Type 0} {r : _} (class size : ℕ) (file : ElfFile) (symbols : AddressSymbols E r) : Type 0 where
  in_symtab : (index : ℕ) → file_class file.header ≡ class → FindsFirstAt IsSymtabSection (section_list file) (Some index)
      → IsSymtab file index symbols → LieAsSymtab file index symbols → AreAddressSymbols class size file symbols
  in_dynamic : file_class file.header ≡ class → FindsFirstAt IsSymtabSection (section_list file) None
      → AreDynamic class size file symbols → AreAddressSymbols class size file symbols

-- why a file has no such symbols: the first error, of its class, and then of that section, or of the dynamic segment
pub data HasNoSymbols (class size : ℕ) (file : ElfFile) : LinkError → Type 0 where
  other_class : file_class file.header ≢ class → HasNoSymbols class size file UnknownClass
  by_symtab : (index : ℕ) (error : ElfError) → file_class file.header ≡ class
      → FindsFirstAt IsSymtabSection (section_list file) (Some index) → IsSymtabFailed size file index error
      → HasNoSymbols class size file (Elf error)
  by_dynamic : (error : LinkError) → file_class file.header ≡ class
      → FindsFirstAt IsSymtabSection (section_list file) None → IsObjectError class size file error
      → HasNoSymbols class size file error

-- the symbols of a file of either class
abbrev pub AreOfEitherClass : ElfFile → AnyAddressSymbols → Type 0
AreOfEitherClass file (Narrow symbols) = AreAddressSymbols 1 16 file symbols
AreOfEitherClass file (Wide symbols) = AreAddressSymbols 2 24 file symbols

-- why a file of either class has no such symbols
pub data HasNoneOfEitherClass (file : ElfFile) (error : LinkError) : Type 0 where
  narrow : file_class file.header ≡ 1 → HasNoSymbols 1 16 file error → HasNoneOfEitherClass file error
  wide : file_class file.header ≢ 1 → HasNoSymbols 2 24 file error → HasNoneOfEitherClass file error
