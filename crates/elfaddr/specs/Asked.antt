-- The symbols that are asked for (this project's own): the ranges of addresses that they claim, and their names.
use Rattle.std.specs.Prelude.{◌≡◌, ◌≢◌, ℕ, List, [], Option, None, Some, Ok, if◌then◌else◌, length, slice_get}
use Rattle.std.specs.Option.{option_and_then}
use Rattle.elf_addresses.specs.Candidates.{is_candidate}
use Rattle.elf_addresses.specs.Dladdr.{dladdr_claim, is_found, reach_of}
use Rattle.elf_addresses.specs.SymbolClaims.{symbol_claim, symbol_items}
use Rattle.elf_addresses.specs.OfFile.{HasNoSymbols}
use Rattle.elf_addresses.specs.Symtab.{IsIndexData, IsSymtabSection, parts_of}
use Rattle.elf_addresses.specs.declared.claim.Claim.{Claim}
use Rattle.elf_addresses.specs.declared.dladdr.Reach.{Reach}
use Rattle.elf_addresses.specs.declared.symbols.AddressSymbols.{AddressSymbols}
use Rattle.elf_base.specs.FileHeader.{file_class, file_order}
use Rattle.elf_base.specs.Number.{number}
use Rattle.elf_base.specs.Table.{records, table_items}
use Rattle.elf_base.specs.declared.bytes.Order.{Order}
use Rattle.elf_linking.specs.AnyTable.{IsLinkedTable}
use Rattle.elf_linking.specs.DynamicObject.{AreDynamicSymbols, AreOfClassFor, IsObjectError}
use Rattle.elf_linking.specs.DynamicView.{dynamic_entries_of, dynamic_strings_of}
use Rattle.elf_linking.specs.Find.{DynamicSymbols}
use Rattle.elf_linking.specs.References.{file_machine}
use Rattle.elf_linking.specs.declared.any_table.AnyTable.{AnyTable}
use Rattle.elf_linking.specs.declared.error.LinkError.{LinkError}
use Rattle.elfaddr.specs.Lines.{AreLines, name_in}
use Rattle.elfaddr.specs.Tables.{IsDladdrError, IsReach, IsTableCount}
use Rattle.elfaddr.specs.declared.Source.{Source}
use Rattle.elfaddr.specs.declared.Source.TheVariants.{Dladdr, Dynamic, Symtab}
use Rattle.program_ends.specs.declared.json.Form.{Form}
use Rattle.xmas_elf.specs.First.{FindsFirstAt}
use Rattle.xmas_elf.specs.SectionHeader.{section_list}
use Rattle.xmas_elf.specs.Symbol.{SymbolFields, dyn_entry_32, dyn_entry_32_fields, dyn_entry_64, dyn_entry_64_fields}
use Rattle.xmas_elf.specs.Types.{Dynamic as Entry, ElfFile}

-- how the symbols of a type are read: the size of one, the symbol that bytes are in a byte order, and its fields
pub record Kind (E : Type 0) : Type 0 where
  pub size : ℕ
  pub entry : Order → List ℕ → E
  pub fields : E → SymbolFields

-- the same by its parts
abbrev pub kind : {E : Type 0} → ℕ → (Order → List ℕ → E) → (E → SymbolFields) → Kind E
kind size entry fields = record { size = size; entry = entry; fields = fields }

-- the symbols of a table, the string table of their names, their section indices, and the machine of the file
pub record Parts (E : Type 0) : Type 0 where
  pub items : List E
  pub strings : List ℕ
  pub words : List ℕ
  pub machine : ℕ

-- the same of symbols that name addresses
abbrev pub parts_in : {E : Type 0} → {r : _} → AddressSymbols E r → Parts E
parts_in symbols = record {
  items = symbol_items symbols;
  strings = symbols.strings.now;
  words = table_items symbols.indices;
  machine = symbols.machine;
}

-- the claim of a symbol with its index, if it names addresses
abbrev pub claim_in : {E : Type 0} → (E → SymbolFields) → Parts E → ℕ → E → Option Claim
claim_in fields parts index symbol =
    if is_candidate parts.machine parts.strings parts.words None index (fields symbol)
    then Some (symbol_claim index (fields symbol)) else None

-- the claims of the symbols that name addresses
abbrev pub claims_of : {E : Type 0} → (E → SymbolFields) → Parts E → ℕ → Option Claim
claims_of fields parts index = option_and_then (claim_in fields parts index) (slice_get parts.items index)

-- the claim of a symbol with its index, if `dladdr` finds it
abbrev pub claim_reached : {E : Type 0} → (E → SymbolFields) → List ℕ → Reach → ℕ → E → Option Claim
claim_reached fields strings reach index symbol =
    if is_found strings (reach_of reach index (fields symbol)) (fields symbol)
    then Some (dladdr_claim (reach_of reach index (fields symbol)) index (fields symbol)) else None

-- the claims of the symbols that `dladdr` finds
abbrev pub claims_reached : {E : Type 0} → (E → SymbolFields) → List E → List ℕ → Reach → ℕ → Option Claim
claims_reached fields items strings reach index =
    option_and_then (claim_reached fields strings reach index) (slice_get items index)

-- the symbols of the section at an index
pub record ArePartsAt {E : Type 0} (kind : Kind E) (file : ElfFile) (index : ℕ) (parts : Parts E) : Type 0 where
  pub bytes : List ℕ
  pub bytes_are : parts_of file index ≡ Ok (bytes, parts.strings)
  pub items_are : parts.items ≡ records kind.size (kind.entry (file_order file.header)) bytes
  pub index_bytes : List ℕ
  pub index_bytes_are : IsIndexData file index index_bytes
  pub words_are : parts.words ≡ records 4 (number (file_order file.header) 4 0) index_bytes
  pub machine_is : parts.machine ≡ file_machine file

-- the symbols of the dynamic segment of a file of a class; they have no words
pub record AreDynamicParts {E : Type 0} (class : ℕ) (kind : Kind E) (file : ElfFile) (parts : Parts E) : Type 0 where
  pub all : DynamicSymbols E
  pub all_are : AreDynamicSymbols class kind.size kind.entry kind.fields file all
  pub items_are : parts.items ≡ all.symbols.items
  pub strings_are : dynamic_strings_of file ≡ Ok parts.strings
  pub words_are : parts.words ≡ []
  pub machine_is : parts.machine ≡ file_machine file

-- the symbols of the dynamic segment of a file of a class, as many as its hash table counts, and what this table reaches
pub record AreReachedParts {E : Type 0} (class : ℕ) (kind : Kind E) (file : ElfFile) (items : List E) (strings : List ℕ) (reach : Reach) : Type 0 where
  pub entries : List (Entry ℕ)
  pub table : AnyTable
  pub count : ℕ
  pub bytes : List ℕ
  pub entries_are : dynamic_entries_of file ≡ Ok entries
  pub table_is : IsLinkedTable file entries (Ok table)
  pub counted : IsTableCount file (Ok count)
  pub bytes_are : AreOfClassFor (Some count) class kind.size file entries (Ok bytes)
  pub items_are : items ≡ records kind.size (kind.entry (file_order file.header)) bytes
  pub strings_are : dynamic_strings_of file ≡ Ok strings
  pub reach_is : IsReach table (length items) reach

-- the claims and the names are those of the symbols of the section at an index
pub data FromSymtab {E : Type 0} (kind : Kind E) (file : ElfFile) (index : ℕ) : (ℕ → Option Claim) → (ℕ → List ℕ) → Type 0 where
  from_symtab : (parts : Parts E) → ArePartsAt kind file index parts
      → FromSymtab kind file index (claims_of kind.fields parts) (name_in kind.fields parts.items parts.strings)

-- they are those of the dynamic symbols of a file of a class
pub data FromDynamic {E : Type 0} (class : ℕ) (kind : Kind E) (file : ElfFile) : (ℕ → Option Claim) → (ℕ → List ℕ) → Type 0 where
  from_dynamic : (parts : Parts E) → AreDynamicParts class kind file parts
      → FromDynamic class kind file (claims_of kind.fields parts) (name_in kind.fields parts.items parts.strings)

-- they are those of the dynamic symbols that `dladdr` finds
pub data FromDladdr {E : Type 0} (class : ℕ) (kind : Kind E) (file : ElfFile) : (ℕ → Option Claim) → (ℕ → List ℕ) → Type 0 where
  from_dladdr : (items : List E) (strings : List ℕ) (reach : Reach)
      → AreReachedParts class kind file items strings reach
      → FromDladdr class kind file (claims_reached kind.fields items strings reach) (name_in kind.fields items strings)

-- they are those of the first section of type SHT_SYMTAB, or if there is none of the dynamic segment
pub data FromFile {E : Type 0} (class : ℕ) (kind : Kind E) (file : ElfFile) (claim_of : ℕ → Option Claim) (name_of : ℕ → List ℕ) : Type 0 where
  in_symtab : (index : ℕ) → FindsFirstAt IsSymtabSection (section_list file) (Some index)
      → FromSymtab kind file index claim_of name_of → FromFile class kind file claim_of name_of
  in_no_symtab : FindsFirstAt IsSymtabSection (section_list file) None → FromDynamic class kind file claim_of name_of
      → FromFile class kind file claim_of name_of

-- they are those of the symbols that are asked for, in a file of a class
abbrev pub AreAsked : {E : Type 0} → ℕ → Kind E → ElfFile → Source → (ℕ → Option Claim) → (ℕ → List ℕ) → Type 0
AreAsked class kind file Symtab claim_of name_of = FromFile class kind file claim_of name_of
AreAsked class kind file Dynamic claim_of name_of = FromDynamic class kind file claim_of name_of
AreAsked class kind file Dladdr claim_of name_of = FromDladdr class kind file claim_of name_of

-- the same of a file, of either class
pub data AreOfFile (file : ElfFile) (source : Source) (claim_of : ℕ → Option Claim) (name_of : ℕ → List ℕ) : Type 0 where
  narrow : file_class file.header ≡ 1
      → AreAsked 1 (kind 16 dyn_entry_32 dyn_entry_32_fields) file source claim_of name_of
      → AreOfFile file source claim_of name_of
  wide : file_class file.header ≢ 1
      → AreAsked 2 (kind 24 dyn_entry_64 dyn_entry_64_fields) file source claim_of name_of
      → AreOfFile file source claim_of name_of

-- there are such symbols
pub record AreThere (Asked : (ℕ → Option Claim) → (ℕ → List ℕ) → Type 0) : Type 0 where
  pub claim_of : ℕ → Option Claim
  pub name_of : ℕ → List ℕ
  pub asked : Asked claim_of name_of

-- the text is a line for each address by such symbols
pub record AreLinesBy (form : Form) (Asked : (ℕ → Option Claim) → (ℕ → List ℕ) → Type 0) (file : ElfFile) (addresses : List ℕ) (text : List ℕ) : Type 0 where
  pub claim_of : ℕ → Option Claim
  pub name_of : ℕ → List ℕ
  pub asked : Asked claim_of name_of
  pub lines : AreLines form claim_of name_of file addresses text

-- Why there are no such symbols.

-- in a file of a class, where symbols have a size: the first error of the file's symbols, of the dynamic segment, or of what
-- `dladdr` reads
abbrev pub AreFailed : ℕ → ℕ → ElfFile → Source → LinkError → Type 0
AreFailed class size file Symtab error = HasNoSymbols class size file error
AreFailed class size file Dynamic error = IsObjectError class size file error
AreFailed class size file Dladdr error = IsDladdrError class size file error

-- the same of a file, of either class
pub data AreFailedOfFile (file : ElfFile) (source : Source) (error : LinkError) : Type 0 where
  narrow_failed : file_class file.header ≡ 1 → AreFailed 1 16 file source error
      → AreFailedOfFile file source error
  wide_failed : file_class file.header ≢ 1 → AreFailed 2 24 file source error
      → AreFailedOfFile file source error
