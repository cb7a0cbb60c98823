-- One value with the dynamic symbols of a file: the entries of its dynamic segment, its hash table, its
-- symbols, the string table of their names, and its version tables.
use Rattle.std.specs.Prelude.{◌≡◌, ◌≢◌, ◌/◌, ℕ, true, List, Option, Some, None, Result, Ok, Err, MatchOption, MatchResult, length, ok_or, slice_get}
use Rattle.std.specs.Borrow.{Bor}
use Rattle.std.specs.Result.{result_ok}
use Rattle.elf_base.specs.FileHeader.{file_class, file_order, header_fields, header_of, machine_number}
use Rattle.elf_base.specs.FirstError.{and_then}
use Rattle.elf_base.specs.Table.{records, table_bytes, table_data, table_items, table_order}
use Rattle.elf_base.specs.Text.{bytes_up_to_zero_of}
use Rattle.elf_base.specs.declared.bytes.Order.{Order}
use Rattle.elf_base.specs.declared.bytes.table.Table.{Table}
use Rattle.elf_base.specs.declared.error.ElfError.{ElfError}
use Rattle.elf_linking.specs.AnyTable.{IsLinkedTable}
use Rattle.elf_linking.specs.DynamicView.{AreSymbols, LieAsSymbols, LiesAsStrings, bytes_in_strings, counted_symbols_of, dynamic_entries_of, strings_by, text_in_strings, view_entries}
use Rattle.elf_linking.specs.Find.{DynamicSymbols}
use Rattle.elf_linking.specs.References.{IsReachedCount}
use Rattle.elf_linking.specs.VersionList.{entries_in, numbers_in}
use Rattle.elf_linking.specs.VersionTables.{VersionTables, version_tables_of}
use Rattle.elf_linking.specs.Versions.{version_list, version_tables}
use Rattle.elf_linking.specs.declared.any_table.AnyTable.{AnyTable}
use Rattle.elf_linking.specs.declared.error.LinkError.{LinkError}
use Rattle.elf_linking.specs.declared.error.LinkError.TheVariants.{Elf, SymbolIndex, UnknownClass}
use Rattle.elf_linking.specs.declared.object.DynamicObject.{DynamicObject}
use Rattle.elf_linking.specs.declared.versions.Versions.{Versions}
use Rattle.elf_linking.specs.declared.view.dynamic.DynamicView.{DynamicView}
use Rattle.elf_records.specs.declared.dynamic.Dynamic.{Dynamic}
use Rattle.xmas_elf.specs.Symbol.{SymbolFields, Symbols}
use Rattle.xmas_elf.specs.SymbolTable.{IsNoText}
use Rattle.xmas_elf.specs.Symbols.{symbols_by_bytes}
use Rattle.xmas_elf.specs.declared.ElfFile.{ElfFile}

-- the dynamic segment of an object
abbrev pub object_view : {E : Type 0} → {r : _} → DynamicObject E r → DynamicView
object_view object = object.view

-- the hash table of its symbols
abbrev pub object_table : {E : Type 0} → {r : _} → DynamicObject E r → AnyTable
object_table object = object.table

-- its symbols without their names
abbrev pub object_records : {E : Type 0} → {r : _} → DynamicObject E r → Table E r
object_records object = object.symbols

-- the string table of the names
abbrev pub object_strings : {E : Type 0} → {r : _} → DynamicObject E r → Bor (List ℕ)
object_strings object = object.strings

-- its version tables
abbrev pub object_versions : {E : Type 0} → {r : _} → DynamicObject E r → Versions
object_versions object = object.versions

-- its file
abbrev pub object_file : {E : Type 0} → {r : _} → DynamicObject E r → ElfFile
object_file object = record { input = object.input; header = object.header }

-- its symbols with the bytes of their names
abbrev pub object_symbols : {E : Type 0} → {r : _} → (E → SymbolFields) → DynamicObject E r → Symbols E
object_symbols fields object = symbols_by_bytes fields (object_strings object).now (object_records object)

-- what a search for the symbol that a reference gets reads of it
abbrev pub object_dynamic_symbols : {E : Type 0} → {r : _} → (E → SymbolFields) → DynamicObject E r → DynamicSymbols E
object_dynamic_symbols fields object = record {
  table = object.table;
  symbols = symbols_by_bytes fields object.strings.now object.symbols;
  versions = version_list object.versions;
}

-- the bytes of the symbols of a file of this class, which have this size each, or why there are none; they are as
-- many as are given, otherwise as many as the hash table counts
pub data AreOfClassFor (count : Option ℕ) (class size : ℕ) (file : ElfFile) (entries : List (Dynamic ℕ)) : Result (List ℕ) LinkError → Type 0 where
  same_class : (bytes : Result (List ℕ) LinkError) → file_class file.header ≡ class
      → MatchOption count (AreSymbols file entries size bytes) (λ many. bytes ≡ counted_symbols_of file entries many size)
      → AreOfClassFor count class size file entries bytes
  other_class : file_class file.header ≢ class → AreOfClassFor count class size file entries (Err UnknownClass)

-- the machine of the file (e_machine)
abbrev pub object_machine : {E : Type 0} → {r : _} → DynamicObject E r → ℕ
object_machine object = machine_number (header_fields object.header.pt2).machine

-- the object is that of a file of this class, with symbols of this size: each part is what the calls of the
-- dynamic segment return. The symbols are as many as are given, otherwise as many as the hash table counts
pub record IsObjectFor {E : Type 0} {r : _} (count : Option ℕ) (class size : ℕ) (file : ElfFile) (object : DynamicObject E r) : Type 0 where
  pub file_is : object_file object ≡ file
  pub entries_are : dynamic_entries_of file ≡ Ok (view_entries object.view)
  pub table_is : IsLinkedTable file (view_entries object.view) (Ok object.table)
  pub symbols_are : AreOfClassFor count class size file (view_entries object.view) (Ok (table_data object.symbols))
  pub order_is : table_order object.symbols ≡ file_order file.header
  pub symbols_lie : LieAsSymbols file (view_entries object.view) (table_bytes object.symbols)
  pub strings_are : strings_by file (view_entries object.view) ≡ Ok object.strings.now
  pub strings_lie : LiesAsStrings file (view_entries object.view) object.strings
  pub view_strings_are : object.view.strings ≡ Ok object.strings
  pub versions_are : version_tables_of file (view_entries object.view) (Ok object.strings.now)
      (length (table_items object.symbols)) ≡ Ok (version_tables object.versions)

-- the same with as many symbols as the hash table counts
abbrev pub IsObject : {E : Type 0} → {r : _} → ℕ → ℕ → ElfFile → DynamicObject E r → Type 0
IsObject class size file object = IsObjectFor None class size file object

-- the symbols in bytes, each of a size, with the bytes of their names in a string table
abbrev pub symbols_with : {E : Type 0} → ℕ → (List ℕ → E) → (E → SymbolFields) → List ℕ → List ℕ → Symbols E
symbols_with size entry fields strings bytes = record {
  items = records size entry bytes;
  fields = fields;
  text = λ e. result_ok (bytes_up_to_zero_of strings (fields e).name);
}

-- the dynamic symbols of a file of this class, with symbols of this size: by the entries of its dynamic segment its
-- hash table, its symbols with their names in its string table, and the numbers of their versions by its version tables
pub record AreDynamicSymbols {E : Type 0} (class size : ℕ) (entry : Order → List ℕ → E) (fields : E → SymbolFields) (file : ElfFile) (all : DynamicSymbols E) : Type 0 where
  pub entries : List (Dynamic ℕ)
  pub bytes : List ℕ
  pub strings : List ℕ
  pub entries_are : dynamic_entries_of file ≡ Ok entries
  pub table_is : IsLinkedTable file entries (Ok all.table)
  pub bytes_are : AreOfClassFor None class size file entries (Ok bytes)
  pub strings_are : strings_by file entries ≡ Ok strings
  pub symbols_are : all.symbols ≡ symbols_with size (entry (file_order file.header)) fields strings bytes
  pub tables : VersionTables
  pub tables_are : version_tables_of file entries (Ok strings) (length all.symbols.items) ≡ Ok tables
  pub numbers_are : all.versions.numbers ≡ numbers_in tables

-- the same with the versions that the tables define and need
pub record AreVersionedSymbols {E : Type 0} (class size : ℕ) (entry : Order → List ℕ → E) (fields : E → SymbolFields) (file : ElfFile) (all : DynamicSymbols E) : Type 0 where
  pub symbols : AreDynamicSymbols class size entry fields file all
  pub entries_are : all.versions.entries ≡ entries_in symbols.tables

-- why there is no such object: the first error, of the entries, of the hash table, of the symbols, of the
-- string table, or of the version tables
pub data IsObjectErrorFor (count : Option ℕ) (class size : ℕ) (file : ElfFile) : LinkError → Type 0 where
  no_entries : (error : LinkError) → dynamic_entries_of file ≡ Err error → IsObjectErrorFor count class size file error
  no_table : (entries : List (Dynamic ℕ)) (error : LinkError) → dynamic_entries_of file ≡ Ok entries
      → IsLinkedTable file entries (Err error) → IsObjectErrorFor count class size file error
  no_symbols : (entries : List (Dynamic ℕ)) (table : AnyTable) (error : LinkError)
      → dynamic_entries_of file ≡ Ok entries → IsLinkedTable file entries (Ok table)
      → AreOfClassFor count class size file entries (Err error) → IsObjectErrorFor count class size file error
  no_strings : (entries : List (Dynamic ℕ)) (table : AnyTable) (symbols : List ℕ) (error : LinkError)
      → dynamic_entries_of file ≡ Ok entries → IsLinkedTable file entries (Ok table)
      → AreOfClassFor count class size file entries (Ok symbols) → strings_by file entries ≡ Err error
      → IsObjectErrorFor count class size file error
  no_versions : (entries : List (Dynamic ℕ)) (table : AnyTable) (symbols strings : List ℕ) (error : LinkError)
      → dynamic_entries_of file ≡ Ok entries → IsLinkedTable file entries (Ok table)
      → AreOfClassFor count class size file entries (Ok symbols) → strings_by file entries ≡ Ok strings
      → version_tables_of file entries (Ok strings) (length symbols / size) ≡ Err error
      → IsObjectErrorFor count class size file error

-- the same where the hash table counts the symbols
abbrev pub IsObjectError : ℕ → ℕ → ElfFile → LinkError → Type 0
IsObjectError class size file error = IsObjectErrorFor None class size file error

-- the object is that of a file with as many symbols as look-ups and relocations reach
pub record IsReachedObject {E : Type 0} {r : _} (class size : ℕ) (file : ElfFile) (object : DynamicObject E r) : Type 0 where
  pub entries : List (Dynamic ℕ)
  pub count : ℕ
  pub entries_are : dynamic_entries_of file ≡ Ok entries
  pub counted : IsReachedCount file entries (Ok count)
  pub object_is : IsObjectFor (Some count) class size file object

-- why there is no such object: the first error, of the entries, of the count, or of what is read then
pub data IsReachedError (class size : ℕ) (file : ElfFile) : LinkError → Type 0 where
  no_view : (error : LinkError) → dynamic_entries_of file ≡ Err error → IsReachedError class size file error
  no_count : (entries : List (Dynamic ℕ)) (error : LinkError) → dynamic_entries_of file ≡ Ok entries
      → IsReachedCount file entries (Err error) → IsReachedError class size file error
  no_part : (entries : List (Dynamic ℕ)) (count : ℕ) (error : LinkError) → dynamic_entries_of file ≡ Ok entries
      → IsReachedCount file entries (Ok count) → IsObjectErrorFor (Some count) class size file error
      → IsReachedError class size file error

-- a file is that in these bytes
abbrev pub IsFileOf : List ℕ → ElfFile → Type 0
IsFileOf bytes file = (file.input.now ≡ bytes) × (header_of bytes ≡ Ok file.header)

-- the object is that of the file in these bytes, which is of this class
pub record IsObjectOfBytes {E : Type 0} {r : _} (class size : ℕ) (bytes : List ℕ) (object : DynamicObject E r) : Type 0 where
  pub file : ElfFile
  pub file_is : IsFileOf bytes file
  pub object_is : IsReachedObject class size file object

-- why these bytes are no such file: an error of their header, or of what a dynamic linker reads of it
pub data IsObjectErrorOf (class size : ℕ) (bytes : List ℕ) : LinkError → Type 0 where
  no_header : (error : ElfError) → header_of bytes ≡ Err error → IsObjectErrorOf class size bytes (Elf error)
  no_object : (file : ElfFile) (error : LinkError) → IsFileOf bytes file → IsReachedError class size file error
      → IsObjectErrorOf class size bytes error

-- the name of the symbol at an index of an object, or why there is none
abbrev pub object_name : {E : Type 0} → {r : _} → (E → SymbolFields) → DynamicObject E r → ℕ → Result (List ℕ) LinkError
object_name fields object index = and_then (ok_or (slice_get (table_items object.symbols) index) SymbolIndex)
    (λ symbol. text_in_strings (Ok object.strings.now) (fields symbol).name)

-- the bytes of the name, or why there are none
abbrev pub object_name_bytes : {E : Type 0} → {r : _} → (E → SymbolFields) → DynamicObject E r → ℕ → Result (List ℕ) LinkError
object_name_bytes fields object index = and_then (ok_or (slice_get (table_items object.symbols) index) SymbolIndex)
    (λ symbol. bytes_in_strings (Ok object.strings.now) (fields symbol).name)

-- the result of a call is the name of the symbol, if it has one that is UTF-8, or an error that is `SymbolIndex` if
-- there is no symbol
abbrev pub IsNameAt : {E : Type 0} → (E → Option (List ℕ)) → Option E → Result (Bor (List ℕ)) LinkError → Type 0
IsNameAt text found answer = MatchOption found (answer ≡ Err SymbolIndex) (λ symbol.
    MatchResult answer (λ name. text symbol ≡ Some name.now) (λ error. IsNoText true (text symbol)))
