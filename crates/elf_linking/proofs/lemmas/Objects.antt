-- For callers of `DynamicObject::read`: the dynamic symbols of an object are those of its file, and it has only one
-- error.
use Rattle.std.proofs.Common.{◌≡◌, ◌∙◌, ℕ, List, None, Result, Ok, Err, IfOk, MatchResult, ap, subst}
use Rattle.std.specs.Borrow.{Bor}
use Rattle.elf_base.proofs.lemmas.RecordLemmas.{length-records}
use Rattle.elf_base.specs.FileHeader.{file_class}
use Rattle.elf_base.specs.Table.{table_data, table_order}
use Rattle.elf_linking.specs.DynamicObject.{AreDynamicSymbols, AreOfClassFor, AreVersionedSymbols, IsFileOf, IsObject, IsObjectError, IsObjectErrorOf, IsObjectOfBytes, IsReachedError, IsReachedObject, no_object, object_dynamic_symbols, object_file, object_records, object_strings, object_table, object_versions, object_view, same_class, symbols_with}
use Rattle.elf_linking.specs.DynamicView.{AreSymbols, view_entries}
use Rattle.elf_linking.specs.VersionTables.{version_tables_of}
use Rattle.elf_linking.specs.Versions.{version_tables}
use Rattle.elf_linking.specs.declared.error.LinkError.{LinkError}
use Rattle.elf_linking.specs.declared.object.DynamicObject.{DynamicObject}
use Rattle.elf_records.specs.declared.dynamic.Dynamic.{Dynamic}
use Rattle.xmas_elf.specs.Symbol.{SymbolFields}
use Rattle.xmas_elf.specs.declared.ElfFile.{ElfFile}
use Rattle.elf_linking.proofs.ObjectErrors.{all_read, failed_once}

pub symbols_of_object : {E : Type 0} {r : _} (object : DynamicObject E r) (class : ℕ) (fields : E → SymbolFields) (file : ElfFile) → IsObject class r.SIZE file object → AreDynamicSymbols class r.SIZE r.value fields file (object_dynamic_symbols fields object)
symbols_of_object {E} {r} object class fields file is = record {
  entries = view_entries (object_view object);
  bytes = table_data (object_records object);
  strings = (object_strings object).now;
  entries_are = is.entries_are;
  table_is = is.table_is;
  bytes_are = is.symbols_are;
  strings_are = is.strings_are;
  symbols_are = ap (λ order. symbols_with r.SIZE (r.value order) fields (object_strings object).now (table_data (object_records object))) is.order_is;
  tables = version_tables (object_versions object);
  tables_are = is.versions_are;
  numbers_are = ap (λ list. list.numbers) (object_versions object).list.1;
}

-- and so are the versions
pub versions_of_object : {E : Type 0} {r : _} (object : DynamicObject E r) (class : ℕ) (fields : E → SymbolFields) (file : ElfFile) → IsObject class r.SIZE file object → AreVersionedSymbols class r.SIZE r.value fields file (object_dynamic_symbols fields object)
unfolding symbols_of_object
versions_of_object object class fields file is = record {
  symbols = symbols_of_object object class fields file is;
  entries_are = ap (λ list. list.entries) (object_versions object).list.1;
}

-- the bytes of symbols of a class are those of the dynamic segment
pub class_symbols : (class size : ℕ) (file : ElfFile) (entries : List (Dynamic ℕ)) (bytes : List ℕ) → AreOfClassFor None class size file entries (Ok bytes) → AreSymbols file entries size (Ok bytes)
class_symbols class size file entries bytes (same_class _ same are) = are

-- a file with such symbols is of the class
pub class_same : (class size : ℕ) (file : ElfFile) (entries : List (Dynamic ℕ)) (bytes : List ℕ) → AreOfClassFor None class size file entries (Ok bytes) → file_class file.header ≡ class
class_same class size file entries bytes (same_class _ same are) = same

-- reading a file as an object has only one error
pub object_once : {E : Type 0} {r : _} (class : ℕ) (file : ElfFile) (answer : Result (DynamicObject E r) LinkError) (error : LinkError) → MatchResult answer (IsObject class r.SIZE file) (IsObjectError class r.SIZE file) → IsObjectError class r.SIZE file error → answer ≡ Err error
object_once {E} {r} class file (Ok object) error is failed =
    let entries = view_entries (object_view object) in
    let bytes = table_data (object_records object) in
    let strings = (object_strings object).now in
    absurd (all_read class r.SIZE file entries (object_table object) bytes strings (version_tables (object_versions object)) error is.entries_are is.table_is is.symbols_are
    is.strings_are
    (subst (λ n. version_tables_of file entries (Ok strings) n ≡ Ok (version_tables (object_versions object))) (length-records r.SIZE (r.value (table_order (object_records object))) bytes) is.versions_are)
    failed)
object_once {E} {r} class file (Err other) error is failed = ap (λ e. Err e) (failed_once class r.SIZE file other error is failed)

-- what is read of a file is read of its bytes
pub object_of_bytes : {E : Type 0} {r : _} (class size : ℕ) (bytes : List ℕ) (file : ElfFile) (answer : Result (DynamicObject E r) LinkError) → IsFileOf bytes file → MatchResult answer (IsReachedObject class size file) (IsReachedError class size file) → MatchResult answer (IsObjectOfBytes class size bytes) (IsObjectErrorOf class size bytes)
object_of_bytes class size bytes file (Ok object) same is = record { file = file; file_is = same; object_is = is }
object_of_bytes class size bytes file (Err error) same is = no_object file error same is

-- the object of a file has its input
pub input_of_object : {E : Type 0} {r : _} (class size : ℕ) (input : Bor (List ℕ)) (file : ElfFile) (answer : Result (DynamicObject E r) LinkError) → file.input ≡ input → MatchResult answer (IsReachedObject class size file) (IsReachedError class size file) → IfOk answer (λ object. (object_file object).input ≡ input)
input_of_object class size input file (Ok object) same is = ap (λ (f : ElfFile). f.input) is.object_is.file_is ∙ same
input_of_object class size input file (Err error) same is = tt
