-- What is read of a file for one value with its dynamic symbols.
use Rattle.std.proofs.Common.{◌≡◌, ◌<◌, Bool, true, false, not, [], ◌∷◌, refl, ◌+◌, ◌*◌, ◌/◌, ℕ, Bor, List, length, Option, Some, Result, Ok, Err, MatchOption, MatchResult, arith, ap, subst, sym, ◌∙◌}
use Rattle.std.proofs.lemmas.Nat.{div-mul-add}
use Rattle.std.specs.Result.{result_ok}
use Rattle.std.specs.Str.{is_utf8}
use Rattle.std.proofs.lemmas.Str.{is_utf8-from_IsUtf8}
use Rattle.elf_base.proofs.Texts.{text_of-bytes, text_of-error}
use Rattle.elf_base.specs.FirstError.{unless}
use Rattle.elf_base.specs.declared.error.ElfError.TheVariants.{TextUtf8}
use Rattle.elf_base.specs.Text.{bytes_up_to_zero_of, text_of}
use Rattle.elf_base.specs.declared.error.ElfError.{ElfError}
use Rattle.elf_base.specs.FileHeader.{file_class, file_order}
use Rattle.elf_base.specs.Table.{table_data, table_order}
use Rattle.elf_base.specs.declared.bytes.table.Table.{Table}
use Rattle.elf_linking.specs.DynamicObject.{AreOfClassFor, IsNameAt, IsObjectFor, IsObjectErrorFor, IsReachedObject, IsReachedError, no_part, same_class}
use Rattle.elf_linking.specs.DynamicView.{AreSymbols, as_link_error, counted_symbols_of, dynamic_entries_of, text_in_strings}
use Rattle.elf_linking.specs.References.{IsReachedCount}
use Rattle.elf_linking.specs.declared.object.DynamicObject.{DynamicObject}
use Rattle.elf_linking.specs.Loaded.{lent}
use Rattle.elf_linking.specs.VersionTables.{VersionTables, version_tables_of}
use Rattle.elf_linking.specs.declared.error.LinkError.{LinkError}
use Rattle.elf_records.specs.declared.dynamic.Dynamic.{Dynamic}
use Rattle.xmas_elf.specs.declared.ElfFile.{ElfFile}

-- the bytes of the symbols: as many as are given, otherwise as many as the hash table counts
abbrev pub AreSymbolsFor : Option ℕ → ElfFile → List (Dynamic ℕ) → ℕ → Result (List ℕ) LinkError → Type 0
AreSymbolsFor count file entries size bytes = MatchOption count (AreSymbols file entries size bytes) (λ many. bytes ≡ counted_symbols_of file entries many size)

-- the symbols that were read are those of the class of the file
pub of_class : {E : Type 0} → {r : _} → (count : Option ℕ) (class size : ℕ) (file : ElfFile) (entries : List (Dynamic ℕ)) (found : Result (Table E r) LinkError) → file_class file.header ≡ class
    → MatchResult found (λ symbols. AreSymbolsFor count file entries size (Ok (table_data symbols)) × (table_order symbols ≡ file_order file.header)) (λ error. AreSymbolsFor count file entries size (Err error))
    → MatchResult found (λ symbols. AreOfClassFor count class size file entries (Ok (table_data symbols)) × (table_order symbols ≡ file_order file.header)) (λ error. AreOfClassFor count class size file entries (Err error))
of_class count class size file entries (Ok symbols) same (are, order) = (same_class (Ok (table_data symbols)) same are, order)
of_class count class size file entries (Err error) same are = same_class (Err error) same are

-- the same of as many symbols as are given
pub counted : {E : Type 0} → {r : _} → (count size : ℕ) (file : ElfFile) (entries : List (Dynamic ℕ)) (found : Result (Table E r) LinkError)
    → MatchResult found (λ symbols. (counted_symbols_of file entries count size ≡ Ok (table_data symbols)) × (table_order symbols ≡ file_order file.header)) (λ error. counted_symbols_of file entries count size ≡ Err error)
    → MatchResult found (λ symbols. AreSymbolsFor (Some count) file entries size (Ok (table_data symbols)) × (table_order symbols ≡ file_order file.header)) (λ error. AreSymbolsFor (Some count) file entries size (Err error))
counted count size file entries (Ok symbols) (is, order) = (sym is, order)
counted count size file entries (Err error) is = sym is

-- the number of records in bytes that are a whole number of records
count_in : (count size : ℕ) (bytes : List ℕ) → 0 < size → count * size ≡ length bytes → length bytes / size ≡ count
count_in count size bytes above whole =
    let none : length bytes ≡ count * size + 0 = omega (arith, whole) in
    ap (λ n. n / size) none ∙ div-mul-add count size 0 above

-- the version tables, or why they are not read, by the bytes of the symbols
pub versions_by : (file : ElfFile) (entries : List (Dynamic ℕ)) (strings : Result (List ℕ) LinkError) (text : List ℕ) (count size : ℕ) (bytes : List ℕ) (answer : Result VersionTables LinkError) → strings ≡ Ok text → 0 < size → count * size ≡ length bytes
    → version_tables_of file entries strings count ≡ answer → version_tables_of file entries (Ok text) (length bytes / size) ≡ answer
versions_by file entries strings text count size bytes answer found above whole failed =
    subst (λ n. version_tables_of file entries (Ok text) n ≡ answer) (sym (count_in count size bytes above whole))
    (subst (λ s. version_tables_of file entries s count ≡ answer) found failed)

-- the text that was read is the name of the symbol, if its bytes are UTF-8
module _ {E : Type 0} (text : E → Option (List ℕ)) (symbol : E) where
  name_by_utf8 : (bytes : List ℕ) (utf8 : Bool) (answer : Result (Bor (List ℕ)) LinkError) → is_utf8 bytes ≡ utf8 → text symbol ≡ Some bytes → lent answer ≡ as_link_error (unless ((not utf8, TextUtf8) ∷ []) bytes) → IsNameAt text (Some symbol) answer
  name_by_utf8 bytes true (Ok part) valid same is = cc
  name_by_utf8 bytes true (Err error) valid same is = absurd (cc)
  name_by_utf8 bytes false (Ok part) valid same is = absurd (cc)
  name_by_utf8 bytes false (Err error) valid same is = λ name named utf8.
      let valid_name = is_utf8-from_IsUtf8 name utf8 in let alike : bytes ≡ name = cc in cc

  name_read : (strings : List ℕ) (place : ℕ) (found : Result (List ℕ) ElfError) (answer : Result (Bor (List ℕ)) LinkError) → bytes_up_to_zero_of strings place ≡ found → text symbol ≡ result_ok found → lent answer ≡ as_link_error (text_of strings place) → IsNameAt text (Some symbol) answer
  name_read strings place (Ok bytes) answer read same is =
      name_by_utf8 bytes (is_utf8 bytes) answer refl same (is ∙ ap as_link_error (text_of-bytes strings place bytes read))
  name_read strings place (Err error) (Ok part) read same is = let none = text_of-error strings place error read in absurd (cc)
  name_read strings place (Err error) (Err other) read same is = λ name named utf8. cc

  pub name_at : (at : Option E) (strings : List ℕ) (place : ℕ) (answer : Result (Bor (List ℕ)) LinkError) → Some symbol ≡ at → text symbol ≡ result_ok (bytes_up_to_zero_of strings place) → lent answer ≡ text_in_strings (Ok strings) place → IsNameAt text at answer
  name_at at strings place answer found same is = subst (λ symbol. IsNameAt text symbol answer) found (name_read strings place (bytes_up_to_zero_of strings place) answer refl same is)

-- bytes that were read are the same as an error of this crate
pub ok_as_link_error : (found : Result (List ℕ) ElfError) → result_ok (as_link_error found) ≡ result_ok found
ok_as_link_error (Ok bytes) = refl
ok_as_link_error (Err error) = refl

-- what is read of a file with as many symbols as are reached
pub reached : {E : Type 0} → {r : _} → (class size : ℕ) (file : ElfFile) (entries : List (Dynamic ℕ)) (count : ℕ) (found : Result (DynamicObject E r) LinkError) → dynamic_entries_of file ≡ Ok entries → IsReachedCount file entries (Ok count)
    → MatchResult found (IsObjectFor (Some count) class size file) (IsObjectErrorFor (Some count) class size file) → MatchResult found (IsReachedObject class size file) (IsReachedError class size file)
reached class size file entries count (Ok object) read counts is = record { entries = entries; count = count; entries_are = read; counted = counts; object_is = is }
reached class size file entries count (Err error) read counts is = no_part entries count error read counts is
