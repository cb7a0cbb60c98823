-- A file is read as one value with its dynamic symbols, or has an error, in one way only.
use Rattle.std.proofs.Common.{◌≡◌, ◌/◌, ℕ, List, length, None, Result, Ok, Err, refl, sym, ap, ◌∙◌, subst}
use Rattle.elf_base.specs.FirstError.{and_then}
use Rattle.elf_linking.proofs.SymbolCounts.{symbols_once}
use Rattle.elf_linking.specs.AnyTable.{IsLinkedTable, by_gnu, by_hash, no_gnu, no_hash}
use Rattle.elf_linking.specs.DynamicObject.{AreOfClassFor, IsObjectError, no_entries, no_strings, no_symbols, no_table, no_versions, other_class, same_class}
use Rattle.elf_linking.specs.DynamicView.{dynamic_entries_of, strings_by}
use Rattle.elf_linking.specs.VersionTables.{VersionTables, version_tables_of}
use Rattle.elf_linking.specs.declared.any_table.AnyTable.{AnyTable}
use Rattle.elf_linking.specs.declared.error.LinkError.{LinkError}
use Rattle.elf_records.specs.declared.dynamic.Dynamic.{Dynamic}
use Rattle.xmas_elf.specs.declared.ElfFile.{ElfFile}

-- a hash table has at most one error
table_once : (file : ElfFile) (entries : List (Dynamic ℕ)) (error : LinkError) (other : Result AnyTable LinkError) → IsLinkedTable file entries (Err error) → IsLinkedTable file entries other → other ≡ Err error
table_once file entries error _ (no_gnu a _ some failed) (by_gnu b gnu same is) = let read = is.bytes_are in absurd (cc)
table_once file entries error _ (no_gnu a _ some failed) (by_hash sysv none read order) = absurd (cc)
table_once file entries error _ (no_gnu a _ some failed) (no_gnu b other same again) = cc
table_once file entries error _ (no_gnu a _ some failed) (no_hash other none again) = absurd (cc)
table_once file entries error _ (no_hash _ none failed) (by_gnu b gnu some is) = absurd (cc)
table_once file entries error _ (no_hash _ none failed) (by_hash sysv same read order) = absurd (cc)
table_once file entries error _ (no_hash _ none failed) (no_gnu b other some again) = absurd (cc)
table_once file entries error _ (no_hash _ none failed) (no_hash other same again) = cc

-- there is only one result for the symbols
class_once : (class size : ℕ) (file : ElfFile) (entries : List (Dynamic ℕ)) (one other : Result (List ℕ) LinkError) → AreOfClassFor None class size file entries one → AreOfClassFor None class size file entries other → one ≡ other
class_once class size file entries one other (same_class _ same are) (same_class _ again too) = symbols_once file entries size one other are too
class_once class size file entries _ _ (same_class _ same are) (other_class different) = absurd (different same)
class_once class size file entries _ _ (other_class different) (same_class _ same are) = absurd (different same)
class_once class size file entries _ _ (other_class different) (other_class again) = refl

-- what the string table and the version tables come to
abbrev with_tables : Result VersionTables LinkError → Result (Unit {0}) LinkError
with_tables tables = and_then tables (λ _. Ok tt)

abbrev with_strings : ℕ → ElfFile → List (Dynamic ℕ) → List ℕ → Result (List ℕ) LinkError → Result (Unit {0}) LinkError
with_strings size file entries bytes strings =
    and_then strings (λ text. with_tables (version_tables_of file entries (Ok text) (length bytes / size)))

-- how the reading of a file with these entries ends
data Ends (class size : ℕ) (file : ElfFile) (entries : List (Dynamic ℕ)) : Result (Unit {0}) LinkError → Type 0 where
  at_table : (error : LinkError) → IsLinkedTable file entries (Err error) → Ends class size file entries (Err error)
  at_symbols : (table : AnyTable) (bytes : Result (List ℕ) LinkError) (answer : Result (Unit {0}) LinkError) → IsLinkedTable file entries (Ok table) → AreOfClassFor None class size file entries bytes
      → and_then bytes (λ b. with_strings size file entries b (strings_by file entries)) ≡ answer → Ends class size file entries answer

ends_once : (class size : ℕ) (file : ElfFile) (entries : List (Dynamic ℕ)) (one other : Result (Unit {0}) LinkError) → Ends class size file entries one → Ends class size file entries other → one ≡ other
ends_once class size file entries _ _ (at_table a failed) (at_table b again) = let same = table_once file entries a (Err b) failed again in cc
ends_once class size file entries _ _ (at_table a failed) (at_symbols table bytes other linked are is) = absurd (let same = table_once file entries a (Ok table) failed linked in cc)
ends_once class size file entries _ _ (at_symbols table bytes one linked are is) (at_table b failed) = absurd (let same = table_once file entries b (Ok table) failed linked in cc)
ends_once class size file entries _ _ (at_symbols table bytes one linked are is) (at_symbols table' bytes' other linked' are' is') =
    sym is ∙ ap (λ all. and_then all (λ b. with_strings size file entries b (strings_by file entries))) (class_once class size file entries bytes bytes' are are') ∙ is'

entries_same : (file : ElfFile) (one other : List (Dynamic ℕ)) → dynamic_entries_of file ≡ Ok one → dynamic_entries_of file ≡ Ok other → one ≡ other
entries_same file one other is same = cc

-- an error is the end
failed_ends : (class size : ℕ) (file : ElfFile) (entries : List (Dynamic ℕ)) (error : LinkError) → dynamic_entries_of file ≡ Ok entries → IsObjectError class size file error → Ends class size file entries (Err error)
failed_ends class size file entries error read (no_entries _ none) = absurd (cc)
failed_ends class size file entries error read (no_table others _ same failed) =
    subst (λ e. Ends class size file e (Err error)) (entries_same file others entries same read) (at_table error failed)
failed_ends class size file entries error read (no_symbols others table _ same linked is) =
    subst (λ e. Ends class size file e (Err error)) (entries_same file others entries same read) (at_symbols table (Err error) (Err error) linked is refl)
failed_ends class size file entries error read (no_strings others table bytes _ same linked are none) =
    subst (λ e. Ends class size file e (Err error)) (entries_same file others entries same read)
    (at_symbols table (Ok bytes) (Err error) linked are (ap (with_strings size file others bytes) none))
failed_ends class size file entries error read (no_versions others table bytes text _ same linked are found none) =
    subst (λ e. Ends class size file e (Err error)) (entries_same file others entries same read)
    (at_symbols table (Ok bytes) (Err error) linked are (ap (with_strings size file others bytes) found ∙ ap with_tables none))

-- a file whose entries have an error has that error alone
entries_failed : (class size : ℕ) (file : ElfFile) (one other : LinkError) → dynamic_entries_of file ≡ Err one → IsObjectError class size file other → one ≡ other
entries_failed class size file one other none (no_entries _ again) = cc
entries_failed class size file one other none (no_table _ _ read failed) = absurd (cc)
entries_failed class size file one other none (no_symbols _ table _ read linked is) = absurd (cc)
entries_failed class size file one other none (no_strings _ table bytes _ read linked are missing) = absurd (cc)
entries_failed class size file one other none (no_versions _ table bytes text _ read linked are found missing) = absurd (cc)

-- a file has at most one error
pub failed_once : (class size : ℕ) (file : ElfFile) (one other : LinkError) → IsObjectError class size file one → IsObjectError class size file other → one ≡ other
failed_once class size file one other is again = by_entries (dynamic_entries_of file) refl
  where
    by_entries : (read : Result (List (Dynamic ℕ)) LinkError) → dynamic_entries_of file ≡ read → one ≡ other
    by_entries (Err error) none = sym (entries_failed class size file error one none is) ∙ entries_failed class size file error other none again
    by_entries (Ok entries) read =
        let both : ◌≡◌ {A = Result (Unit {0}) LinkError} (Err one) (Err other) = ends_once class size file entries (Err one) (Err other) (failed_ends class size file entries one read is) (failed_ends class size file entries other read again) in cc

-- a file of which all parts were read has no error
pub all_read : (class size : ℕ) (file : ElfFile) (entries : List (Dynamic ℕ)) (table : AnyTable) (bytes text : List ℕ) (tables : VersionTables) (error : LinkError) → dynamic_entries_of file ≡ Ok entries → IsLinkedTable file entries (Ok table)
    → AreOfClassFor None class size file entries (Ok bytes) → strings_by file entries ≡ Ok text → version_tables_of file entries (Ok text) (length bytes / size) ≡ Ok tables → IsObjectError class size file error → ⊥
all_read class size file entries table bytes text tables error read linked are found versions failed =
    let whole : Ends class size file entries (Ok tt) = at_symbols table (Ok bytes) (Ok tt) linked are (ap (with_strings size file entries bytes) found ∙ ap with_tables versions) in
    let both : ◌≡◌ {A = Result (Unit {0}) LinkError} (Ok tt) (Err error) = ends_once class size file entries (Ok tt) (Err error) whole (failed_ends class size file entries error read failed) in cc
