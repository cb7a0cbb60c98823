-- The value of a name in a file, found like `dlsym` finds it: by the dynamic segment, without section headers, and
-- without a version (the rules of glibc's linker).
use Rattle.std.specs.Prelude.{◌≡◌, ◌≢◌, ℕ, true, false, List, Option, None, Some, Result, Ok, Err, MatchResult, option_map}
use Rattle.elf_base.specs.FileHeader.{file_class}
use Rattle.elf_base.specs.declared.bytes.Order.{Order}
use Rattle.elf_linking.specs.AnyTable.{IsCheckBy}
use Rattle.elf_linking.specs.DynamicObject.{AreDynamicSymbols, IsObjectErrorFor}
use Rattle.elf_linking.specs.Find.{DynamicSymbols, Seeks, has_linked_type, has_place, is_below, is_default}
use Rattle.elf_linking.specs.Serves.{if_serving}
use Rattle.elf_linking.specs.VersionTables.{result_map}
use Rattle.elf_linking.specs.Versions.{number_of}
use Rattle.elf_linking.specs.declared.error.LinkError.{LinkError}
use Rattle.xmas_elf.specs.Symbol.{SymbolFields, dyn_entry_32, dyn_entry_32_fields, dyn_entry_64, dyn_entry_64_fields}
use Rattle.xmas_elf.specs.declared.ElfFile.{ElfFile}

-- a symbol with the name, of a type that look-ups return, with a value or a type or section that needs none
abbrev pub IsNamed : {E : Type 0} → DynamicSymbols E → List ℕ → E → Type 0
IsNamed file name e = (file.symbols.text e ≡ Some name)
    × ((has_linked_type (file.symbols.fields e) ≡ true) × (has_place (file.symbols.fields e) ≡ true))

-- such a symbol whose version has a number below 2, which needs no name, or a number that can't be read
abbrev pub IsUnversioned : {E : Type 0} → DynamicSymbols E → List ℕ → ℕ × E → Type 0
IsUnversioned file name at = IsNamed file name at.1 × (result_map (is_below 2) (number_of file.versions.numbers at.0) ≢ Ok false)

-- such a symbol whose version isn't hidden, at another index than one, if there is one
abbrev pub IsVisible : {E : Type 0} → DynamicSymbols E → List ℕ → Option ℕ → ℕ × E → Type 0
IsVisible file name but at = IsNamed file name at.1 × ((is_default (number_of file.versions.numbers at.0) ≡ true) × (but ≢ Some at.0))

-- the symbol that a reference without a version gets: the first without a version, or why its number can't be read;
-- the fault that a look-up for it comes to; otherwise the one whose version isn't hidden, if there is exactly one
pub data IsNewest {E : Type 0} (file : DynamicSymbols E) (name : List ℕ) : Result (Option (ℕ × E)) LinkError → Type 0 where
  unversioned : (at : ℕ × E) (answer : Result (Option (ℕ × E)) LinkError) → Seeks (IsUnversioned file name) file name (Ok (Some at))
      → answer ≡ result_map (λ _. Some at) (number_of file.versions.numbers at.0) → IsNewest file name answer
  faulty : (error : LinkError) → Seeks (IsUnversioned file name) file name (Err error) → IsNewest file name (Err error)
  none_visible : Seeks (IsUnversioned file name) file name (Ok None)
      → Seeks (IsVisible file name None) file name (Ok None) → IsNewest file name (Ok None)
  one_visible : (at : ℕ × E) → Seeks (IsUnversioned file name) file name (Ok None)
      → Seeks (IsVisible file name None) file name (Ok (Some at))
      → Seeks (IsVisible file name (Some at.0)) file name (Ok None) → IsNewest file name (Ok (Some at))
  two_visible : (at other : ℕ × E) → Seeks (IsUnversioned file name) file name (Ok None)
      → Seeks (IsVisible file name None) file name (Ok (Some at))
      → Seeks (IsVisible file name (Some at.0)) file name (Ok (Some other)) → IsNewest file name (Ok None)

-- the value of the name in what was read of a file: why it was not read, or why the check of its hash table fails;
-- otherwise the value of the symbol that is found, if it serves other files
pub data IsChecked {E : Type 0} (name : List ℕ) : Result (DynamicSymbols E) LinkError → Result (Option ℕ) LinkError → Type 0 where
  unread : (error : LinkError) → IsChecked name (Err error) (Err error)
  unchecked : (file : DynamicSymbols E) (error : LinkError) → IsCheckBy file.table file.symbols (Err error)
      → IsChecked name (Ok file) (Err error)
  passed : (file : DynamicSymbols E) (found : Result (Option (ℕ × E)) LinkError) (answer : Result (Option ℕ) LinkError)
      → IsCheckBy file.table file.symbols (Ok tt) → IsNewest file name found
      → answer ≡ result_map (λ at. option_map (λ p. (file.symbols.fields p.1).value) (if_serving file.symbols.fields at)) found
      → IsChecked name (Ok file) answer

-- the result for a file of a class, whose symbols have this size: that of what is read of it
abbrev pub IsValueOf : {E : Type 0} → ℕ → ℕ → (Order → List ℕ → E) → (E → SymbolFields) → ElfFile → List ℕ → Result (Option ℕ) LinkError → Type 0
IsValueOf {E} class size entry fields file name answer = (read : Result (DynamicSymbols E) LinkError)
    × MatchResult read (AreDynamicSymbols class size entry fields file) (IsObjectErrorFor None class size file) × IsChecked name read answer

-- the result for a file, by its class; a file that is of no known class has no dynamic entries
pub data IsValueIn (file : ElfFile) (name : List ℕ) (answer : Result (Option ℕ) LinkError) : Type 0 where
  narrow : file_class file.header ≡ 1 → IsValueOf 1 16 dyn_entry_32 dyn_entry_32_fields file name answer
      → IsValueIn file name answer
  wide : file_class file.header ≢ 1 → IsValueOf 2 24 dyn_entry_64 dyn_entry_64_fields file name answer
      → IsValueIn file name answer
