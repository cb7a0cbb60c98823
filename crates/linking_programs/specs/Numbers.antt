-- Version numbers of symbols that are past those of all versions of their object, for which glibc 2.36 reads past the end of
-- its table of versions (LSB, "Symbol Versioning": the numbers; what is past them, this project's own).
use Rattle.std.specs.Prelude.{◌≡◌, ℕ, ◌<◌, ◌^◌, true, false, List, [], ◌∷◌, IfSome, Option, None, Some, Result, Ok, Err, if◌then◌else◌, length, max, nat_lt, slice_get}
use Rattle.elf_linking.specs.DynamicObject.{object_symbols, object_versions}
use Rattle.elf_linking.specs.VersionList.{numbers_in}
use Rattle.elf_linking.specs.VersionTables.{VersionTables, definitions_in, needs_in, version_number}
use Rattle.elf_linking.specs.Versions.{number_of, version_tables}
use Rattle.elf_linking.specs.declared.error.LinkError.{LinkError}
use Rattle.elf_linking.specs.declared.object.DynamicObject.{DynamicObject}
use Rattle.linking_programs.specs.Files.{AreObjectsOf, is_first_narrow}
use Rattle.linking_programs.specs.declared.Input.{Input}
use Rattle.xmas_elf.specs.Symbol.{SymbolFields, dyn_entry_32_fields, dyn_entry_64_fields}
use Rattle.xmas_elf.specs.Types.{DynEntry32, DynEntry64}

-- the greatest of a number and those of the items that can be read
abbrev pub greatest_of : {A : Type 0} → (A → ℕ) → ℕ → List (Result A LinkError) → ℕ
greatest_of number most [] = most
greatest_of number most (Ok item ∷ items) = greatest_of number (max most (number item)) items
greatest_of number most (Err error ∷ items) = greatest_of number most items

-- the greatest number of a version: that of a version that the object defines, the base included, or needs, or 1, that of
-- global symbols
abbrev pub greatest_number : VersionTables → ℕ
greatest_number tables = greatest_of (λ need. need.number)
    (greatest_of (λ definition. version_number definition.number) 1 (definitions_in tables.definitions)) (needs_in tables.needs)

-- the number that a symbol has, if it is greater than another
abbrev pub past_of : ℕ → Result (Option ℕ) LinkError → Option ℕ
past_of greatest (Ok (Some raw)) = if nat_lt greatest (version_number raw) then Some (version_number raw) else None
past_of greatest (Ok None) = None
past_of greatest (Err error) = None

-- the version number of the symbol at an index, if it has one that is past those of all versions
abbrev pub past_number : VersionTables → ℕ → Option ℕ
past_number tables index = past_of (greatest_number tables) (number_of (numbers_in tables) index)

-- none of the first symbols has such a number; relocations and tables name no symbol from 2 to the 32 on
abbrev pub AreKnown : VersionTables → ℕ → Type 0
AreKnown tables count = (i : ℕ) → i < count → i < 2 ^ 32 → past_number tables i ≡ None

-- no symbol of an object has one
abbrev pub IsKnown : {E : Type 0} → {r : _} → (E → SymbolFields) → DynamicObject E r → Type 0
IsKnown fields object = AreKnown (version_tables (object_versions object)) (length (object_symbols fields object).items)

-- they are files of this class, whose symbols have this size, and no symbol of any of them has one
pub record AreInputsKnown {E : Type 0} (r : _) (fields : E → SymbolFields) (class size : ℕ) (inputs : List Input) : Type 0 where
  pub objects : List (DynamicObject E r)
  pub objects_are : AreObjectsOf class size inputs objects
  pub known : (i : ℕ) → IfSome (slice_get objects i) (IsKnown fields)

-- the same by the class of the first. The first two arguments say how the record of a symbol of each class is read.
pub data AreNumbersKnown (narrow_record wide_record : _) (inputs : List Input) : Type 0 where
  narrow : is_first_narrow inputs ≡ true → AreInputsKnown {E = DynEntry32} narrow_record dyn_entry_32_fields 1 16 inputs
      → AreNumbersKnown narrow_record wide_record inputs
  wide : is_first_narrow inputs ≡ false → AreInputsKnown {E = DynEntry64} wide_record dyn_entry_64_fields 2 24 inputs
      → AreNumbersKnown narrow_record wide_record inputs
