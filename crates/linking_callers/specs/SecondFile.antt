-- Whether a name of a program is bound to a symbol of its second file, by the bytes of the files (this project's
-- own).
use Rattle.std.specs.Prelude.{◌≡◌, ℕ, ◌==◌, Bool, false, List, [], ◌∷◌, Option, Some, None, Result, Ok, Err, IsOkAnd, MatchResult, length}
use Rattle.elf_linking.specs.AnyTable.{IsCheckBy, IsGoodBy}
use Rattle.elf_linking.specs.DynamicObject.{IsObjectErrorOf, IsObjectOfBytes, object_dynamic_symbols, object_file, object_name_bytes, object_symbols, object_table, object_versions, object_view}
use Rattle.elf_linking.specs.DynamicView.{view_entries}
use Rattle.elf_linking.specs.Find.{AreReadable}
use Rattle.elf_linking.specs.References.{references_of}
use Rattle.elf_linking.specs.Scope.{BindsReference}
use Rattle.elf_linking.specs.Versions.{version_list, versions_error}
use Rattle.elf_linking.specs.declared.error.LinkError.{LinkError}
use Rattle.elf_linking.specs.declared.object.DynamicObject.{DynamicObject}
use Rattle.elf_linking.specs.declared.references.Reference.{Reference}
use Rattle.elf_linking.specs.declared.scope.Bound.{Bound}
use Rattle.xmas_elf.specs.First.{FindsFirst}
use Rattle.xmas_elf.specs.Symbol.{SymbolFields}

-- the object that was read, if look-ups in it find what they must and its versions can be read; or the first error
pub data IsChecked {E : Type 0} {r : _} (fields : E → SymbolFields) : Result (DynamicObject E r) LinkError → Result (DynamicObject E r) LinkError → Type 0 where
  unread : (error : LinkError) → IsChecked fields (Err error) (Err error)
  faulty : (object : DynamicObject E r) (error : LinkError)
      → IsCheckBy (object_table object) (object_symbols fields object) (Err error)
      → IsChecked fields (Ok object) (Err error)
  unversioned : (object : DynamicObject E r) (error : LinkError)
      → IsGoodBy (object_table object) (object_symbols fields object)
      → versions_error (version_list (object_versions object)) (length (object_symbols fields object).items) ≡ Err error
      → IsChecked fields (Ok object) (Err error)
  passed : (object : DynamicObject E r) → IsGoodBy (object_table object) (object_symbols fields object)
      → AreReadable (object_dynamic_symbols fields object) → IsChecked fields (Ok object) (Ok object)

-- the checked object of the file in these bytes, of a class whose symbols have this size; or the first error
abbrev pub IsLoaded : {E : Type 0} → {r : _} → (E → SymbolFields) → ℕ → ℕ → List ℕ → Result (DynamicObject E r) LinkError → Type 0
IsLoaded {E} {r} fields class size bytes answer = (read : Result (DynamicObject E r) LinkError)
    × MatchResult read (IsObjectOfBytes class size bytes) (IsObjectErrorOf class size bytes) × IsChecked fields read answer

-- a reference is to a symbol with this name
abbrev pub IsTo : {E : Type 0} → {r : _} → (E → SymbolFields) → DynamicObject E r → List ℕ → Reference → Type 0
IsTo fields object name reference = object_name_bytes fields object reference.symbol ≡ Ok name

-- the first reference of an object that is to a symbol with this name, or why its references can't be read
abbrev pub FindsReference : {E : Type 0} → {r : _} → (E → SymbolFields) → DynamicObject E r → List ℕ → Result (Option Reference) LinkError → Type 0
FindsReference fields object name answer =
    MatchResult (references_of (object_file object) (view_entries (object_view object)))
    (λ references. IsOkAnd answer (FindsFirst (IsTo fields object name) references)) (λ error. answer ≡ Err error)

-- a symbol of the second object, at index 1
abbrev pub is_of_second : {E : Type 0} → Option (Bound E) → Bool
is_of_second None = false
is_of_second (Some bound) = bound.object == 1

-- the result for the reference that was found in the program: whether the symbol that it gets, by the lists of
-- symbols of all objects, is one of the second
abbrev pub IsAnswerTo : {E : Type 0} → {r : _} → (E → SymbolFields) → List (DynamicObject E r) → Result (Option Reference) LinkError → Result Bool LinkError → Type 0
IsAnswerTo fields objects (Err error) answer = answer ≡ Err error
IsAnswerTo fields objects (Ok None) answer = answer ≡ Ok false
IsAnswerTo {E} fields objects (Ok (Some reference)) answer = (bound : Option (Bound E))
    × BindsReference fields objects 0 reference (Ok bound) × (answer ≡ Ok (is_of_second bound))

-- the result for the program among its objects, and a name
abbrev pub IsSecond : {E : Type 0} → {r : _} → (E → SymbolFields) → List (DynamicObject E r) → DynamicObject E r → List ℕ → Result Bool LinkError → Type 0
IsSecond fields objects program name answer = (found : Result (Option Reference) LinkError)
    × FindsReference fields program name found × IsAnswerTo fields objects found answer

-- the result for three files, or the first error
abbrev pub IsSecondOf : {E : Type 0} → {r : _} → (E → SymbolFields) → Result (DynamicObject E r) LinkError → Result (DynamicObject E r) LinkError → Result (DynamicObject E r) LinkError → List ℕ → Result Bool LinkError → Type 0
IsSecondOf fields (Err error) second third name answer = answer ≡ Err error
IsSecondOf fields (Ok program) (Err error) third name answer = answer ≡ Err error
IsSecondOf fields (Ok program) (Ok second) (Err error) name answer = answer ≡ Err error
IsSecondOf fields (Ok program) (Ok second) (Ok third) name answer =
    IsSecond fields (program ∷ second ∷ third ∷ []) program name answer
