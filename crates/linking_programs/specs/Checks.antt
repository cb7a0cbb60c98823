-- The checks of objects (this project's own).
use Rattle.std.specs.Prelude.{◌≡◌, ◌<◌, ℕ, List, Some, Ok, Err, slice_get}
use Rattle.elf_linking.specs.AnyTable.{IsGoodBy}
use Rattle.elf_linking.specs.Checked.{AreChecked}
use Rattle.elf_linking.specs.DynamicObject.{object_dynamic_symbols}
use Rattle.elf_linking.specs.Find.{AreReadable, DynamicSymbols}
use Rattle.elf_linking.specs.Scope.{symbols_at}
use Rattle.elf_linking.specs.declared.error.LinkError.{LinkError}
use Rattle.elf_linking.specs.declared.object.DynamicObject.{DynamicObject}
use Rattle.linking_programs.specs.Files.{IsOfInput}
use Rattle.linking_programs.specs.declared.Input.{Input}
use Rattle.linking_programs.specs.declared.Failed.{Failed}
use Rattle.xmas_elf.specs.Symbol.{SymbolFields}

-- look-ups in a file find what they must, and its versions can be read
abbrev pub IsGood : {E : Type 0} → DynamicSymbols E → Type 0
IsGood file = IsGoodBy file.table file.symbols × AreReadable file

-- the checks of the object at an index pass
abbrev pub IsPassedAt : {E : Type 0} → {r : _} → (E → SymbolFields) → List (DynamicObject E r) → ℕ → Type 0
IsPassedAt {E} fields objects index = (file : DynamicSymbols E) → symbols_at fields objects index ≡ Some file
    → AreChecked file (Ok tt)

-- the checks of all objects pass
abbrev pub ArePassed : {E : Type 0} → {r : _} → (E → SymbolFields) → List (DynamicObject E r) → Type 0
ArePassed fields objects = (i : ℕ) → IsPassedAt fields objects i

-- the first object whose checks fail, and why; those of the objects before it pass
pub record IsCheckFailed {E : Type 0} {r : _} (fields : E → SymbolFields) (inputs : List Input) (objects : List (DynamicObject E r)) (failed : Failed LinkError) : Type 0 where
  pub index : ℕ
  pub object : DynamicObject E r
  pub object_is : slice_get objects index ≡ Some object
  pub passed : (i : ℕ) → i < index → IsPassedAt fields objects i
  pub path_is : IsOfInput inputs index failed
  pub error_is : AreChecked (object_dynamic_symbols fields object) (Err failed.error)
