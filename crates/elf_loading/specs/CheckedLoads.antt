-- A scope with its plans, all objects of which passed their checks.
use Rattle.std.specs.Prelude.{◌≡◌, ℕ, ◌<◌, List, Some, Result, Ok, Err}
use Rattle.elf_linking.specs.Checked.{AreChecked}
use Rattle.elf_linking.specs.Find.{DynamicSymbols}
use Rattle.elf_linking.specs.Scope.{symbols_at}
use Rattle.elf_loading.specs.Types.{DynamicObject, LinkError}
use Rattle.xmas_elf.specs.Symbol.{SymbolFields}

-- the objects before one passed their checks
abbrev pub AreCheckedBefore : {E : Type 0} → {r : _} → (E → SymbolFields) → List (DynamicObject E r) → ℕ → Type 0
AreCheckedBefore {E} fields objects count = (i : ℕ) (file : DynamicSymbols E) → i < count → symbols_at fields objects i ≡ Some file → AreChecked file (Ok tt)

-- the result of the checks of some objects: the error of the first that doesn't pass
pub data AreAllChecked {E : Type 0} {r : _} (fields : E → SymbolFields) (objects : List (DynamicObject E r)) : Result (Unit {0}) LinkError → Type 0 where
  all : ((count : ℕ) → AreCheckedBefore fields objects count) → AreAllChecked fields objects (Ok tt)
  first : (i : ℕ) (file : DynamicSymbols E) (error : LinkError) → AreCheckedBefore fields objects i
      → symbols_at fields objects i ≡ Some file → AreChecked file (Err error) → AreAllChecked fields objects (Err error)
