-- Whether each reference of a program and its libraries gets a symbol.
use Rattle.std.specs.Prelude.{◌≡◌, ℕ, ◌⊎◌, Bool, true, false, List, [], ◌∷◌, Option, Some, Result, Ok, Err, ⊤}
use Rattle.elf_linking.specs.Scope.{IsReferenceBound}
use Rattle.elf_linking.specs.declared.error.LinkError.{LinkError}
use Rattle.elf_linking.specs.declared.object.DynamicObject.{DynamicObject}
use Rattle.elf_linking.specs.declared.references.Reference.{Reference}
use Rattle.elf_linking.specs.declared.scope.Bound.{Bound}
use Rattle.elf_linking.specs.declared.scope.bindings.Binding.{Binding}
use Rattle.xmas_elf.specs.Symbol.{SymbolFields}

-- a result is a symbol
abbrev pub is_symbol : {E : Type 0} → Result (Option (Bound E)) LinkError → Bool
is_symbol (Ok (Some bound)) = true
is_symbol _ = false

-- the reference of an item gets a symbol
abbrev pub is_bound : {E : Type 0} → Result (Binding E) (ℕ × LinkError) → Bool
is_bound (Ok binding) = is_symbol binding.bound
is_bound (Err failed) = false

-- a reference of the object at an index gets a result that is a symbol, or that is none
abbrev pub GetsResult : {E : Type 0} → {r : _} → Bool → (E → SymbolFields) → List (DynamicObject E r) → ℕ × Result Reference LinkError → Type 0
GetsResult {E} found fields objects (from, Ok reference) =
    (answer : Result (Option (Bound E)) LinkError) × IsReferenceBound fields objects from reference answer × (is_symbol answer ≡ found)
GetsResult found fields objects (from, Err error) = found ≡ false

-- each of some references gets a symbol
abbrev pub AreBound : {E : Type 0} → {r : _} → (E → SymbolFields) → List (DynamicObject E r) → List (ℕ × Result Reference LinkError) → Type 0
AreBound fields objects [] = ⊤
AreBound fields objects (reference ∷ rest) = GetsResult true fields objects reference × AreBound fields objects rest

-- one of them gets none, or an error
abbrev pub IsOneUnbound : {E : Type 0} → {r : _} → (E → SymbolFields) → List (DynamicObject E r) → List (ℕ × Result Reference LinkError) → Type 0
IsOneUnbound fields objects [] = ⊥
IsOneUnbound fields objects (reference ∷ rest) = GetsResult false fields objects reference ⊎ IsOneUnbound fields objects rest
