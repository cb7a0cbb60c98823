-- Whether each reference gets a symbol, reference by reference.
use Rattle.std.proofs.Common.{◌≡◌, ℕ, inr, Bool, true, List, ◌∷◌, Result, Ok, Err, sym, subst}
use Rattle.elf_linking.specs.Bindings.{IsItemOf, reference_of_item}
use Rattle.elf_linking.specs.declared.error.LinkError.{LinkError}
use Rattle.elf_linking.specs.declared.object.DynamicObject.{DynamicObject}
use Rattle.elf_linking.specs.declared.references.Reference.{Reference}
use Rattle.elf_linking.specs.declared.scope.bindings.Binding.{Binding}
use Rattle.linking_callers.specs.AllBound.{AreBound, GetsResult, IsOneUnbound, is_bound}
use Rattle.xmas_elf.specs.Symbol.{SymbolFields}

module _ {E : Type 0} {r : _} (fields : E → SymbolFields) (objects : List (DynamicObject E r)) where
  -- what is said of an item is said of its reference
  gets : (found : Bool) (item : Result (Binding E) (ℕ × LinkError)) → IsItemOf fields objects item → is_bound item ≡ found → GetsResult found fields objects (reference_of_item item)
  gets found (Ok binding) is same = (binding.bound, is.1, same)
  gets found (Err failed) is same = sym same

  module _ (others : List (DynamicObject E r)) (same : others ≡ objects) (item : Result (Binding E) (ℕ × LinkError)) (left later all : List (ℕ × Result Reference LinkError)) (first : left ≡ reference_of_item item ∷ later) (is : IsItemOf fields others item) where
    pub bound_on : is_bound item ≡ true → (AreBound fields objects left → AreBound fields objects all) → AreBound fields objects later → AreBound fields objects all
    bound_on found given rest = given (subst (AreBound fields objects) (sym first) (gets true item (subst (λ o. IsItemOf fields o item) same is) found, rest))

    pub unbound_on : (IsOneUnbound fields objects left → IsOneUnbound fields objects all) → IsOneUnbound fields objects later → IsOneUnbound fields objects all
    unbound_on given one = given (subst (IsOneUnbound fields objects) (sym first) (inr one))
