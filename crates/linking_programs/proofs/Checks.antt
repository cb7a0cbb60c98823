-- Objects after their checks, by their indices, and why a program stops at one.
use Rattle.std.proofs.Common.{◌≡◌, ◌<◌, ℕ, List, get_or, length, Option, Some, None, Ok, Err, option_map, refl, sym, ap, ◌∙◌, subst}
use Rattle.std.specs.Prelude.{slice_get, ⊤}
use Rattle.std.proofs.lemmas.Option.{same_Some, slice_get_read, slice_get_within}
use Rattle.elf_linking.specs.Checked.{AreChecked}
use Rattle.elf_linking.specs.DynamicObject.{object_dynamic_symbols}
use Rattle.elf_linking.specs.declared.error.LinkError.{LinkError}
use Rattle.elf_linking.specs.declared.object.DynamicObject.{DynamicObject}
use Rattle.linking_programs.specs.Checks.{IsCheckFailed, IsPassedAt}
use Rattle.linking_programs.specs.Files.{IsOfInput}
use Rattle.linking_programs.specs.declared.Input.{Input}
use Rattle.linking_programs.specs.declared.Failed as reasons
use Rattle.program_ends.proofs.Ends.{stop_so}
use Rattle.program_ends.specs.Stops.{IsStop}
use Rattle.program_ends.specs.declared.Stop.{Stop}
use Rattle.xmas_elf.specs.Symbol.{SymbolFields}

pub passed_at : {E : Type 0} {r : _} (fields : E → SymbolFields) (objects : List (DynamicObject E r)) (index : ℕ) (object : DynamicObject E r) → index < length objects → object ≡ get_or objects index object → AreChecked (object_dynamic_symbols fields object) (Ok tt) → IsPassedAt fields objects index
passed_at fields objects index object below is passed file found =
    let at = slice_get_read objects (length objects) index object refl below is in
    subst (λ one. AreChecked one (Ok tt)) (same_Some _ _ (sym (ap (option_map (object_dynamic_symbols fields)) at) ∙ found)) passed

-- what is found in a list through a function lies in the list
pub map_within : {A B : Type 0} (f : A → B) (items : List A) (index : ℕ) (item : B) → option_map f (slice_get items index) ≡ Some item → index < length items
map_within {A} f items index item is = go (slice_get items index) refl is
  where
    go : (found : Option A) → slice_get items index ≡ found → option_map f found ≡ Some item → index < length items
    go None at never = absurd (cc)
    go (Some one) at same = slice_get_within items index one at

pub check_stops : {E : Type 0} {r : _} (fields : E → SymbolFields) (inputs : List Input) (objects : List (DynamicObject E r)) (index : ℕ) (object : DynamicObject E r) (error : LinkError) (stop : Stop (reasons.Failed LinkError)) → index < length objects → object ≡ get_or objects index object → ((i : ℕ) → i < index → IsPassedAt fields objects i) → AreChecked (object_dynamic_symbols fields object) (Err error)
    → IsStop (λ failed. IsOfInput inputs index failed × (failed.error ≡ error)) ⊥ ⊥ stop → IsStop (IsCheckFailed fields inputs objects) ⊥ ⊤ stop
check_stops fields inputs objects index object error stop below object_is passed checked why =
    stop_so _ _ _ _ _ _ stop (λ failed told. record {
      index = index;
      object = object;
      object_is = slice_get_read objects (length objects) index object refl below object_is;
      passed = passed;
      path_is = told.0;
      error_is = subst (λ e. AreChecked (object_dynamic_symbols fields object) (Err e)) (sym told.1) checked;
    }) (λ never. never) (λ never. absurd never) why
