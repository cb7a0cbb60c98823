-- The checks of the objects of a scope, object by object.
use Rattle.std.proofs.Common.{◌≡◌, ℕ, ◌+◌, ◌<◌, ◌≤◌, List, length, Option, None, Some, Result, Ok, inl, inr, refl, sym, ap, ◌∙◌, subst, arith}
use Rattle.std.proofs.lemmas.Bool.{cases_lt}
use Rattle.std.proofs.lemmas.Option.{slice_get_within}
use Rattle.std.specs.Prelude.{option_map, slice_get}
use Rattle.elf_linking.specs.AnyTable.{IsGoodBy}
use Rattle.elf_linking.specs.Checked.{AreChecked}
use Rattle.elf_linking.specs.DynamicObject.{object_dynamic_symbols}
use Rattle.elf_linking.specs.Find.{AreReadable, DynamicSymbols}
use Rattle.elf_linking.specs.Scope.{AreGood, symbols_at}
use Rattle.elf_loading.specs.Types.{DynamicObject, LinkError}
use Rattle.elf_linking.proofs.lemmas.CheckedBound.{passed_good}
use Rattle.elf_loading.specs.CheckedLoads.{AreAllChecked, AreCheckedBefore, all, first}
use Rattle.xmas_elf.specs.Symbol.{SymbolFields}

module _ {E : Type 0} {r : _} (fields : E → SymbolFields) (objects : List (DynamicObject E r)) where
  pub before_more : (n : ℕ) (object : DynamicObject E r) → slice_get objects n ≡ Some object → AreChecked (object_dynamic_symbols fields object) (Ok tt)
      → AreCheckedBefore fields objects n → AreCheckedBefore fields objects (n + 1)
  before_more n object at checked before i file below there = elim (cases_lt i n) [
    | inl less ↦ before i file less there
    | inr none ↦ (
        let same : i ≡ n = omega (arith, below, none) in
        let here : symbols_at fields objects i ≡ Some (object_dynamic_symbols fields object) = ap (symbols_at fields objects) same ∙ ap (option_map (object_dynamic_symbols fields)) at in
        let file_is : object_dynamic_symbols fields object ≡ file = let both = sym here ∙ there in cc in
        subst (λ f. AreChecked f (Ok tt)) file_is checked)
  ]

  within : (i : ℕ) (file : DynamicSymbols E) → symbols_at fields objects i ≡ Some file → i < length objects
  within i file there = by_object (slice_get objects i) refl there
    where
      by_object : (object : Option (DynamicObject E r)) → slice_get objects i ≡ object → option_map (object_dynamic_symbols fields) object ≡ Some file → i < length objects
      by_object None at is = absurd (cc)
      by_object (Some object) at is = slice_get_within objects i object at

  pub all_before : (n : ℕ) → length objects ≤ n → AreCheckedBefore fields objects n → (count : ℕ) → AreCheckedBefore fields objects count
  all_before n past before count i file below there = before i file (let inside = within i file there in omega (arith, inside, past)) there

  -- objects that passed their checks are good
  pub good_by : AreAllChecked fields objects (Ok tt) → AreGood fields objects
  good_by checked i file there = by_checked (Ok tt) refl checked
    where
      by_checked : (result : Result (Unit {0}) LinkError) → result ≡ Ok tt → AreAllChecked fields objects result → IsGoodBy file.table file.symbols × AreReadable file
      by_checked _ is (all before) = passed_good file (before (i + 1) i file (omega arith) there)
      by_checked _ is (first k other error before at failed) = absurd (cc)

  pub known_good : AreAllChecked fields objects (Ok tt) → ∥ AreGood fields objects ∥₁
  known_good checked = ∣ good_by checked ∣₁
