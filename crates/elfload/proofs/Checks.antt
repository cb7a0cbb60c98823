-- How the checks of an object end.
use Rattle.std.proofs.Common.{◌≡◌, ◌≤◌, ◌-◌, ◌*◌, ℕ, List, Some, Result, Ok, Err, subst}
use Rattle.std.specs.Borrow.{Bor}
use Rattle.std.specs.Prelude.{MatchResult, slice_get, ⊤}
use Rattle.elf_linking.specs.DynamicObject.{object_dynamic_symbols}
use Rattle.elfload.specs.Types.{DynamicObject, Input, LoadError, LoadPlan, Span, Stop}
use Rattle.elf_loading.specs.ImageWords.{IsImageCheck}
use Rattle.elf_loading.specs.Plan.{plan_span}
use Rattle.elfload.specs.Images.{AreEnough, IsChecked, IsImageGood, IsFailedAt, IsWordsError, by_words}
use Rattle.linking_programs.specs.Checks.{IsGood}
use Rattle.linking_programs.specs.Files.{IsOfInput}
use Rattle.program_ends.proofs.Ends.{stop_so}
use Rattle.linking_programs.specs.declared.Failed as reasons
use Rattle.program_ends.specs.Stops.{IsStop}
use Rattle.xmas_elf.specs.Symbol.{SymbolFields}

module _ {E : Type 0} {r : _} (size : ℕ) (fields : E → SymbolFields) (inputs : List Input) (objects : List (DynamicObject E r)) (plans : List LoadPlan) (index : ℕ) (object : DynamicObject E r) (there : slice_get objects index ≡ Some object) (good : IsGood (object_dynamic_symbols fields object)) where
  pub checked_ends : (result : Result (Unit {0}) (Stop (reasons.Failed LoadError)))
      → MatchResult result (λ done. IsImageGood size fields objects plans index) (IsStop (λ failed. IsOfInput inputs index failed × IsWordsError size fields objects plans index failed.error) ⊥ ⊤)
      → MatchResult result (λ done. IsChecked size fields objects plans index) (IsStop (IsFailedAt size fields inputs objects plans index) ⊥ ⊤)
  checked_ends (Ok done) image = record { object = object; object_is = there; good = good; image = image }
  checked_ends (Err stop) why = stop_so _ _ _ _ _ _ stop (λ failed told. record { path_is = told.0; error_is = by_words object failed.error there good told.1 }) (λ never. never) (λ short. short) why

-- the check of an image in a scope of the same objects and plans
module _ {E : Type 0} {r : _} (size : ℕ) (fields : E → SymbolFields) (lent objects : Bor (List (DynamicObject E r))) (planned plans : Bor (List LoadPlan)) (index bits : ℕ) (same : lent ≡ objects) (plans_same : planned ≡ plans) where
  same_check : (result : Result (Unit {0}) LoadError) → IsImageCheck size fields lent.now planned.now index bits result → IsImageCheck size fields objects.now plans.now index bits result
  same_check result is =
      subst (λ (l : Bor (List LoadPlan)). IsImageCheck size fields objects.now l.now index bits result) plans_same
      (subst (λ (l : Bor (List (DynamicObject E r))). IsImageCheck size fields l.now planned.now index bits result) same is)

  pub image_good : IsImageCheck size fields lent.now planned.now index bits (Ok tt) → IsImageGood size fields objects.now plans.now index
  image_good is = (bits, same_check (Ok tt) is)

  pub image_failed : (error : LoadError) → AreEnough plans.now index bits → IsImageCheck size fields lent.now planned.now index bits (Err error) → IsWordsError size fields objects.now plans.now index error
  image_failed error enough is = (bits, enough, same_check (Err error) is)

-- the marks of a span are enough for the plan with it
pub enough_for : (plans : List LoadPlan) (index : ℕ) (plan : LoadPlan) (span : Span) (size bits : ℕ) → slice_get plans index ≡ Some plan → span ≡ plan_span plan → span.end - span.start ≤ 8 * size → bits ≡ 8 * size → AreEnough plans index bits
enough_for plans index plan span size bits there same room counted = rw (there, counted) (subst (λ (s : Span). s.end - s.start ≤ 8 * size) same room)
