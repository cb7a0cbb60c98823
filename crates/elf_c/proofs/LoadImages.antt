-- The images of objects, by what the library's calls say of them.
use Rattle.std.proofs.Common.{◌≡◌, ℕ, List, Result, length, subst, sym}
use Rattle.std.specs.Borrow.{Bor}
use Rattle.std.specs.Prelude.{IfErr, IfOk}
use Rattle.elf_linking.specs.declared.object.DynamicObject.{DynamicObject}
use Rattle.elf_loading.specs.ImageWords.{IsImageCheck}
use Rattle.elf_loading.specs.OneWord.{HasErrorLeft, IsByOneWordIn}
use Rattle.elf_loading.specs.Relocate.{IsRelocationIn}
use Rattle.elf_loading.specs.WordErrors.{IsImageError, IsRelocationErrorIn, error_alone}
use Rattle.elf_loading.specs.declared.word_error.WordError.{WordError}
use Rattle.elf_loading.specs.declared.plan.LoadPlan.{LoadPlan}
use Rattle.elf_loading.specs.declared.relocate.Place.{Place}
use Rattle.elf_loading.specs.declared.words.Binding.{Binding}
use Rattle.xmas_elf.specs.Symbol.{SymbolFields}
use Rattle.elf_c.specs.LoadImages.{ChecksAs, RelocatesAs, checked, relocated}
use Rattle.elf_c.specs.LoadObjects.{AreImagesOf, AreObjectsOf, ArePlacesOf, ArePlansOf, as_failure}
use Rattle.elf_c.specs.declared.load_objects.Failure.{Failure}
use Rattle.elf_c.specs.declared.load_objects.LoadObject.{LoadObject}

module _ {E : Type 0} {r : _} (class size : ℕ) (fields : E → SymbolFields) (loads : List LoadObject) (of page limit : ℕ) (objects : Bor (List (DynamicObject E r))) (all : List (DynamicObject E r)) (are : AreObjectsOf class size loads all) (same : objects.now ≡ all) (plans : Bor (List LoadPlan)) (planned : List LoadPlan) (are_planned : ArePlansOf page limit all planned) (plans_same : plans.now ≡ planned) where
  own : AreObjectsOf class size loads objects.now
  own = subst (AreObjectsOf class size loads) (sym same) are

  own_plans : ArePlansOf page limit objects.now plans.now
  own_plans = subst (λ os. ArePlansOf page limit os plans.now) (sym same) (subst (ArePlansOf page limit all) (sym plans_same) are_planned)

  pub checked_by : (bits : ℕ) (answer : Result (Unit {0}) WordError) (result : Result (Unit {0}) Failure) → IsImageCheck size fields objects.now plans.now of bits (error_alone answer) → IfErr answer (IsImageError size fields objects.now plans.now of bits) → result ≡ as_failure answer of → ChecksAs r class size fields loads of page limit bits result
  checked_by bits answer result check first is = checked objects.now plans.now answer own own_plans check first is

  pub relocated_by : (when : Binding) (before after : List ℕ) (answer : Result ℕ WordError) (result : Result ℕ Failure) (places : Bor (List Place)) (images : Bor (List (Bor (List ℕ))))
      → IsRelocationIn fields objects plans of when places images before after (error_alone answer)
      → IfOk (error_alone answer) (λ count. IsByOneWordIn fields objects plans of when places images before after)
      → IfErr (error_alone answer) (HasErrorLeft fields objects.now plans.now of when)
      → IfErr answer (IsRelocationErrorIn fields objects plans of when places images (length before))
      → ArePlacesOf loads places.now → AreImagesOf loads images.now → result ≡ as_failure answer of → RelocatesAs r class size fields loads of when page limit before after result
  relocated_by when before after answer result places images relocation once errors first at shown is =
      relocated objects plans places images answer own own_plans at shown relocation once errors first is
