-- Why the program stops, by where it does.
use Rattle.std.proofs.Common.{◌≡◌, ℕ, List, Some, slice_get, take, Result, Ok, Err, refl, sym, subst}
use Rattle.std.specs.Prelude.{OnOk, ⊤}
use Rattle.elf_linking.specs.DynamicObject.{object_file}
use Rattle.elfload.specs.Types.{DynamicObject, Input, LinkError, LoadError, LoadPlan, Stop}
use Rattle.elfload.specs.Ends.{AreFailed, by_input, load_stop}
use Rattle.elfload.specs.Images.{ArePlansOf, IsCheckError, IsPlanMissing, IsFailedAt, LacksPlan}
use Rattle.elfload.specs.declared.Options.{Options}
use Rattle.linking_programs.specs.Files.{IsInputError, IsOfInput}
use Rattle.linking_programs.specs.declared.Failed as reasons
use Rattle.program_ends.proofs.Ends.{stop_so}
use Rattle.program_ends.specs.Stops.{IsStop}
use Rattle.program_ends.specs.declared.Stop.TheVariants.{Memory, Failed, Write}
use Rattle.xmas_elf.specs.Symbol.{SymbolFields}

-- the error of the input at an index, of which something is known
pub error_stops : (inputs : List Input) (index : ℕ) (P : LoadError → Type 0) (Written Short : Type 0) (error : LoadError) (stop : Stop (reasons.Failed LoadError)) → P error → IsStop (λ failed. IsOfInput inputs index failed × (failed.error ≡ error)) ⊥ ⊥ stop → IsStop (λ failed. IsOfInput inputs index failed × P failed.error) Written Short stop
error_stops inputs index P Written Short error stop why is =
    stop_so _ _ _ _ _ _ stop (λ failed told. (told.0, subst P (sym told.1) why)) (λ never. absurd never) (λ never. absurd never) is

-- the same as a record
pub check_stops : {E : Type 0} {r : _} (size : ℕ) (fields : E → SymbolFields) (inputs : List Input) (objects : List (DynamicObject E r)) (plans : List LoadPlan) (index : ℕ) (error : LoadError) (stop : Stop (reasons.Failed LoadError)) → IsCheckError size fields objects plans index error → IsStop (λ failed. IsOfInput inputs index failed × (failed.error ≡ error)) ⊥ ⊥ stop → IsStop (IsFailedAt size fields inputs objects plans index) ⊥ ⊤ stop
check_stops size fields inputs objects plans index error stop why is =
    stop_so _ _ _ _ _ _ stop (λ failed told. record { path_is = told.0; error_is = subst (IsCheckError size fields objects plans index) (sym told.1) why }) (λ never. absurd never) (λ never. absurd never) is

-- the object at an index has no plan
pub plan_stops : {E : Type 0} {r : _} (page : ℕ) (inputs : List Input) (objects : List (DynamicObject E r)) (index : ℕ) (object : DynamicObject E r) (plans : List LoadPlan) (error : LoadError) (stop : Stop (reasons.Failed LoadError)) → slice_get objects index ≡ Some object → ArePlansOf page (take index objects) plans
    → LacksPlan page (object_file object) error → IsStop (λ failed. IsOfInput inputs index failed × (failed.error ≡ error)) ⊥ ⊥ stop → IsStop (IsPlanMissing page inputs objects) ⊥ ⊤ stop
plan_stops page inputs objects index object plans error stop there before why is =
    stop_so _ _ _ _ _ _ stop (λ failed told. record {
      index = index;
      object = object;
      object_is = there;
      plans = plans;
      before = before;
      path_is = told.0;
      why = subst (LacksPlan page (object_file object)) (sym told.1) why;
    }) (λ never. absurd never) (λ never. absurd never) is

-- what holds whatever the result
pub always : {A E : Type 0} (result : Result A E) (P : Type 0) → P → OnOk result P
always (Ok value) P holds = holds
always (Err error) P holds = tt

-- files that are not read, as an error of a loader
pub load_stops : {E : Type 0} (r : _) (fields : E → SymbolFields) (class size : ℕ) (options : Options) (inputs : List Input) (Written : Type 0) (stop : Stop (reasons.Failed LinkError)) → IsStop (IsInputError {E = E} r class size inputs) ⊥ ⊤ stop → IsStop (AreFailed {E = E} r fields class size options inputs) Written ⊤ (load_stop stop)
load_stops r fields class size options inputs Written (Failed failed) why = by_input failed.error refl why
load_stops r fields class size options inputs Written Write never = absurd never
load_stops r fields class size options inputs Written Memory why = why
