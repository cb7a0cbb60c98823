-- What holds of a file holds of its input, and what a plan tells of its file.
use Rattle.std.proofs.Common.{◌≡◌, ℕ, List, Option, Some, Result, Ok, Err, refl, sym, subst}
use Rattle.std.specs.Borrow.{Bor}
use Rattle.std.specs.Prelude.{IsOk, MatchResult, OnOk}
use Rattle.elf_loading.specs.Plan.{IsPlanOf}
use Rattle.elf_loading.specs.declared.plan.LoadPlan.{LoadPlan}
use Rattle.elfload.specs.Plans.{IsFilePlan, IsFileError, IsLoaded, IsPlanIn, header_limit}
use Rattle.elfload.specs.declared.plans.AnyError.{AnyError}
use Rattle.program_ends.specs.Appended.{AppendsSome}
use Rattle.program_ends.specs.Stops.{IsStop}
use Rattle.program_ends.specs.declared.Stop as stops
use Rattle.program_ends.specs.declared.Stop.TheVariants as stops_are
use Rattle.program_ends.specs.declared.json.Form.{Form}
use Rattle.xmas_elf.specs.Types.{ElfFile}

-- a file with a plan is loaded
pub planned : (page limit : ℕ) (file : ElfFile) (plan : LoadPlan) → header_limit file.header ≡ Some limit → IsPlanOf file page limit plan → IsLoaded page file
planned page limit file plan there is = record { limit = limit; limit_is = there; checked = rw is.checked refl }

module _ (form : Form) (page limit : ℕ) (file : ElfFile) (plan : LoadPlan) (path : Bor (List ℕ)) (old new : Option (List ℕ)) (there : header_limit file.header ≡ Some limit) (is : IsPlanOf file page limit plan) where
  ok_so : {E : Type 0} (written : Result (Unit {0}) E) → OnOk written (AppendsSome (IsPlanIn form plan.page path file) old new) → IsOk written → AppendsSome (IsFilePlan form page path file) old new
  ok_so (Ok done) (text, told, grown) ok = (text, (planned page limit file plan there is, subst (λ p. IsPlanIn form p path file text) is.page_is told), grown)
  ok_so (Err error) none ok = absurd (cc)

  stop_so : (stop : stops.Stop AnyError) → stop ≡ stops_are.Write → IsStop (IsFileError page file) (IsLoaded page file) ⊥ stop
  stop_so stop write = subst (IsStop (IsFileError page file) (IsLoaded page file) ⊥) (sym write) (planned page limit file plan there is)

  -- the text of a plan was written, or a write failed
  pub plan_ends : {E : Type 0} (result : Result (Unit {0}) (stops.Stop AnyError)) (written : Result (Unit {0}) E) → OnOk written (AppendsSome (IsPlanIn form plan.page path file) old new) → MatchResult result (λ done. IsOk written) (λ stop. stop ≡ stops_are.Write)
      → MatchResult result (λ done. AppendsSome (IsFilePlan form page path file) old new) (IsStop (IsFileError page file) (IsLoaded page file) ⊥)
  plan_ends (Ok done) written told ok = ok_so written told ok
  plan_ends (Err stop) written told write = stop_so stop write
