use Rattle.std.proofs.Common.{◌≡◌, Result, Ok, Err}
use Rattle.std.proofs.lemmas.Result.{err_from_is_err_and}
use Rattle.std.specs.Prelude.{IsOk}
use Rattle.elf_loading.proofs.Reasons.{error_means}
use Rattle.elf_loading.proofs.plan.LoadPlan.check_load.Goals as goal

not_ok : {A E : Type 0} (answer : Result A E) (why : E) → answer ≡ Err why → IsOk answer → ⊥
not_ok (Ok value) why is ok = absurd (cc)
not_ok (Err other) why is ok = absurd (cc)

pub returns-in_err-found-clause-accepts : goal.returns-in_err-found-clause-accepts
returns-in_err-found-clause-accepts c =
    let p = err_from_is_err_and c.from_residual.result c.from_residual.ensures.1 in (
      λ ok. absurd (not_ok c.from_residual.result p.0 p.1 ok),
      λ none. absurd (error_means c.args.file.now c.args.page c.args.limit _ c.in_err-found.ensures.checked none),
    )
