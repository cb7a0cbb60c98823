use Rattle.std.proofs.lemmas.Result.{err_from_is_err_and}
use Rattle.linking_callers.specs.CheckedFiles.{of_one, of_other}
use Rattle.linking_callers.proofs.callers.checked.file_with_name.Goals as goal

pub returns-in_err-of-clause-failed : goal.returns-in_err-of-clause-failed
returns-in_err-of-clause-failed g c =
    let p = err_from_is_err_and c.from_residual.result c.from_residual.ensures.1 in
    rw (p.1, p.2) (of_one _ c.in_err-of.ensures.exact)

pub returns-in_err-of-2-clause-failed : goal.returns-in_err-of-2-clause-failed
returns-in_err-of-2-clause-failed g c =
    let p = err_from_is_err_and c.from_residual-in_err-of-2.result c.from_residual-in_err-of-2.ensures.1 in
    rw (p.1, p.2) (of_other _ c.in_ok-of.ensures.exact c.in_err-of-2.ensures.exact)
