use Rattle.linking_programs.proofs.Objects.{of_header}
use Rattle.elfload.specs.Plans.{IsFilePlan, IsFileError, IsLoaded, no_file, no_header}
use Rattle.elfload.proofs.plans.PlanOutput.write_to.Goals as goal
use Rattle.program_ends.proofs.Ends.{ends_so}

pub returns-in-Ok : goal.returns-in-Ok
returns-in-Ok g c =
    let plan = c.args.self.now in
    let file = c.in-Ok.file in
    ends_so _ _ _ _ _ _ _ c.write_file.result _ _
    (λ done text are. of_header (λ f. IsFilePlan plan.form plan.page plan.path f text) plan.input file c.in-Ok.ensures.input c.in-Ok.ensures.header are)
    (λ failure why. no_file failure (of_header (λ f. IsFileError plan.page f failure) plan.input file c.in-Ok.ensures.input c.in-Ok.ensures.header why))
    (λ begun. of_header (IsLoaded plan.page) plan.input file c.in-Ok.ensures.input c.in-Ok.ensures.header begun) c.write_file.ensures

pub returns-in-Err : goal.returns-in-Err
returns-in-Err g c = no_header c.in-Err.error c.in-Err.ensures.failed
