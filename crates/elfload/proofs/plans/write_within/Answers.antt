use Rattle.elfload.specs.Plans.{no_plan}
use Rattle.elfload.proofs.Inputs.{plan_ends}
use Rattle.elfload.proofs.plans.write_within.Goals as goal

pub returns-in-Ok : goal.returns-in-Ok
returns-in-Ok g c =
    plan_ends c.args.form c.args.page c.args.limit c.args.file.now c.in-Ok.plan c.args.path _ _ c.requires.limit c.in-Ok.ensures.exact c.ended.result c.write_plan.result c.write_plan.ensures c.ended.ensures

pub returns-in-Err : goal.returns-in-Err
returns-in-Err g c = no_plan c.args.limit c.in-Err.error c.requires.limit c.in-Err.ensures.exact
