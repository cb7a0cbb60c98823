use Rattle.std.proofs.Common.{rules, arith}
use Rattle.elfload.proofs.PlanEnds.{run_planned, run_unplanned, run_worded}
use Rattle.elfload.proofs.run.Goals as goal

pub returns-then-status-ne0-clause-status : goal.returns-then-status-ne0-clause-status
returns-then-status-ne0-clause-status g c = λ unshut.
    let plans = c.run_plans-status.ensures in
    run_unplanned _ _ c.args.asked c.args.inputs.now c.run_plans-status.result plans.ends c.if-status-ne0.true unshut (plans.bound unshut)

pub returns-then-not-has_dynamic-clause-status : goal.returns-then-not-has_dynamic-clause-status
returns-then-not-has_dynamic-clause-status g c = λ unshut.
    run_planned _ _ c.args.asked c.args.inputs.now c.run_plans-status.result c.run_plans-status.ensures.ends (omega (arith, c.if-status-ne0.false)) (c.has_dynamic.ensures.no (search rules))

pub returns-clause-status : goal.returns-clause-status
returns-clause-status g c = λ unshut.
    let (end, ended, own_is) = c.run_words.ensures.ends in
    run_worded _ _ c.args.asked c.args.inputs.now c.run_plans-status.result c.run_plans-status.ensures.ends (omega (arith, c.if-status-ne0.false)) (c.has_dynamic.ensures.yes (search rules))
    c.run_words.result end _ ended own_is unshut
