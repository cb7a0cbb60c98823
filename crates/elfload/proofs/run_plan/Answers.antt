use Rattle.std.proofs.Common.{◌≤◌, ap, sym, subst, ◌∙◌}
use Rattle.std.specs.Prelude.{IsTrue}
use Rattle.elfload.proofs.Loaded.{ended_loaded}
use Rattle.elfload.proofs.Quiet.{quiet_bound, quiet_closed}
use Rattle.elfload.proofs.run_plan.Goals as goal
use Rattle.program_ends.specs.Ends.{quiet_status_of}

pub returns-clause-bound : goal.returns-clause-bound
returns-clause-bound g c = λ other. subst (λ status. status ≤ 1) (sym c.quiet_status_of.ensures) (quiet_bound c.answer-ended.result c.is_closed.result (λ same. other (c.quiet_status_of.ensures ∙ same)))

pub returns-clause-closed : goal.returns-clause-closed
returns-clause-closed g c = λ is. subst IsTrue c.is_closed.ensures (quiet_closed c.answer-ended.result c.is_closed.result (sym c.quiet_status_of.ensures ∙ is))

pub returns-clause-loaded : goal.returns-clause-loaded
returns-clause-loaded g c = λ zero. ended_loaded c.args.form c.args.page c.args.path c.args.input c.answer-ended.result c.is_closed.result c.answer-ended.ensures (sym c.quiet_status_of.ensures ∙ zero)

pub returns-clause-ends : goal.returns-clause-ends
returns-clause-ends g c = (c.answer-ended.result, c.answer-ended.ensures, c.quiet_status_of.ensures ∙ ap (quiet_status_of c.answer-ended.result) c.is_closed.ensures)
