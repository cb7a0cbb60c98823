use Rattle.std.proofs.Common.{◌≤◌, ap, sym, subst, ◌∙◌}
use Rattle.std.specs.Prelude.{IsTrue}
use Rattle.elfload.proofs.WordsEnds.{ended_good}
use Rattle.elfload.proofs.Quiet.{quiet_bound, quiet_closed}
use Rattle.elfload.proofs.run_words.Goals as goal
use Rattle.program_ends.specs.Ends.{quiet_status_of}

pub returns-clause-bound : goal.returns-clause-bound
returns-clause-bound g c = λ other. subst (λ status. status ≤ 1) (sym c.quiet_status_of.ensures) (quiet_bound c.print_words-ended.result c.is_closed.result (λ same. other (c.quiet_status_of.ensures ∙ same)))

pub returns-clause-closed : goal.returns-clause-closed
returns-clause-closed g c = λ is. subst IsTrue c.is_closed.ensures (quiet_closed c.print_words-ended.result c.is_closed.result (sym c.quiet_status_of.ensures ∙ is))

pub returns-clause-checked : goal.returns-clause-checked
returns-clause-checked g c = λ zero. ended_good _ _ c.args.asked c.args.inputs.now c.print_words-ended.result c.is_closed.result c.print_words-ended.ensures (sym c.quiet_status_of.ensures ∙ zero)

pub returns-clause-ends : goal.returns-clause-ends
returns-clause-ends g c = (c.print_words-ended.result, c.print_words-ended.ensures, c.quiet_status_of.ensures ∙ ap (quiet_status_of c.print_words-ended.result) c.is_closed.ensures)
