use Rattle.std.proofs.Common.{◌∙◌, ap}
use Rattle.elfsym.proofs.scope.run_scope.Goals as goal
use Rattle.program_ends.specs.Ends.{quiet_status_of}
use Rattle.program_libraries.specs.Complete.{with_missing}

pub returns-clause-complete : goal.returns-clause-complete
returns-clause-complete g c = λ zero. c.say_missing-missing.ensures (c.with_missing.ensures.whole zero)

pub returns-clause-ends : goal.returns-clause-ends
returns-clause-ends g c = (
  c.say_missing-missing.result,
  c.print_found-ended.result,
  λ none. c.say_missing-missing.ensures none,
  c.print_found-ended.ensures,
  c.with_missing.ensures.value ∙ ap (with_missing c.say_missing-missing.result) (c.quiet_status_of.ensures ∙ ap (quiet_status_of c.print_found-ended.result) c.is_closed.ensures),
)
