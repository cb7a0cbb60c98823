use Rattle.std.proofs.Common.{◌∙◌, ap}
use Rattle.elfbind.proofs.run.Goals as goal
use Rattle.program_libraries.specs.Complete.{with_missing}

pub returns-clause-bound : goal.returns-clause-bound
returns-clause-bound g c = c.with_missing.ensures.bound c.run_answer.ensures.bound

pub returns-clause-accepted : goal.returns-clause-accepted
returns-clause-accepted g c = λ zero. c.run_answer.ensures.accepted (c.with_missing.ensures.kept zero)

pub returns-clause-known : goal.returns-clause-known
returns-clause-known g c = λ zero. c.say_past_numbers-wrong.ensures (c.with_missing.ensures.whole zero)

pub returns-clause-ends : goal.returns-clause-ends
returns-clause-ends g c =
    let (end, is, status) = c.run_answer.ensures.ends in (
      c.say_past_numbers-wrong.result,
      end,
      is,
      c.with_missing.ensures.value ∙ ap (with_missing c.say_past_numbers-wrong.result) status,
    )
