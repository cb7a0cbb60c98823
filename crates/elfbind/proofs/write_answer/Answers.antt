use Rattle.std.proofs.Common.{rules}
use Rattle.elfbind.specs.Answers.{bindings, bindings_begun, by_binding, by_check, checks, checks_begun}
use Rattle.elfbind.proofs.write_answer.Goals as goal
use Rattle.elfbind.proofs.Shorts.{ends_short}
use Rattle.program_ends.proofs.Ends.{stop_so}

pub returns-in-Ok : goal.returns-in-Ok
returns-in-Ok g c = ends_short _ _ _ _ _ _ c.write_bindings.result _ _ (λ wrong text were. bindings c.in-Bindings.style (search rules) c.in-Ok.ensures.0 were)
    (λ error why. by_binding c.in-Bindings.style (search rules) c.in-Ok.ensures.0 why) (λ begun. bindings_begun c.in-Bindings.style (search rules) c.in-Ok.ensures.0 begun) c.write_bindings.ensures

pub returns-in-Err : goal.returns-in-Err
returns-in-Err g c = stop_so _ _ _ _ _ _ c.in-Err.stop (λ error why. by_check c.in-Bindings.style (search rules) why) (λ never. absurd never) (λ never. never) c.in-Err.ensures

pub returns-in-Checks : goal.returns-in-Checks
returns-in-Checks g c = ends_short _ _ _ _ _ _ c.write_checks.result _ _ (λ wrong text were. checks c.in-Checks.form (search rules) were)
    (λ error never. absurd never) (λ begun. checks_begun c.in-Checks.form (search rules)) c.write_checks.ensures
