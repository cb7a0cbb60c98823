use Rattle.std.proofs.Common.{sym, subst}
use Rattle.elfbind.specs.Answers.{by_answer, by_input}
use Rattle.linking_programs.specs.Files.{AreObjectsOf}
use Rattle.linking_programs.proofs.Objects.{if_err_so}
use Rattle.elfbind.proofs.print.Goals as goal
use Rattle.program_ends.proofs.Ends.{stop_so}

pub returns-in-Err-clause-stopped : goal.returns-in-Err-clause-stopped
returns-in-Err-clause-stopped g c = stop_so _ _ _ _ _ _ c.in-Err.stop (λ failed why. by_input why) (λ never. absurd never) (λ short. short) c.in-Err.ensures.failed

pub returns-clause-stopped : goal.returns-clause-stopped
returns-clause-stopped g c =
    let are = subst (AreObjectsOf g.E.LinkedSymbol.CLASS g.E.Record.SIZE c.args.inputs.now) (sym c.deref.ensures.value) c.in-Ok.ensures.objects in
    if_err_so _ _ _ _ _ _ _ c.print_objects.result (λ failed why. by_answer _ are why) (λ written. record { objects = _; objects_are = are; written = written }) (λ short. short) c.print_objects.ensures
