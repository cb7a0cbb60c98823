use Rattle.std.proofs.Common.{sym, subst}
use Rattle.elfload.proofs.Stops.{load_stops}
use Rattle.linking_programs.specs.Files.{AreObjectsOf}
use Rattle.elfload.proofs.printing.print.Goals as goal

pub returns-in-Err-clause-stopped : goal.returns-in-Err-clause-stopped
returns-in-Err-clause-stopped g c =
    rw c.load_stop.ensures (load_stops _ _ _ _ c.args.asked c.args.inputs.now _ c.in-Err.stop c.in-Err.ensures.failed)

pub print_checked-requires-clause-own : goal.print_checked-requires-clause-own
print_checked-requires-clause-own g c = subst (AreObjectsOf g.E.LinkedSymbol.CLASS g.E.Record.SIZE c.args.inputs.now) (sym c.deref.ensures.value) c.in-Ok.ensures.objects
