use Rattle.elfsym.specs.Scope.{by_file}
use Rattle.elfsym.proofs.Scopes.{checked_by}
use Rattle.elfsym.proofs.scope.checked_object.Goals as goal

pub returns-in-Ok : goal.returns-in-Ok
returns-in-Ok g c = checked_by g.E.Entry.fields g.E.LinkedSymbol.CLASS g.E.Record.SIZE c.args.bytes.now c.in-Ok.object c.of.result
    c.in-Ok.ensures.exact c.of.ensures.value c.of.ensures.exact

pub returns-in-Err : goal.returns-in-Err
returns-in-Err g c = by_file c.in-Err.ensures.exact
