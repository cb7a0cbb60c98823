use Rattle.std.proofs.Common.{List, sym, subst}
use Rattle.elf_linking.specs.Exports.{ObjectParts}
use Rattle.elfsym.specs.Scope.{AreScopeLines, IsScopeFault}
use Rattle.elfsym.proofs.Scopes.{lines_fault}
use Rattle.elfsym.proofs.scope.print_scope.Goals as goal
use Rattle.program_ends.specs.Appended.{AppendsSome}

pub returns-in-Ok-write_buffered-clause-written : goal.returns-in-Ok-write_buffered-clause-written
returns-in-Ok-write_buffered-clause-written g c = (
  c.in-Ok.objects.items,
  c.in-Ok.ensures,
  subst (λ (objects : List ObjectParts). AppendsSome (AreScopeLines c.args.form g.S.AsStr.text c.args.inputs.now objects c.args.references.now) (g.W.Write.contents c.args.out) (g.W.Write.contents c.in-Ok-write_buffered.out)) c.deref.ensures.value c.in-Ok-write_buffered.ensures,
)

pub returns-clause-fault : goal.returns-clause-fault
returns-clause-fault g c = subst (IsScopeFault g.E.Record g.E.Entry.fields g.E.LinkedSymbol.CLASS g.E.Record.SIZE c.args.inputs.now) (sym c.failed_fault_of.ensures)
    (lines_fault g.E.Record g.E.Entry.fields g.E.LinkedSymbol.CLASS g.E.Record.SIZE c.args.inputs.now c.in-Ok.objects.items _ c.in-Err-write_buffered.stop c.in-Ok.ensures c.in-Err-write_buffered.ensures)
