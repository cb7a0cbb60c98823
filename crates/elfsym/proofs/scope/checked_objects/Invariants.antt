use Rattle.std.proofs.Common.{take}
use Rattle.elfsym.specs.Scope.{AreScopeObjects}
use Rattle.elfsym.proofs.scope.checked_objects.Given as goal

-- the objects of the inputs so far
abbrev pub invariant-loop-input : goal.invariant-loop-input
invariant-loop-input g l = AreScopeObjects g.E.Record g.E.Entry.fields g.E.LinkedSymbol.CLASS g.E.Record.SIZE
    (take l.input-index l.fn.inputs) l.objects.items
