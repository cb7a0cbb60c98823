use Rattle.std.proofs.Common.{◌≡◌}
use Rattle.elf_linking.specs.Bindings.{bindings_left, bindings_objects, references_from}
use Rattle.elf_linking.specs.Scope.{scope_objects}
use Rattle.linking_callers.specs.AllBound.{AreBound, IsOneUnbound}
use Rattle.linking_callers.proofs.callers.bindings.all_bound.Given as goal

-- if all that is left is bound, all is; if one that is left isn't, one isn't
abbrev pub invariant-loop-item : goal.invariant-loop-item
invariant-loop-item g l =
    let objects = (scope_objects l.scope).now in
    let all = references_from 0 objects in
    let left = bindings_left l.item-iterator in
    (bindings_objects l.item-iterator ≡ objects)
    × (AreBound g.E.Entry.fields objects left → AreBound g.E.Entry.fields objects all)
    × (IsOneUnbound g.E.Entry.fields objects left → IsOneUnbound g.E.Entry.fields objects all)
