use Rattle.std.proofs.Common.{◌≡◌, ◌∙◌, true, rules}
use Rattle.elf_linking.specs.Bindings.{bindings_left, bindings_objects, references_from}
use Rattle.elf_linking.specs.Scope.{scope_objects}
use Rattle.linking_callers.specs.AllBound.{is_bound}
use Rattle.linking_callers.proofs.AllBound.{bound_on, unbound_on}
use Rattle.linking_callers.proofs.callers.bindings.all_bound.Goals as goal

pub loop-item-preserved : goal.loop-item-preserved
loop-item-preserved g c =
    let objects = (scope_objects c.args.scope.now).now in
    let all = references_from 0 objects in
    let left = bindings_left c.loop-item.item-iterator in
    let later = bindings_left c.next.new.self in
    let here = c.loop-item.invariant in
    let step = c.in-Some.ensures.steps in
    let found : is_bound c.in-Some.item ≡ true = search rules in (
      step.1 ∙ here.0,
      bound_on g.E.Entry.fields objects (bindings_objects c.loop-item.item-iterator) here.0 c.in-Some.item left later all step.0 step.2 found here.1,
      unbound_on g.E.Entry.fields objects (bindings_objects c.loop-item.item-iterator) here.0 c.in-Some.item left later all step.0 step.2 here.2,
    )
