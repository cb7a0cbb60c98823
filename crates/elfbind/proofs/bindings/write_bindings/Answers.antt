use Rattle.std.proofs.Common.{rules, Bool, subst, sym}
use Rattle.std.specs.Prelude.{map}
use Rattle.elf_linking.specs.CheckedBindings.{checked_left}
use Rattle.elf_linking.specs.Exports.{object_parts}
use Rattle.elfbind.proofs.Items.{AreLinesSoFar, item_is, lines_begin, lines_end, lines_more, lines_stop}
use Rattle.elfbind.proofs.bindings.write_bindings.Goals as goal

pub loop-item-init : goal.loop-item-init
loop-item-init g c = lines_begin c.args.inputs.now (map (object_parts g.E.Entry.fields) c.args.objects.now) c.args.style _ _ (search rules)

pub write_item-requires-clause-item : goal.write_item-requires-clause-item
write_item-requires-clause-item g c = item_is c.args.inputs.now (map (object_parts g.E.Entry.fields) c.args.objects.now) c.args.style _ _ _ _ _ _ c.loop-item.invariant c.in-Some.ensures.steps.0

pub loop-item-preserved : goal.loop-item-preserved
loop-item-preserved g c =
    let parts = map (object_parts g.E.Entry.fields) c.args.objects.now in
    subst (λ (missing : Bool). AreLinesSoFar c.args.inputs.now parts c.args.style (checked_left c.next.new.self) missing (g.W.Write.contents c.args.out.now) (g.W.Write.contents c.write_item.new.out)) (sym c.either-missing.ensures)
    (lines_more c.args.inputs.now parts c.args.style _ _ _ _ _ _ c.loop-item.invariant c.in-Some.ensures.steps.0 c.in-Ok.own _ c.in-Ok.ensures)

pub returns : goal.returns
returns g c = lines_end c.args.inputs.now (map (object_parts g.E.Entry.fields) c.args.objects.now) c.args.style _ _ _ _ (search rules) c.loop-item.invariant

pub returns-in-Err : goal.returns-in-Err
returns-in-Err g c =
    lines_stop g.E.Entry.fields c.args.inputs.now c.args.objects.now c.args.style _ _ _ _ _ _ c.loop-item.invariant c.in-Some.ensures.steps.0 c.in-Err.stop c.in-Err.ensures
