use Rattle.std.proofs.Common.{ap, subst, ◌≡◌, ◌∙◌}
use Rattle.std.specs.Prelude.{⊤}
use Rattle.elfload.specs.Starts.{AreValues, IsArrayError, numbered}
use Rattle.elfload.specs.declared.arrays.Slots.{Slots}
use Rattle.elfload.proofs.StartParts.{memory_only}
use Rattle.elfload.proofs.starts.read_array.Goals as goal
use Rattle.program_ends.specs.Stops.{IsStop}

pub returns-in-Ok : goal.returns-in-Ok
returns-in-Ok g c =
    let values = c.in-Ok.values.items in
    let are = subst (λ (slots : Slots). AreValues g.E.Entry.fields c.args.objects.now c.args.step.of c.args.object.now slots values) c.object_slots-slots.ensures.value c.in-Ok.ensures in
    memory_only _ _ _ c.number_all.result (λ starts is. (values, are, is ∙ ap (numbered c.args.path c.args.step 0) c.deref.ensures.value)) c.number_all.ensures

pub returns-in-Err : goal.returns-in-Err
returns-in-Err g c =
    subst (λ (slots : Slots). IsStop (λ failed. (failed.path ≡ c.args.path) × IsArrayError g.E.Entry.fields c.args.objects.now c.args.step.of c.args.object.now slots failed.error) ⊥ ⊤ c.in-Err.stop)
    c.object_slots-slots.ensures.value c.in-Err.ensures
