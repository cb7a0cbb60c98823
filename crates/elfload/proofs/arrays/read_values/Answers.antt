use Rattle.std.proofs.Common.{subst, ◌≡◌}
use Rattle.elfload.specs.Starts.{AreInPlace, IsSlotError, by_slot}
use Rattle.elfload.proofs.StartValues.{values_end}
use Rattle.elfload.proofs.arrays.read_values.Goals as goal
use Rattle.program_ends.proofs.Ends.{stop_so}

pub returns-in-Ok : goal.returns-in-Ok
returns-in-Ok g c =
    let slots = c.args.slots.now in
    let are = subst (λ file. AreInPlace file slots c.in-Ok.values.items) c.file.ensures c.in-Ok.ensures.0 in
    values_end g.E.Entry.fields c.args.objects.now c.args.of c.args.object.now slots c.args.path c.in-Ok.values.items are c.in-Ok.ensures.1 (λ after. after.items) c.relocated.result c.relocated.ensures

pub returns-in-Err : goal.returns-in-Err
returns-in-Err g c = stop_so _ _ _ _ _ _ c.in-Err.stop
    (λ failed told. (told.0, by_slot (subst (λ file. IsSlotError file c.args.slots.now failed.error) c.file.ensures told.1))) (λ never. never) (λ short. short) c.in-Err.ensures
