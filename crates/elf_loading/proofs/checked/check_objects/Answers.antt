use Rattle.std.proofs.Common.{◌<◌, ◌≤◌, length, refl, ap, subst, arith}
use Rattle.std.proofs.lemmas.Option.{slice_get_read}
use Rattle.std.specs.Prelude.{option_map}
use Rattle.elf_linking.specs.Checked.{AreChecked}
use Rattle.elf_linking.specs.DynamicObject.{object_dynamic_symbols}
use Rattle.elf_loading.specs.CheckedLoads.{all, first}
use Rattle.elf_loading.proofs.CheckedScopes.{all_before, before_more}
use Rattle.elf_loading.proofs.checked.check_objects.Goals as goal

pub returns-in-Err : goal.returns-in-Err
returns-in-Err g c =
    let objects = c.args.objects.now in
    let place = c.loop-place.place in
    let object = c.index-objects-place.result in
    let file = object_dynamic_symbols g.E.Entry.fields object in
    let below : place < length objects = omega (arith, c.loop-place-test.true) in
    let there = slice_get_read objects (length objects) place object refl below c.index-objects-place.is in
    first place file c.in-Err.error c.loop-place.invariant (ap (option_map (object_dynamic_symbols g.E.Entry.fields)) there)
    (subst (AreChecked file) c.in-Err.is c.check_object.ensures)

pub loop-place-preserved : goal.loop-place-preserved
loop-place-preserved g c =
    let objects = c.args.objects.now in
    let place = c.loop-place.place in
    let object = c.index-objects-place.result in
    let file = object_dynamic_symbols g.E.Entry.fields object in
    let below : place < length objects = omega (arith, c.loop-place-test.true) in
    let there = slice_get_read objects (length objects) place object refl below c.index-objects-place.is in
    before_more g.E.Entry.fields objects place object there (subst (AreChecked file) c.in-Ok.is c.check_object.ensures) c.loop-place.invariant

pub returns : goal.returns
returns g c =
    let objects = c.args.objects.now in
    let past : length objects ≤ c.loop-place.place = omega (arith, c.loop-place-test.false) in
    all (all_before g.E.Entry.fields objects c.loop-place.place past c.loop-place.invariant)
