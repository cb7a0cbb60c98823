use Rattle.std.proofs.Common.{rules, ◌≡◌, ◌<◌, ◌++◌, ◌∷◌, ◌∙◌, [], ap, sym, arith}
use Rattle.elf_linking.specs.Loaded.{word_at_of}
use Rattle.elf_loading.specs.declared.value.Origin.TheVariants.{Zero}
use Rattle.elf_loading.specs.declared.value.Value.TheVariants.{Sum}
use Rattle.elfload.proofs.StartValues.{place_more, place_none, place_stops}
use Rattle.elfload.proofs.arrays.words_in_place.Goals as goal

pub loop-index-init : goal.loop-index-init
loop-index-init c = place_none c.args.file.now c.args.slots.now _ (search rules)

pub loop-index-preserved : goal.loop-index-preserved
loop-index-preserved c =
    let file = c.args.file.now in
    let values = c.loop-index.values.items in
    let pushed : c.push.new.self.items ≡ values ++ (Sum Zero c.in-Ok.offset ∷ []) = search rules in
    place_more file c.args.slots.now values c.push.new.self.items c.loop-index.index c.in-Ok.offset c.loop-index.invariant (ap (word_at_of file) (sym c.slot_address.ensures) ∙ sym c.in-Ok.ensures) pushed

pub returns-in-Err : goal.returns-in-Err
returns-in-Err c =
    let file = c.args.file.now in
    let slots = c.args.slots.now in
    let below : c.loop-index.index < slots.count = omega (arith, c.loop-index-test.true) in
    place_stops file slots c.args.path c.loop-index.values.items c.loop-index.index c.in-Err.error c.failure.result c.loop-index.invariant below
    (ap (word_at_of file) (sym c.slot_address.ensures) ∙ sym c.in-Err.ensures) c.failure.ensures
