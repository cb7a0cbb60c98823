use Rattle.std.proofs.Common.{length, refl}
use Rattle.std.proofs.lemmas.Option.{slice_get_read}
use Rattle.elf_loading.specs.declared.error.LoadError.TheVariants.{Link}
use Rattle.elfload.specs.Images.{by_symbols}
use Rattle.elfload.proofs.Checks.{checked_ends}
use Rattle.elfload.proofs.Stops.{check_stops}
use Rattle.elfload.proofs.images.check_object.Goals as goal

pub returns-in-Ok : goal.returns-in-Ok
returns-in-Ok g c =
    let objects = c.args.objects.now in
    let there = slice_get_read objects (length objects) c.args.index c.index-objects-index.result refl c.requires.below c.index-objects-index.is in
    checked_ends g.E.Record.SIZE g.E.Entry.fields c.args.inputs.now objects c.args.plans.now c.args.index c.index-objects-index.result there (c.in-Ok.ensures.accepts.0 refl) c.check_words.result c.check_words.ensures

pub returns-in-Err : goal.returns-in-Err
returns-in-Err g c =
    let objects = c.args.objects.now in
    let there = slice_get_read objects (length objects) c.args.index c.index-objects-index.result refl c.requires.below c.index-objects-index.is in
    check_stops g.E.Record.SIZE g.E.Entry.fields c.args.inputs.now objects c.args.plans.now c.args.index (Link c.in-Err.error) c.failure_at.result (by_symbols c.index-objects-index.result c.in-Err.error there c.in-Err.ensures.exact) c.failure_at.ensures
