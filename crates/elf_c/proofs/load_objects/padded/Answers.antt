use Rattle.std.proofs.Common.{◌<◌, length, arith}
use Rattle.std.proofs.lemmas.Option.{slice_get-get_or}
use Rattle.elf_c.proofs.LoadObjects.{padded_more, padded_none}
use Rattle.elf_c.proofs.load_objects.padded.Goals as goal

pub loop-index-init : goal.loop-index-init
loop-index-init c = padded_none c.args.loads.now _ (0, slice_get-get_or c.args.loads.now 0 _ c.requires.some)

pub loop-index-preserved : goal.loop-index-preserved
loop-index-preserved c =
    let below : c.loop-index.index < length c.args.loads.now = omega (arith, c.loop-index-test.true) in
    let long = c.loop-index.invariant.long in
    padded_more c.args.loads.now c.loop-index.all c.loop-index.index _ (let fit = c.requires.fit in omega (arith, below, long, fit))
    (slice_get-get_or c.args.loads.now c.loop-index.index _ below) c.loop-index.invariant
