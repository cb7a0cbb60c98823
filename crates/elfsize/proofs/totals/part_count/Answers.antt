use Rattle.std.proofs.Common.{get_or}
use Rattle.std.proofs.lemmas.List.{get_or_default}
use Rattle.elfsize.specs.declared.totals.Run.{Run}
use Rattle.elfsize.proofs.Sizes.{count_step}
use Rattle.elfsize.proofs.totals.part_count.Goals as goal

pub loop-run-preserved : goal.loop-run-preserved
loop-run-preserved c =
    let runs = c.args.runs.now in
    let index = c.loop-run.run-index in
    let none : Run = record { part = 0; size = 0 } in
    let item = get_or runs index none in
    count_step runs index item c.loop-run-test.true (get_or_default runs index none item c.loop-run-test.true) c.loop-run.count c.count_with-count.result c.count_with-count.ensures.grows c.count_with-count.ensures.above c.loop-run.invariant
