use Rattle.std.proofs.Common.{below_more}
use Rattle.elfload.specs.Images.{IsChecked}
use Rattle.elfload.proofs.images.check_images.Goals as goal
use Rattle.program_ends.proofs.Ends.{stop_so}

pub loop-index-preserved : goal.loop-index-preserved
loop-index-preserved g c =
    below_more (IsChecked g.E.Record.SIZE g.E.Entry.fields c.args.objects.now c.args.plans.now) c.loop-index.index c.loop-index.invariant c.in-Ok.ensures

pub returns-in-Err : goal.returns-in-Err
returns-in-Err g c = stop_so _ _ _ _ _ _ c.in-Err.stop (λ failed told. record { index = c.loop-index.index; before = c.loop-index.invariant; why = told })
    (λ never. never) (λ short. short) c.in-Err.ensures
