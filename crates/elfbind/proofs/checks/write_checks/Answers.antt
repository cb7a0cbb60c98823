use Rattle.std.proofs.Common.{◌+◌, Bool, take, subst, sym}
use Rattle.elfbind.specs.Checks.{IsCheckLine}
use Rattle.elfbind.specs.Files.{AreWritten}
use Rattle.program_ends.specs.Appended.{AppendsSome}
use Rattle.elfbind.proofs.Steps.{none_written, one_more}
use Rattle.elfbind.proofs.Stops.{of_some}
use Rattle.elfbind.proofs.checks.write_checks.Goals as goal

pub loop-index-init : goal.loop-index-init
loop-index-init g c = none_written (IsCheckLine c.args.form g.E.Entry.fields c.args.inputs.now) _

pub loop-index-preserved : goal.loop-index-preserved
loop-index-preserved g c =
    let objects = c.args.objects.now in
    let Is = IsCheckLine c.args.form g.E.Entry.fields c.args.inputs.now in
    subst (λ (wrong : Bool). AppendsSome (AreWritten Is (take (c.loop-index.index + 1) objects) wrong) (g.W.Write.contents c.args.out.now) (g.W.Write.contents c.write_check.new.out)) (sym c.either-failing.ensures)
    (one_more Is objects c.loop-index.index c.loop-index.failing c.in-Ok.other _ _ _ c.loop-index.invariant c.in-Ok.ensures)

pub returns-in-Err : goal.returns-in-Err
returns-in-Err g c = of_some _ _ c.in-Err.ensures
