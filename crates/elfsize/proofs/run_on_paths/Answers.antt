use Rattle.std.proofs.Common.{arith, refl}
use Rattle.elfsize.specs.Ends.{few, summed, unwritten}
use Rattle.elfsize.proofs.run_on_paths.Goals as goal

pub returns-then-paths-lt2 : goal.returns-then-paths-lt2
returns-then-paths-lt2 g c = few c.run_on_each-status.result.1 (omega (arith, c.if-paths-lt2.true)) c.run_on_each-status.ensures

pub returns-in-Ok : goal.returns-in-Ok
returns-in-Ok g c = summed c.run_on_each-status.result.1 c.run_on_each-status.new.out (omega (arith, c.if-paths-lt2.false)) c.run_on_each-status.ensures c.in-Ok.ensures

pub returns-in-Err : goal.returns-in-Err
returns-in-Err g c = unwritten c.run_on_each-status.result.0 c.run_on_each-status.result.1 (omega (arith, c.if-paths-lt2.false)) c.run_on_each-status.ensures refl

pub returns-in-Err-2 : goal.returns-in-Err-2
returns-in-Err-2 g c = unwritten c.run_on_each-status.result.0 c.run_on_each-status.result.1 (omega (arith, c.if-paths-lt2.false)) c.run_on_each-status.ensures c.say.ensures
