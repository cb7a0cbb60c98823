use Rattle.std.proofs.Common.{refl}
use Rattle.elfsize.proofs.run_on_path.Goals as goal

pub returns : goal.returns
returns g c =
    let (end, ended, status_is, sums_are) = c.run-status.ensures.ends in
    (end, (c.args.path, refl, _, ended), status_is, sums_are)
