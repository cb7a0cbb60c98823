use Rattle.elfsize.proofs.difference.compare_paths.Goals as goal

pub returns : goal.returns
returns g c =
    let (end, ended, status_is) = c.run_difference.ensures.ends in
    (end, (_, _, ended), status_is)
