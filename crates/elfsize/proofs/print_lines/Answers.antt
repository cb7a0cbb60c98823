use Rattle.elfsize.proofs.Compared.{lines_failed}
use Rattle.elfsize.proofs.print_lines.Goals as goal

pub returns : goal.returns
returns g c =
    lines_failed c.args.options c.args.path g.R.Read.remaining c.args.file c.in-Some.input.items c.deref.result c.in-Err.fault c.in-Some.ensures c.deref.ensures.value c.in-Err.ensures
