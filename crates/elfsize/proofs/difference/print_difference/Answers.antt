use Rattle.elfsize.proofs.Compared.{difference_failed}
use Rattle.elfsize.proofs.difference.print_difference.Goals as goal

pub returns : goal.returns
returns g c =
    difference_failed c.args.comparison.now g.R.Read.remaining c.args.old c.args.new c.in-Some.old_input.items c.in-Some-read_shown.new_input.items c.deref-old_bytes.result c.deref-new_bytes.result c.in-Err.fault
    c.in-Some.ensures c.in-Some-read_shown.ensures c.deref-old_bytes.ensures.value c.deref-new_bytes.ensures.value c.in-Err.ensures
