use Rattle.std.proofs.Common.{subst, sym}
use Rattle.elfsize.proofs.Compared.{pair_found, stop_fault}
use Rattle.elfsize.proofs.difference.print_inputs.Goals as goal
use Rattle.elfsize.specs.Differences.{IsPairFault}

pub returns-in-Ok-write_buffered : goal.returns-in-Ok-write_buffered
returns-in-Ok-write_buffered g c =
    pair_found c.args.comparison.now.options c.args.old c.args.new c.in-Ok-side_of.side c.in-Ok-side_of-2.side _ _ c.in-Ok-side_of.ensures c.in-Ok-side_of-2.ensures c.in-Ok-write_buffered.ensures

pub returns : goal.returns
returns g c =
    subst (IsPairFault c.args.comparison.now c.args.old c.args.new) (sym c.fault_of-in-Err-write_buffered.ensures)
    (stop_fault c.args.comparison.now c.args.old c.args.new c.in-Ok-side_of.side c.in-Ok-side_of-2.side _ c.in-Err-write_buffered.stop c.in-Ok-side_of.ensures c.in-Ok-side_of-2.ensures c.in-Err-write_buffered.ensures)
