use Rattle.std.proofs.Common.{subst, sym}
use Rattle.elfsize.specs.Ends.{IsFault}
use Rattle.elfsize.specs.Sides.{IsInputError, IsInputThere}
use Rattle.elfsize.proofs.Inputs.{stopped, text_found}
use Rattle.elfsize.proofs.print_input.Goals as goal

pub returns-in-Ok-write_buffered : goal.returns-in-Ok-write_buffered
returns-in-Ok-write_buffered g c =
    (text_found c.args.options c.args.path.now c.args.input c.in-Ok-side_of.side _ _ c.in-Ok-side_of.ensures c.in-Ok-write_buffered.ensures, c.in-Ok.ensures)

pub returns : goal.returns
returns g c =
    subst (IsFault c.args.path (IsInputError c.args.options c.args.input) (IsInputThere c.args.options c.args.input)) (sym c.fault_of-in-Err-write_buffered.ensures)
    (stopped c.args.options c.args.path c.args.input c.in-Ok-side_of.side _ c.in-Err-write_buffered.stop c.in-Ok-side_of.ensures c.in-Err-write_buffered.ensures)
