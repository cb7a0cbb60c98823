use Rattle.elfaddr.proofs.Printed.{lines_fault}
use Rattle.elfaddr.proofs.print.print_lines.Goals as goal

pub returns-in-Err : goal.returns-in-Err
returns-in-Err g c = rw c.fault_of.ensures (lines_fault c.args.path _ c.in-Err.stop c.in-Err.ensures)
