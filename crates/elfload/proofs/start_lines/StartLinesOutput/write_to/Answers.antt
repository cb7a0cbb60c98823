use Rattle.std.proofs.Common.{refl}
use Rattle.elfload.proofs.start_lines.StartLinesOutput.write_to.Goals as goal

pub returns-in-Ok : goal.returns-in-Ok
returns-in-Ok g c = (_, refl, c.in-Ok.ensures)
