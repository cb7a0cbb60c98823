use Rattle.std.proofs.Common.{sym}
use Rattle.std.proofs.Math.ListN.{drop_of_length-le}
use Rattle.xmas_elf.specs.ProgramHeader.{program_list}
use Rattle.xmas_elf.proofs.HeaderLists.{item_before}
use Rattle.xmas_elf.proofs.program.table.ProgramTable.step.Goals as goal

pub returns-in_err-program : goal.returns-in_err-program
returns-in_err-program c = rw c.from_residual.ensures (drop_of_length-le (program_list c.args.self.now.file.now) c.in_err-program.ensures.value)

pub returns : goal.returns
returns c = item_before (program_list c.args.self.now.file.now) c.args.index c.in_ok-program.program (sym c.in_ok-program.ensures.item)
