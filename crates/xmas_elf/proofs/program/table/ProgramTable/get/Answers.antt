use Rattle.std.proofs.Common.{arith}
use Rattle.xmas_elf.specs.SectionHeader.{program_count_of}
use Rattle.xmas_elf.proofs.HeaderLists.{table-item}
use Rattle.xmas_elf.proofs.ProgramLists.{programs}
use Rattle.xmas_elf.proofs.program.table.ProgramTable.get.Goals as goal

pub returns : goal.returns
returns c =
    let table = c.args.self.now in
    let laid = table.laid c.args.index (omega (arith, c.if-index-self.false)) in
    let item = table-item (programs table.file.now) (program_count_of table.file.now) c.args.index c.program_at_place.result in grind arith
