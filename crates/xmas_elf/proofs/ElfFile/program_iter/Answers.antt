use Rattle.std.proofs.Common.{arith}
use Rattle.xmas_elf.proofs.HeaderLists.{header_list-longest}
use Rattle.xmas_elf.proofs.ProgramLists.{program_list-fits}
use Rattle.xmas_elf.proofs.ElfFile.program_iter.Goals as goal

pub returns-clause-longest : goal.returns-clause-longest
returns-clause-longest c = header_list-longest _ _

pub returns-clause-room : goal.returns-clause-room
returns-clause-room c = program_list-fits c.args.self.now

pub returns-clause-fits : goal.returns-clause-fits
returns-clause-fits c = let room = program_list-fits c.args.self.now in omega (arith, room, c.if-prove.false)
