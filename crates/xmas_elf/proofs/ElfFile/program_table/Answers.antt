use Rattle.xmas_elf.proofs.HeaderLists.{header_list-longest, length-table, table-laid}
use Rattle.xmas_elf.proofs.ProgramLists.{programs}
use Rattle.xmas_elf.proofs.ElfFile.program_table.Goals as goal

pub invariant_of-result-clause-counted : goal.invariant_of-result-clause-counted
invariant_of-result-clause-counted c =
    let whole = c.whole_program_headers.ensures in length-table (programs c.args.self.now) _ _ whole.few whole.each whole.most

pub invariant_of-result-clause-laid : goal.invariant_of-result-clause-laid
invariant_of-result-clause-laid c =
    rw (c.ph_offset.ensures, c.from.ensures, c.ph_entry_size.ensures, c.raw.ensures, c.byte_order.ensures)
    (table-laid (programs c.args.self.now) _ c.whole_program_headers.ensures.each)

pub returns-clause-longest : goal.returns-clause-longest
returns-clause-longest c = header_list-longest _ _
