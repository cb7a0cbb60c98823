use Rattle.xmas_elf.proofs.HeaderLists.{header_list-longest, length-table, table-laid}
use Rattle.xmas_elf.proofs.SectionLists.{sections}
use Rattle.xmas_elf.proofs.ElfFile.section_table.Goals as goal

pub invariant_of-result-clause-counted : goal.invariant_of-result-clause-counted
invariant_of-result-clause-counted c =
    let whole = c.whole_sections.ensures in length-table (sections c.args.self.now) _ _ whole.few whole.each whole.most

pub invariant_of-result-clause-laid : goal.invariant_of-result-clause-laid
invariant_of-result-clause-laid c =
    rw (c.sh_offset.ensures, c.from.ensures, c.sh_entry_size.ensures, c.raw.ensures, c.byte_order.ensures)
    (table-laid (sections c.args.self.now) _ c.whole_sections.ensures.each)

pub returns-clause-longest : goal.returns-clause-longest
returns-clause-longest c = header_list-longest _ _
