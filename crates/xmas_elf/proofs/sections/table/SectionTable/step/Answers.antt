use Rattle.std.proofs.Common.{sym}
use Rattle.std.proofs.Math.ListN.{drop_of_length-le}
use Rattle.xmas_elf.specs.SectionHeader.{section_list}
use Rattle.xmas_elf.proofs.HeaderLists.{item_before}
use Rattle.xmas_elf.proofs.sections.table.SectionTable.step.Goals as goal

pub returns-in_err-section : goal.returns-in_err-section
returns-in_err-section c = rw c.from_residual.ensures (drop_of_length-le (section_list c.args.self.now.file.now) c.in_err-section.ensures.value)

pub returns : goal.returns
returns c = item_before (section_list c.args.self.now.file.now) c.args.index c.in_ok-section.section (sym c.in_ok-section.ensures.item)
