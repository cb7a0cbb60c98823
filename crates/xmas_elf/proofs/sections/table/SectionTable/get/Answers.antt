use Rattle.std.proofs.Common.{arith}
use Rattle.xmas_elf.specs.SectionHeader.{section_count_of}
use Rattle.xmas_elf.proofs.HeaderLists.{table-item}
use Rattle.xmas_elf.proofs.SectionLists.{sections}
use Rattle.xmas_elf.proofs.sections.table.SectionTable.get.Goals as goal

pub returns : goal.returns
returns c =
    let table = c.args.self.now in
    let laid = table.laid c.args.index (omega (arith, c.if-index-self.false)) in
    let item = table-item (sections table.file.now) (section_count_of table.file.now) c.args.index c.section_at_place.result in grind arith
