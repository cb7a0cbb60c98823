use Rattle.std.proofs.Common.{◌≡◌, Ok, codes}
use Rattle.elf_records.specs.declared.sections.ShType.TheVariants.{StrTab}
use Rattle.xmas_elf.specs.SectionHeader.{section_type}
use Rattle.xmas_elf.proofs.StringTables.{typed_data}
use Rattle.xmas_elf.proofs.ElfFile.strtab.Goals as goal

pub returns-in-Ok-StrTab-clause-table : goal.returns-in-Ok-StrTab-clause-table
returns-in-Ok-StrTab-clause-table c =
    let typed : section_type c.in-Some.section ≡ Ok StrTab = let answer = c.get_type.ensures in let is = c.in-Ok-StrTab.is in let kind = c.in-Ok-StrTab.field-0-is in cc in
    let lent = c.raw_data.ensures in
    typed_data c.args.self.now (codes ".strtab") StrTab c.in-Some.section c.raw_data.result typed c.in-Some.ensures.found lent.readable lent.range
