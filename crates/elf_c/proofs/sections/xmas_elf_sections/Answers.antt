use Rattle.std.proofs.Common.{◌∙◌, subst}
use Rattle.elf_c.specs.Batch.{Fills}
use Rattle.elf_c.specs.Records.{record_in, section_record}
use Rattle.elf_c.proofs.sections.xmas_elf_sections.Goals as goal
use Rattle.xmas_elf.specs.SectionHeader.{section_list}
use Rattle.xmas_elf.specs.Types.{ElfFile}

pub returns : goal.returns
returns c = (
  c.fill.result,
  subst (λ (file : ElfFile). Fills (record_in section_record (section_list file)) c.args.first c.args.out.now c.fill.result c.fill.new.out)
      (c.section_table.ensures.file ∙ c.file-file.ensures) c.fill.ensures,
  c.give.ensures,
)
