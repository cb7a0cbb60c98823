use Rattle.xmas_elf.proofs.NameBytes.{lies_as_name}
use Rattle.xmas_elf.proofs.ElfFile.get_shstr_bytes.Goals as goal

pub returns-clause-place : goal.returns-clause-place
returns-clause-place c =
    lies_as_name c.args.self.now c.args.index c.in_ok-name_table.field-0 c.bytes_up_to_zero.result c.in_ok-name_table.ensures.place c.bytes_up_to_zero.ensures.place
