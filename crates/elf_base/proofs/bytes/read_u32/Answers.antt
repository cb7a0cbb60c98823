use Rattle.std.proofs.Common.{◌∙◌}
use Rattle.elf_base.proofs.Numbers.{number-little, number-big}
use Rattle.elf_base.proofs.bytes.read_u32.Goals as goal

pub returns-in-Little : goal.returns-in-Little
returns-in-Little c =
    rw c.in-Little.is (c.read_u32.ensures ∙ number-little 4 c.args.place c.args.bytes.now)

pub returns-in-Big : goal.returns-in-Big
returns-in-Big c =
    rw c.in-Big.is (c.read_u32-in-Big.ensures ∙ number-big 4 c.args.place c.args.bytes.now)
