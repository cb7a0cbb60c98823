use Rattle.std.proofs.Common.{sym, ◌∙◌}
use Rattle.xmas_elf.proofs.ChainLinks.{linked_to}
use Rattle.xmas_elf.proofs.hash.check.lent.is_linked.Goals as goal

pub returns : goal.returns
returns c = λ yes. linked_to c.args.words.now c.args.index c.linked.result c.linked.ensures (sym c.is_some.ensures ∙ yes)
