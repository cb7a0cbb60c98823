use Rattle.elf_addresses.proofs.Known.{lent_item, lent_nothing}
use Rattle.elf_addresses.proofs.index.ask.index_at.Goals as goal

pub returns-in-Some : goal.returns-in-Some
returns-in-Some c = lent_item c.args.words.now c.args.place c.get.result c.in-Some.word c.get.ensures.lookup c.in-Some.is

pub returns-in-None : goal.returns-in-None
returns-in-None c = lent_nothing c.args.words.now c.args.place c.get.result c.get.ensures.lookup c.in-None.is
