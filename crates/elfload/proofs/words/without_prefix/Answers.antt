use Rattle.elfload.proofs.Prefixes.{without_none, without_some}
use Rattle.elfload.proofs.words.without_prefix.Goals as goal

pub returns-in-Some : goal.returns-in-Some
returns-in-Some c = without_some c.args.prefix.now c.args.text.now c.in-Some.rest.now c.in-Some.ensures.cases

pub returns-in-None : goal.returns-in-None
returns-in-None c = without_none c.args.prefix.now c.args.text.now c.in-None.ensures.cases
