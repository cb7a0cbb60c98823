use Rattle.xmas_elf.proofs.ChainChecks.{ok_is_good}
use Rattle.xmas_elf.proofs.hash.HashTable.check_in_with.Goals as goal

pub returns-clause-accepts : goal.returns-clause-accepts
returns-clause-accepts g c = ok_is_good c.args.self.now _ _ c.verdict.ensures
