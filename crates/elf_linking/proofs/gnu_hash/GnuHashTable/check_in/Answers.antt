use Rattle.elf_linking.specs.GnuHash.{good, faulty, missing}
use Rattle.xmas_elf.specs.SymbolTable.{table_symbols}
use Rattle.elf_linking.proofs.GnuChecks.{good_is_ok, ok_is_good}
use Rattle.elf_linking.proofs.gnu_hash.GnuHashTable.check_in.Goals as goal

pub returns-in-Ok-clause-exact : goal.returns-in-Ok-clause-exact
returns-in-Ok-clause-exact g c = good (record { buckets = c.in-Ok.ensures; holds = c.holds_all.ensures.yes c.if-holds_all.true })

pub returns-in-Ok-2-clause-exact : goal.returns-in-Ok-2-clause-exact
returns-in-Ok-2-clause-exact g c =
    let (i, e, name, exported, lost) = c.holds_all.ensures.no c.if-holds_all.false in
    missing i e name c.in-Ok.ensures exported lost

pub returns-in-Err-clause-exact : goal.returns-in-Err-clause-exact
returns-in-Err-clause-exact g c =
    let (k, below, before, fault) = c.in-Err.ensures in
    faulty k c.in-Err.fault below before fault

pub returns-in-Err-clause-accepts : goal.returns-in-Err-clause-accepts
returns-in-Err-clause-accepts g c =
    let all = table_symbols c.args.symbols.now in
    (ok_is_good c.args.self.now all _ (returns-in-Err-clause-exact g c), good_is_ok c.args.self.now all _ (returns-in-Err-clause-exact g c))
