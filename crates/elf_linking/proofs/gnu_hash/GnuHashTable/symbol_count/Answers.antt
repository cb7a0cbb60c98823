use Rattle.std.proofs.Common.{◌≡◌, Ok, sym, subst, arith}
use Rattle.elf_linking.specs.GnuCount.{IsGnuCount, IsLastRun, counted, no_run}
use Rattle.elf_linking.specs.GnuHash.{first_symbol_of}
use Rattle.elf_linking.proofs.GnuCounts.{count_above}
use Rattle.elf_linking.proofs.gnu_hash.GnuHashTable.symbol_count.Goals as goal

pub returns-in-0 : goal.returns-in-0
returns-in-0 c =
    let first : c.from.result ≡ first_symbol_of c.args.self.now = cc in
    let exact = subst (λ n. IsGnuCount c.args.self.now (Ok n)) (sym first) (no_run (subst (λ n. IsLastRun c.args.self.now n) c.in-0.is c.last_run.ensures)) in
    record { exact = exact; above = count_above c.args.self.now _ exact; bound = omega arith }

pub returns-in_default : goal.returns-in_default
returns-in_default c =
    let (last, goes, stop) = c.run_end.ensures.exact in
    let exact = counted c.last_run.result last c.run_end.result (omega arith) c.last_run.ensures goes stop in
    record { exact = exact; above = count_above c.args.self.now _ exact; bound = c.run_end.ensures.bound }
