use Rattle.std.proofs.Common.{◌≡◌, ◌%◌, refl, sym, subst, arith}
use Rattle.std.proofs.lemmas.Result.{err_from_is_err_and}
use Rattle.elf_linking.specs.GnuCount.{ended, failed, too_long}
use Rattle.elf_linking.proofs.gnu_hash.GnuHashTable.run_end.Goals as goal

pub returns-then-word-eq1-clause-exact : goal.returns-then-word-eq1-clause-exact
returns-then-word-eq1-clause-exact c =
    (c.loop-index.index, c.loop-index.invariant, ended (omega arith) (c.in_ok-word.ensures.readable.0 refl) (subst (λ x. x % 2 ≡ 1) c.in_ok-word.ensures.value c.if-word-eq1.true))

pub returns-in_err-word-clause-exact : goal.returns-in_err-word-clause-exact
returns-in_err-word-clause-exact c =
    let p = err_from_is_err_and c.from_residual.result c.from_residual.ensures.1 in
    rw (p.1, p.2) (c.loop-index.index, c.loop-index.invariant, failed _ (omega arith) (sym c.in_err-word.ensures.exact))

pub returns-clause-exact : goal.returns-clause-exact
returns-clause-exact c = (c.loop-index.index, c.loop-index.invariant, too_long (omega arith))
