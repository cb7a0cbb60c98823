use Rattle.std.proofs.lemmas.Result.{err_from_is_err_and}
use Rattle.elf_search.specs.Cache.{entry_check}
use Rattle.elf_search.proofs.CacheChecks.{first_failed}
use Rattle.elf_search.proofs.cache.Cache.check_entries.Goals as goal

pub returns-in_err-check_entry : goal.returns-in_err-check_entry
returns-in_err-check_entry c =
    let p = err_from_is_err_and c.from_residual.result c.from_residual.ensures.1 in
    rw (p.1, p.2) (first_failed (entry_check c.args.self.now) c.args.self.now.count c.loop-index.index _ c.loop-index-test.true c.loop-index.invariant c.in_err-check_entry.ensures)
