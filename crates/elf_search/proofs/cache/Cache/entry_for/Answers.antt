use Rattle.std.proofs.Common.{◌∙◌, None, Some}
use Rattle.elf_search.proofs.CacheSearch.{good_look_up}
use Rattle.elf_search.proofs.cache.Cache.entry_for.Goals as goal

pub returns-in_err-found-clause-checked : goal.returns-in_err-found-clause-checked
returns-in_err-found-clause-checked c = λ good.
    rw c.from_residual.ensures (good_look_up c.args.self.now c.args.machine.now c.args.name.now None good c.in_err-found.ensures.searches)

pub returns-clause-checked : goal.returns-clause-checked
returns-clause-checked c = λ good.
    c.used_from.ensures.value
    ∙ rw c.first_same.ensures.value (good_look_up c.args.self.now c.args.machine.now c.args.name.now (Some c.in_ok-found.found) good c.in_ok-found.ensures.searches)
