use Rattle.std.proofs.Common.{◌≡◌, ◌∙◌, true, false, sym, ap, arith}
use Rattle.std.proofs.lemmas.Grind.{common_steps}
use Rattle.elf_search.specs.Cache.{is_last, order_at, usage_of}
use Rattle.elf_search.proofs.CacheRuns.{best_inside, used_more}
use Rattle.elf_search.proofs.cache.Cache.used_from.Goals as goal

pub loop-index-preserved : goal.loop-index-preserved
loop-index-preserved c =
    let same : c.is_same.result ≡ true = first_of (cc, grind (arith, common_steps)) in
    let what = c.usage-usage.ensures in
    let last : is_last c.loop-index.best (usage_of c.args.self.now c.args.machine.now c.loop-index.index) ≡ false = ap (λ u. is_last c.loop-index.best u) (sym what) ∙ sym c.is_last.ensures ∙ c.if-is_last.false in (
      rw (c.next_best-best.ensures, what) (c.loop-index.invariant.0 ∙ used_more (usage_of c.args.self.now c.args.machine.now) (order_at c.args.self.now c.args.name.now) c.args.self.now.count c.loop-index.best c.loop-index.index (omega arith) (sym c.is_same.ensures ∙ same) last),
      rw c.next_best-best.ensures (best_inside c.loop-index.best c.loop-index.index c.args.self.now.count c.usage-usage.result (omega arith) c.loop-index.invariant.1),
    )
