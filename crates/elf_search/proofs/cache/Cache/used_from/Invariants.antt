use Rattle.std.proofs.Common.{◌≡◌, ◌-◌, ◌<◌, None, IfSome}
use Rattle.elf_search.specs.Cache.{order_at, run_from, usage_of, used_after}
use Rattle.elf_search.proofs.cache.Cache.used_from.Given as goal

abbrev pub invariant-loop-index : goal.invariant-loop-index
invariant-loop-index l =
    (used_after (usage_of l.self l.machine) None (run_from (order_at l.self l.name) (l.self.count - l.first) l.first)
    ≡ used_after (usage_of l.self l.machine) l.best (run_from (order_at l.self l.name) (l.self.count - l.index) l.index))
    × IfSome l.best (λ entry. entry.0 < l.self.count)
