use Rattle.std.proofs.Common.{◌≡◌, ◌≤◌}
use Rattle.elf_search.specs.Cache.{first_same, order_at}
use Rattle.elf_search.proofs.cache.Cache.first_same.Given as goal

abbrev pub invariant-loop-first : goal.invariant-loop-first
invariant-loop-first l = (first_same (order_at l.self l.name) l.found ≡ first_same (order_at l.self l.name) l.first) × (l.first ≤ l.found)

abbrev pub decreases-loop-first : goal.decreases-loop-first
decreases-loop-first l = l.first
