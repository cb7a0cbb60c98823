use Rattle.std.proofs.Common.{ℕ, ◌+◌, ◌-◌, ◌*◌, ◌<◌, ◌≤◌, List, length, get_or, take}
use Rattle.elf_search.specs.Order.{edges_of}
use Rattle.elf_search.specs.Starts.{IsBetween}
use Rattle.elf_search.proofs.Starting.{IsVisit}
use Rattle.elf_search.proofs.start.visit.Given as goal

abbrev pub invariant-visit : goal.invariant-visit
invariant-visit l =
    ((m0 : List ℕ) → IsBetween l.order.count l.fn.cursors m0 l.from
    → IsVisit (edges_of l.order) l.order.count l.root m0 (take l.from l.fn.written) l.top l.number l.depth l.parents l.cursors l.written)
    × (l.top < l.order.count) × (l.number + l.depth + 2 ≤ l.order.count)

abbrev pub decreases-visit : goal.decreases-visit
decreases-visit l =
    (l.order.used + 1) * (2 * l.order.count - 2 * l.number - l.depth) + (length (edges_of l.order l.top) - get_or l.cursors l.top 0)
