use Rattle.std.proofs.Common.{ℕ, ◌-◌, List, [], ◌∷◌, take}
use Rattle.elf_search.specs.Order.{before_of, edges_of, last_of}
use Rattle.elf_search.specs.Starts.{IsBetween, Visits, back_from}
use Rattle.elf_search.proofs.start.visit_list.Given as goal

abbrev pub invariant-loop-turn : goal.invariant-loop-turn
invariant-loop-turn l =
    (m : List ℕ) × IsBetween l.order.count l.cursors m l.number
    × ((m2 w2 : List ℕ) → Visits (edges_of l.order) l.order.count (back_from (before_of l.order) l.order.count (l.order.count - l.turn) l.object) m (take l.number l.written) m2 w2
    → Visits (edges_of l.order) l.order.count (back_from (before_of l.order) l.order.count l.order.count (last_of l.order)) (0 ∷ []) [] m2 w2)
