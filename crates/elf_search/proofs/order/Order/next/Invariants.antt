use Rattle.std.proofs.Common.{◌≡◌, ◌-◌}
use Rattle.elf_search.specs.Order.{IsPlainOrder, KeepsLists}
use Rattle.elf_search.proofs.order.Order.next.Given as goal

abbrev pub invariant-objects : goal.invariant-objects
invariant-objects l = (IsPlainOrder l.fn.self → IsPlainOrder l.self × (l.self.place ≡ l.fn.self.place)) × KeepsLists l.fn.self l.self

abbrev pub decreases-objects : goal.decreases-objects
decreases-objects l = l.self.count - l.self.gone
