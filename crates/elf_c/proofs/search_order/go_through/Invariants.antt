use Rattle.std.proofs.Common.{◌≡◌, true}
use Rattle.elf_search.specs.Order.{IsPlainOrder}
use Rattle.elf_c.proofs.search_order.go_through.Given as goal

abbrev pub invariant-loop-turn : goal.invariant-loop-turn
invariant-loop-turn l = l.needed ≡ true → IsPlainOrder l.initial.order → IsPlainOrder l.order
