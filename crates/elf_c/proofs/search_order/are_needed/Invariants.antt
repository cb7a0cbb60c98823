use Rattle.std.proofs.Common.{◌≡◌, drop}
use Rattle.elf_c.proofs.SearchOrder.{has_other}
use Rattle.elf_c.proofs.search_order.are_needed.Given as goal

abbrev pub invariant-loop-number : goal.invariant-loop-number
invariant-loop-number l = has_other (drop l.number l.dependencies) ≡ has_other l.dependencies
