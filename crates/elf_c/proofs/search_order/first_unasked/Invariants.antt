use Rattle.std.proofs.Common.{◌≡◌, drop}
use Rattle.elf_c.specs.SearchOrder.{first_unasked}
use Rattle.elf_c.proofs.search_order.first_unasked.Given as goal

abbrev pub invariant-loop-number : goal.invariant-loop-number
invariant-loop-number l = first_unasked l.number (drop l.number l.dependencies) ≡ first_unasked 0 l.dependencies
