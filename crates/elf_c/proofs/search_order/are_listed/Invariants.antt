use Rattle.elf_search.specs.Order.{edges_of}
use Rattle.elf_c.specs.SearchOrder.{AreListed}
use Rattle.elf_c.proofs.search_order.are_listed.Given as goal

abbrev pub invariant-loop-number : goal.invariant-loop-number
invariant-loop-number l = AreListed (edges_of l.order) l.dependencies l.number
