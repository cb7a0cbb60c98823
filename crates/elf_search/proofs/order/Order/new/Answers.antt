use Rattle.std.proofs.Common.{refl}
use Rattle.elf_search.proofs.LoadOrders.{plain_first}
use Rattle.elf_search.proofs.order.Order.new.Goals as goal

pub returns-clause-plain : goal.returns-clause-plain
returns-clause-plain c = record { plain = refl; gone = refl; words = plain_first _ _ _ c.write_object.ensures.start }
