use Rattle.std.proofs.Common.{inr, arith}
use Rattle.elf_search.proofs.PlainOrders.{plain_records}
use Rattle.elf_search.proofs.order.Order.found.Goals as goal

pub returns-clause-plain : goal.returns-clause-plain
returns-clause-plain c = λ plain.
    plain_records c.args.self.now c.record.new.self c.args.number (omega arith) (inr (omega arith)) c.record.ensures.edge c.record.ensures.step c.record.ensures.same plain
