use Rattle.std.proofs.Common.{arith}
use Rattle.elf_search.proofs.PlainOrders.{plain_adds}
use Rattle.elf_search.proofs.order.Order.add.Goals as goal

pub returns-clause-plain : goal.returns-clause-plain
returns-clause-plain c = λ plain.
    plain_adds c.args.self.now c.grow.new.self c.record.new.self _ (omega arith) (omega arith) (omega arith) c.grow.ensures.words c.grow.ensures.new c.grow.ensures.count c.grow.ensures.used c.grow.ensures.same c.record.ensures.edge c.record.ensures.step c.record.ensures.same plain
