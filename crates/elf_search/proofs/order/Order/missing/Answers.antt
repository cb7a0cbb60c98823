use Rattle.std.proofs.Common.{inl, refl, arith}
use Rattle.elf_search.proofs.PlainOrders.{plain_records}
use Rattle.elf_search.proofs.order.Order.missing.Goals as goal

pub returns-clause-plain : goal.returns-clause-plain
returns-clause-plain c = λ plain.
    plain_records c.args.self.now c.record.new.self 4294967295 (omega arith) (inl refl) c.record.ensures.edge c.record.ensures.step c.record.ensures.same plain
