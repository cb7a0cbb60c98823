use Rattle.elf_search.specs.Order.{edges_of}
use Rattle.elf_search.proofs.Starting.{visit_none}
use Rattle.elf_search.proofs.start.visit_if_new.Goals as goal

pub returns-then-cursors-root : goal.returns-then-cursors-root
returns-then-cursors-root c = λ m0 state.
    visit_none (edges_of c.args.order.now) c.args.order.now.count c.args.root c.args.from m0 c.args.cursors.now c.args.written.now c.requires.root c.if-cursors-root.true state
