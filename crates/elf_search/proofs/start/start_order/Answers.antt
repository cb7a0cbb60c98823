use Rattle.std.proofs.Common.{arith}
use Rattle.elf_search.proofs.StartOrder.{needs_first}
use Rattle.elf_search.proofs.Starting.{program_marked, starts_front}
use Rattle.elf_search.proofs.start.start_order.Goals as goal

pub visit_list-requires-clause-program : goal.visit_list-requires-clause-program
visit_list-requires-clause-program c = program_marked c.args.order.now.count c.clear.new.cursors (omega (arith, c.args.order.now.current_in)) (omega arith) c.clear.ensures

pub returns-clause-starts : goal.returns-clause-starts
returns-clause-starts c = starts_front c.args.order.now c.visit_list.result c.visit_list.new.written _ (omega (arith, c.visit_list.ensures.few)) c.visit_list.ensures.starts

pub returns-clause-needs : goal.returns-clause-needs
returns-clause-needs c = needs_first c.args.order.now _ (starts_front c.args.order.now c.visit_list.result c.visit_list.new.written _ (omega (arith, c.visit_list.ensures.few)) c.visit_list.ensures.starts)
