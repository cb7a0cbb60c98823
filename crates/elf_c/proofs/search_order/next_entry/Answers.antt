use Rattle.std.proofs.Common.{IfOk, subst, sym}
use Rattle.elf_c.specs.SearchOrder.{IsUnasked}
use Rattle.elf_c.proofs.SearchOrder.{answer_unasked}
use Rattle.elf_c.proofs.search_order.next_entry.Goals as goal

pub returns-then-are_needed-clause-unasked : goal.returns-then-are_needed-clause-unasked
returns-then-are_needed-clause-unasked c = subst (λ answer. IfOk answer (λ own. IsUnasked c.args.dependencies.now own.object own.entry)) (sym c.next_answer.ensures)
    (answer_unasked c.args.dependencies.now c.first_unasked.result (sym c.first_unasked.ensures))
