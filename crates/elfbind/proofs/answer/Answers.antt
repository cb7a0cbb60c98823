use Rattle.std.proofs.Common.{sym, ◌∙◌}
use Rattle.elfbind.specs.Answers.{narrow, wide}
use Rattle.elfbind.proofs.Ends.{end_of}
use Rattle.elfbind.proofs.answer.Goals as goal
use Rattle.xmas_elf.specs.Symbol.{dyn_entry_32_fields, dyn_entry_64_fields}

pub returns-then-is_first_narrow-clause-end : goal.returns-then-is_first_narrow-clause-end
returns-then-is_first_narrow-clause-end g c = narrow (sym c.is_first_narrow.ensures ∙ c.if-is_first_narrow.true)
    (end_of _ dyn_entry_32_fields 1 16 c.args.inputs.now c.args.question c.print.result _ c.ended.result c.print.ensures.written
    (λ back written. (written.0, written.1, written.2.0, written.2.1)) c.print.ensures.stopped c.ended.ensures)

pub returns-else-is_first_narrow-clause-end : goal.returns-else-is_first_narrow-clause-end
returns-else-is_first_narrow-clause-end g c = wide (sym c.is_first_narrow.ensures ∙ c.if-is_first_narrow.false)
    (end_of _ dyn_entry_64_fields 2 24 c.args.inputs.now c.args.question c.print-else-is_first_narrow.result _ c.ended-else-is_first_narrow.result c.print-else-is_first_narrow.ensures.written
    (λ back written. (written.0, written.1, written.2.0, written.2.1)) c.print-else-is_first_narrow.ensures.stopped c.ended-else-is_first_narrow.ensures)
