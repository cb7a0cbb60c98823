use Rattle.std.proofs.Common.{sym, ◌∙◌}
use Rattle.elfload.specs.Ends.{narrow, wide}
use Rattle.elfload.proofs.WordsEnds.{words_end_of}
use Rattle.elfload.proofs.printing.print_words.Goals as goal
use Rattle.xmas_elf.specs.Symbol.{dyn_entry_32_fields, dyn_entry_64_fields}

pub returns-then-is_first_narrow : goal.returns-then-is_first_narrow
returns-then-is_first_narrow g c = narrow (sym c.is_first_narrow.ensures ∙ c.if-is_first_narrow.true)
    (words_end_of _ dyn_entry_32_fields 1 16 c.args.asked c.args.inputs.now c.print.result c.ended.result c.print.ensures.checked c.print.ensures.stopped c.ended.ensures)

pub returns-else-is_first_narrow : goal.returns-else-is_first_narrow
returns-else-is_first_narrow g c = wide (sym c.is_first_narrow.ensures ∙ c.if-is_first_narrow.false)
    (words_end_of _ dyn_entry_64_fields 2 24 c.args.asked c.args.inputs.now c.print-else-is_first_narrow.result c.ended-else-is_first_narrow.result c.print-else-is_first_narrow.ensures.checked c.print-else-is_first_narrow.ensures.stopped c.ended-else-is_first_narrow.ensures)
