use Rattle.std.proofs.Common.{rules, ◌≡◌, Some}
use Rattle.elf_callers.proofs.Totals.{has_added_one}
use Rattle.elf_callers.specs.Names.{HasText, text_length}
use Rattle.xmas_elf.specs.Symbols.{symbols_of}
use Rattle.elf_callers.proofs.callers.symbols.name_bytes.Goals as goal

pub loop-symbol-preserved : goal.loop-symbol-preserved
loop-symbol-preserved g c =
    let all = symbols_of g.E.Entry.fields g.E.Entry.text_in c.args.symbols c.args.file.now in
    let named : all.text c.in-Some.symbol ≡ Some c.in_ok-name_of.field-0.now = search rules in
    has_added_one (HasText all) (λ symbol. text_length (all.text symbol)) _ _ _ c.in-Some.symbol c.loop-symbol.total _ c.in-Some.ensures.steps (search rules) (search rules) c.loop-symbol.invariant
