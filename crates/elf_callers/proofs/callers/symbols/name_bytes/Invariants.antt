use Rattle.elf_callers.proofs.Totals.{HasAdded}
use Rattle.elf_callers.specs.Names.{HasText, text_length}
use Rattle.xmas_elf.specs.Symbols.{symbols_of}
use Rattle.xmas_elf.specs.Table.{table_items, table_rest}
use Rattle.elf_callers.proofs.callers.symbols.name_bytes.Given as goal

-- the names so far are added
abbrev pub invariant-loop-symbol : goal.invariant-loop-symbol
invariant-loop-symbol g l = let all = symbols_of g.E.Entry.fields g.E.Entry.text_in l.fn.symbols l.fn.file in
    HasAdded (HasText all) (λ symbol. text_length (all.text symbol)) all.items (table_items (table_rest l.symbol-iterator)) l.total
