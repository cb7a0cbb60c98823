use Rattle.std.proofs.Common.{◌≢◌, ◌∙◌}
use Rattle.xmas_elf.proofs.SymbolSections.{has_own_index}
use Rattle.xmas_elf.proofs.symbol_table.entry.Entry.get_section_header.Goals as goal

pub returns-then-index-3-clause-value : goal.returns-then-index-3-clause-value
returns-then-index-3-clause-value g c =
    let symbol = g.Self.Entry.fields c.args.self.now in
    let defined : symbol.shndx ≢ 0 = λ none. c.if-index-eq-SHN_UNDEF.false (c.shndx-index.ensures ∙ none) in
    has_own_index c.args.file.now symbol c.args.self_index c.section_header.result defined (rw c.shndx-index.ensures at c.section_header.ensures.exact)
