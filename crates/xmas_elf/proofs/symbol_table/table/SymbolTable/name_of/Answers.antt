use Rattle.xmas_elf.proofs.NameBytes.{text_of_name}
use Rattle.xmas_elf.proofs.symbol_table.table.SymbolTable.name_of.Goals as goal

pub returns-in-Bytes-clause-text : goal.returns-in-Bytes-clause-text
returns-in-Bytes-clause-text g c =
    rw (← c.args.self.now.text.1, c.in-Bytes.is, ← c.name-in-Bytes.ensures) (text_of_name c.in-Bytes.strings.now c.name-in-Bytes.result c.text_at.result c.text_at.ensures.exact)
