use Rattle.xmas_elf.proofs.SymbolNames.{compared_bytes}
use Rattle.xmas_elf.proofs.symbol_table.table.SymbolTable.has_key.Goals as goal

pub returns-in-Bytes : goal.returns-in-Bytes
returns-in-Bytes g c =
    rw (← c.args.self.now.text.1, c.in-Bytes.is, ← c.name.ensures) (compared_bytes c.in-Bytes.strings.now c.name.result c.args.name.now c.has_bytes_at.result c.has_bytes_at.ensures)
