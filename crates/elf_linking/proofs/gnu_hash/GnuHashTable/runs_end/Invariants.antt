use Rattle.xmas_elf.specs.SymbolTable.{table_symbols}
use Rattle.elf_linking.proofs.Scans.{Scanned}
use Rattle.elf_linking.proofs.gnu_hash.GnuHashTable.runs_end.Given as goal

abbrev pub invariant-loop-index : goal.invariant-loop-index
invariant-loop-index g l = Scanned l.self (table_symbols l.symbols).items l.end l.index
