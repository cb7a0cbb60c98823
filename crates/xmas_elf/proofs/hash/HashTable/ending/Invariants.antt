use Rattle.std.proofs.Common.{ℕ, ◌<◌}
use Rattle.xmas_elf.specs.HashTable.{Reaches, chains_of}
use Rattle.xmas_elf.specs.SymbolTable.{table_symbols}
use Rattle.xmas_elf.proofs.hash.HashTable.ending.Given as goal

abbrev pub invariant-loop-index : goal.invariant-loop-index
invariant-loop-index g l = (i : ℕ) → i < l.index-counter → Reaches (chains_of l.self (table_symbols l.symbols).items) i 0
