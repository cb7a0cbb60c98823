use Rattle.std.proofs.Common.{ℕ, ◌<◌}
use Rattle.xmas_elf.specs.SymbolTable.{table_symbols}
use Rattle.xmas_elf.specs.HashTable.{Held}
use Rattle.xmas_elf.proofs.hash.HashTable.holds_all.Given as goal

abbrev pub invariant-loop-index : goal.invariant-loop-index
invariant-loop-index g l =
    let all = table_symbols l.symbols in
    (i : ℕ) → i < l.index → Held l.self all i
