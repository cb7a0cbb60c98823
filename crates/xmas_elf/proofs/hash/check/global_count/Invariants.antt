use Rattle.std.proofs.Common.{◌≤◌}
use Rattle.xmas_elf.specs.Counted.{IsCount}
use Rattle.xmas_elf.specs.SymbolTable.{table_symbols}
use Rattle.xmas_elf.proofs.ChainCounts.{MustBelow}
use Rattle.xmas_elf.proofs.hash.check.global_count.Given as goal

abbrev pub invariant-loop-index : goal.invariant-loop-index
invariant-loop-index g l =
    let all = table_symbols l.symbols in
    record { few : l.count ≤ l.index; count : IsCount (MustBelow all l.index) l.count }
