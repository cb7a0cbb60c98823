use Rattle.std.proofs.Common.{◌≤◌, ◌-◌}
use Rattle.xmas_elf.specs.HashTable.{Belongs, Comes, chain_count_of, chains_of}
use Rattle.xmas_elf.specs.SymbolTable.{table_symbols}
use Rattle.xmas_elf.proofs.ChainPaths.{Picked}
use Rattle.xmas_elf.proofs.hash.HashTable.held_by.Given as goal

abbrev pub invariant-loop-index : goal.invariant-loop-index
invariant-loop-index g l =
    let all = table_symbols l.symbols in
    let chains = chains_of l.self (table_symbols l.symbols).items in
    record {
      few : l.held ≤ l.count;
      comes : Comes chains l.first l.count l.index;
      picked : Picked chains (Belongs l.self all l.bucket) l.first l.count l.held;
    }

abbrev pub decreases-loop-index : goal.decreases-loop-index
decreases-loop-index g l = chain_count_of l.self - l.count
