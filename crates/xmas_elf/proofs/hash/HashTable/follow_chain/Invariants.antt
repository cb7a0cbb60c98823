use Rattle.std.proofs.Common.{◌≤◌, ◌<◌, ◌^◌, ◌-◌, false, length}
use Rattle.std.specs.Fn.{FnReturnsAt}
use Rattle.xmas_elf.specs.HashTable.{Followed, chain_count_of, chains_of}
use Rattle.xmas_elf.specs.SymbolTable.{table_symbols}
use Rattle.xmas_elf.proofs.hash.HashTable.follow_chain.Given as goal

abbrev pub invariant-loop-index : goal.invariant-loop-index
invariant-loop-index g l = record {
  in_chains : l.count ≤ chain_count_of l.self;
  in_symbols : l.count ≤ length (table_symbols l.symbols).items;
  followed_chain : Followed (λ at. (at.0 < 2 ^ 32) × FnReturnsAt g.F.Fn l.stops at false) (chains_of l.self (table_symbols l.symbols).items) l.first l.count l.index;
}

abbrev pub decreases-loop-index : goal.decreases-loop-index
decreases-loop-index g l = chain_count_of l.self - l.count
