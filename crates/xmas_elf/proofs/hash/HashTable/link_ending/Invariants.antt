use Rattle.xmas_elf.specs.HashTable.{Reaches, chains_of}
use Rattle.xmas_elf.specs.ChainLinks.{AreEnding}
use Rattle.xmas_elf.specs.SymbolTable.{table_symbols}
use Rattle.xmas_elf.proofs.hash.HashTable.link_ending.Given as goal

abbrev pub invariant-loop : goal.invariant-loop
invariant-loop g l =
    let chains = chains_of l.self (table_symbols l.symbols).items in
    record {
      ends : Reaches chains l.index 0;
      links : AreEnding chains l.words;
    }
