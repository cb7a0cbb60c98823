use Rattle.xmas_elf.specs.HashTable.{chains_of}
use Rattle.xmas_elf.specs.ChainLinks.{AreHeld, AreLinks}
use Rattle.xmas_elf.specs.SymbolTable.{table_symbols}
use Rattle.xmas_elf.proofs.hash.HashTable.link_from.Given as goal

abbrev pub invariant-loop : goal.invariant-loop
invariant-loop g l =
    let all = table_symbols l.symbols in
    record {
      links : AreLinks (chains_of l.self all.items) l.words;
      held : AreHeld l.self all l.words;
    }
