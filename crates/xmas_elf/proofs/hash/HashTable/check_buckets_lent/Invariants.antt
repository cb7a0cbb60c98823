use Rattle.xmas_elf.specs.HashTable.{EndsBelow, chains_of}
use Rattle.xmas_elf.specs.ChainLinks.{AreEnding}
use Rattle.xmas_elf.specs.SymbolTable.{table_symbols}
use Rattle.xmas_elf.proofs.hash.HashTable.check_buckets_lent.Given as goal

abbrev pub invariant-loop-bucket : goal.invariant-loop-bucket
invariant-loop-bucket g l =
    let items = (table_symbols l.symbols).items in
    record {
      before : EndsBelow l.self items l.bucket;
      links : AreEnding (chains_of l.self items) l.words;
    }
