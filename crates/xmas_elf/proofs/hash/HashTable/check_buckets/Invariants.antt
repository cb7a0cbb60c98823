use Rattle.xmas_elf.specs.HashTable.{EndsBelow}
use Rattle.xmas_elf.specs.SymbolTable.{table_symbols}
use Rattle.xmas_elf.proofs.hash.HashTable.check_buckets.Given as goal

abbrev pub invariant-loop-bucket : goal.invariant-loop-bucket
invariant-loop-bucket g l = EndsBelow l.self (table_symbols l.symbols).items l.bucket
