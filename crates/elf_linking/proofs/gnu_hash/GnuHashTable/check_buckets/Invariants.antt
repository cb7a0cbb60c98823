use Rattle.elf_linking.specs.GnuHash.{AreGoodBelow}
use Rattle.xmas_elf.specs.SymbolTable.{table_symbols}
use Rattle.elf_linking.proofs.gnu_hash.GnuHashTable.check_buckets.Given as goal

abbrev pub invariant-loop-bucket : goal.invariant-loop-bucket
invariant-loop-bucket g l = AreGoodBelow l.self (table_symbols l.symbols).items l.bucket
