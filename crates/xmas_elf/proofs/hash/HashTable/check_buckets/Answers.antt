use Rattle.std.proofs.Common.{below_more}
use Rattle.xmas_elf.specs.HashTable.{Ends}
use Rattle.xmas_elf.specs.SymbolTable.{table_symbols}
use Rattle.xmas_elf.proofs.hash.HashTable.check_buckets.Goals as goal

pub loop-bucket-preserved : goal.loop-bucket-preserved
loop-bucket-preserved g c = below_more (Ends c.args.self.now (table_symbols c.args.symbols.now).items) c.loop-bucket.bucket c.loop-bucket.invariant c.in-Ok.ensures
