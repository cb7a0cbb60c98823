use Rattle.std.proofs.Common.{arith, below_more}
use Rattle.xmas_elf.specs.HashTable.{Ends}
use Rattle.xmas_elf.specs.SymbolTable.{table_symbols}
use Rattle.xmas_elf.proofs.hash.HashTable.check_buckets_lent.Goals as goal

pub loop-bucket-init : goal.loop-bucket-init
loop-bucket-init g c = record { before = λ k below. absurd (omega arith); links = λ i j joins. absurd (c.clear.ensures i j joins) }

pub loop-bucket-preserved : goal.loop-bucket-preserved
loop-bucket-preserved g c = record {
  before = below_more (Ends c.args.self.now (table_symbols c.args.symbols.now).items) c.loop-bucket.bucket c.loop-bucket.invariant.before c.in-Ok.ensures.answer;
  links = c.ends_lent.ensures.kept;
}
