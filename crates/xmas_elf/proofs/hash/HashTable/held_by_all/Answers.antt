use Rattle.std.proofs.Common.{arith, below_more, ◌+◌, subst, sym}
use Rattle.xmas_elf.specs.Counted.{IsCount}
use Rattle.xmas_elf.specs.HashTable.{Ends, IsHeldBelow, faulty}
use Rattle.xmas_elf.specs.SymbolTable.{table_symbols}
use Rattle.xmas_elf.proofs.ChainCounts.{held_more, held_none}
use Rattle.xmas_elf.proofs.hash.HashTable.held_by_all.Goals as goal

pub loop-bucket-init : goal.loop-bucket-init
loop-bucket-init g c = record {
  few = omega arith;
  short = omega arith;
  ends = λ k below. absurd (omega arith);
  count = held_none c.args.self.now (table_symbols c.args.symbols.now);
}

pub returns-in-Err : goal.returns-in-Err
returns-in-Err g c = faulty c.loop-bucket.bucket c.in-Err.error (omega arith) c.loop-bucket.invariant.ends c.in-Err.ensures

pub loop-bucket-preserved : goal.loop-bucket-preserved
loop-bucket-preserved g c =
    let all = table_symbols c.args.symbols.now in
    let ((first, at, end), more) = c.in-Ok.ensures in
    record {
      few = omega arith;
      short = omega arith;
      ends = below_more (Ends c.args.self.now (table_symbols c.args.symbols.now).items) c.loop-bucket.bucket c.loop-bucket.invariant.ends (first, at, (c.in-Ok.both.1, end));
      count = subst (λ m. IsCount (IsHeldBelow c.args.self.now all (c.loop-bucket.bucket + 1)) (c.loop-bucket.held + m)) (sym c.from-held.ensures)
          (held_more c.args.self.now all c.loop-bucket.bucket c.loop-bucket.held c.in-Ok.both.0 c.loop-bucket.invariant.count more);
    }
