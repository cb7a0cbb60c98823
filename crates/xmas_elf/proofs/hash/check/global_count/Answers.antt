use Rattle.std.proofs.Common.{arith}
use Rattle.xmas_elf.specs.SymbolTable.{table_symbols}
use Rattle.xmas_elf.proofs.ChainCounts.{must_all, must_first, must_next}
use Rattle.xmas_elf.proofs.hash.check.global_count.Goals as goal

pub loop-index-init : goal.loop-index-init
loop-index-init g c = record { few = omega arith; count = must_first (table_symbols c.args.symbols.now) }

pub loop-index-preserved : goal.loop-index-preserved
loop-index-preserved g c = record {
  few = grind arith;
  count = must_next _ c.loop-index.index c.loop-index.count _ c.must_be_held.result c.from-count.ensures c.must_be_held.ensures c.loop-index.invariant.count;
}

pub returns : goal.returns
returns g c = must_all (table_symbols c.args.symbols.now) c.loop-index.index c.loop-index.count (omega arith) c.loop-index.invariant.count
