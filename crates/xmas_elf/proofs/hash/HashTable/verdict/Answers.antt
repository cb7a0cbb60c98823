use Rattle.std.proofs.Common.{arith}
use Rattle.xmas_elf.specs.HashTable.{good, missing}
use Rattle.xmas_elf.specs.SymbolTable.{table_symbols}
use Rattle.xmas_elf.proofs.ChainCounts.{all_held, one_missing}
use Rattle.xmas_elf.proofs.hash.HashTable.verdict.Goals as goal

pub returns-then-held-global : goal.returns-then-held-global
returns-then-held-global g c =
    let (ends, count) = rw c.in-Ok-Some.field-0-is at c.in-Ok-Some.ensures in
    let (i, e, name, global, lost) = one_missing c.args.self.now (table_symbols c.args.symbols.now) _ _ (omega arith) count c.global_count-global.ensures in
    missing i e name ends global lost

pub returns-else-held-global : goal.returns-else-held-global
returns-else-held-global g c =
    let (ends, count) = rw c.in-Ok-Some.field-0-is at c.in-Ok-Some.ensures in
    good (record { ends = ends; holds = all_held c.args.self.now _ _ _ (omega arith) count c.global_count-global.ensures })
