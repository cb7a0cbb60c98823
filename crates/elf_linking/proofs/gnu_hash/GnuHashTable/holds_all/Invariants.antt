use Rattle.std.proofs.Common.{ℕ, ◌<◌, ◌≤◌}
use Rattle.elf_linking.specs.GnuHash.{ComeFrom}
use Rattle.xmas_elf.specs.SymbolTable.{table_symbols}
use Rattle.elf_linking.proofs.GnuChecks.{Held}
use Rattle.elf_linking.proofs.gnu_hash.GnuHashTable.holds_all.Given as goal

abbrev pub invariant-loop-index : goal.invariant-loop-index
invariant-loop-index g l =
    let all = table_symbols l.symbols in
    record {
      runs : ComeFrom l.self (table_symbols l.symbols).items l.from l.index;
      held : (i : ℕ) → l.first ≤ i → i < l.index → Held l.self all i;
    }
