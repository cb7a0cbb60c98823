use Rattle.xmas_elf.specs.Symbols.{DecidesWhere, IsMatchWhere}
use Rattle.elf_linking.specs.GnuHash.{NoHit, Run}
use Rattle.xmas_elf.specs.SymbolTable.{table_symbols}
use Rattle.elf_linking.proofs.gnu_hash.GnuHashTable.follow_chain.Given as goal

abbrev pub invariant-loop-index : goal.invariant-loop-index
invariant-loop-index g l =
    let all = table_symbols l.symbols in
    record {
      run : Run l.self (table_symbols l.symbols).items l.from l.index;
      missed : DecidesWhere all g.F.Fn l.f → NoHit (IsMatchWhere all g.F.Fn l.f l.name) l.hash l.self (table_symbols l.symbols).items l.from l.index;
    }
