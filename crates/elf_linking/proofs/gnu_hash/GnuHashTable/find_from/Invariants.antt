use Rattle.elf_linking.specs.Find.{dynamic_symbols}
use Rattle.elf_linking.specs.GnuHash.{Run}
use Rattle.elf_linking.specs.Versions.{version_list}
use Rattle.elf_linking.specs.declared.any_table.AnyTable.TheVariants.{Gnu}
use Rattle.xmas_elf.specs.SymbolTable.{table_symbols}
use Rattle.elf_linking.proofs.GnuFinds.{MissedUpTo}
use Rattle.elf_linking.proofs.Kept.{Comes}
use Rattle.elf_linking.proofs.gnu_hash.GnuHashTable.find_from.Given as goal

abbrev pub invariant-loop-index : goal.invariant-loop-index
invariant-loop-index g l =
    let symbols = table_symbols l.symbols in
    let versions = version_list l.versions in
    record {
      run : Run l.self (table_symbols l.symbols).items l.from l.index;
      comes : Comes (dynamic_symbols (Gnu l.self) symbols versions) l.name l.wanted l.use_ (MissedUpTo l.self symbols versions l.name l.from l.index) l.kept;
    }
