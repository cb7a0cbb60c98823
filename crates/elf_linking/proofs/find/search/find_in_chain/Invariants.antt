use Rattle.std.proofs.Common.{◌≡◌, ◌-◌, ◌≤◌, Ok, Some}
use Rattle.elf_linking.specs.Find.{dynamic_symbols}
use Rattle.elf_linking.specs.Versions.{version_list}
use Rattle.elf_linking.specs.declared.any_table.AnyTable.TheVariants.{Sysv}
use Rattle.xmas_elf.specs.HashTable.{Comes, chain_count_of, chains_of, start_of}
use Rattle.xmas_elf.specs.SymbolTable.{table_symbols}
use Rattle.elf_linking.proofs.SysvFinds.{MissedIn}
use Rattle.elf_linking.proofs.Kept as search
use Rattle.elf_linking.proofs.find.search.find_in_chain.Given as goal

abbrev pub invariant-loop-index : goal.invariant-loop-index
invariant-loop-index g l =
    let symbols = table_symbols l.symbols in
    let versions = version_list l.versions in
    record {
      in_chains : l.passed ≤ chain_count_of l.table;
      starts : start_of l.table l.name ≡ Some (Ok l.first);
      steps : Comes (chains_of l.table (table_symbols l.symbols).items) l.first l.passed l.index;
      comes : search.Comes (dynamic_symbols (Sysv l.table) symbols versions) l.name l.wanted l.use_ (MissedIn l.table symbols versions l.name l.first l.passed) l.kept;
    }

abbrev pub decreases-loop-index : goal.decreases-loop-index
decreases-loop-index g l = chain_count_of l.table - l.passed
