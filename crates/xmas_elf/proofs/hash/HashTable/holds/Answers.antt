use Rattle.xmas_elf.proofs.ChainChecks.{held_named}
use Rattle.xmas_elf.specs.SymbolTable.{table_symbols}
use Rattle.xmas_elf.proofs.hash.HashTable.holds.Goals as goal

pub returns-in-Some : goal.returns-in-Some
returns-in-Some g c =
    let (e, global) = c.in-Some.ensures in
    record {
      yes = λ reached. held_named c.args.self.now (table_symbols c.args.symbols.now) c.args.index e _ global (c.reaches.ensures.0 reached);
      no = λ lost. (e, c.in-Some.name.now, global, λ reached. (let yes = c.reaches.ensures.1 reached in cc));
    }
