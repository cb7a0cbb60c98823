use Rattle.std.proofs.Common.{arith}
use Rattle.elf_linking.specs.GnuHash.{IsThere}
use Rattle.xmas_elf.specs.SymbolTable.{table_symbols}
use Rattle.elf_linking.proofs.Runs.{come_on}
use Rattle.elf_linking.proofs.gnu_hash.GnuHashTable.next_from.Goals as goal

pub returns-then-goes_on : goal.returns-then-goes_on
returns-then-goes_on g c =
    let table = c.args.self.now in
    let items = (table_symbols c.args.symbols.now).items in
    let (small, word, on) = c.goes_on.ensures.yes c.if-goes_on.true in
    let there : IsThere table items c.args.index = record { symbol = omega arith; word = word } in
    come_on table items c.args.from c.args.index c.requires.runs there on
