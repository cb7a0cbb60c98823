use Rattle.std.proofs.Common.{arith, below_more, ◌<◌, length}
use Rattle.xmas_elf.specs.HashTable.{Held}
use Rattle.xmas_elf.specs.SymbolTable.{table_symbols}
use Rattle.std.proofs.lemmas.Option.{slice_get_within}
use Rattle.xmas_elf.proofs.ChainChecks.{held_first}
use Rattle.xmas_elf.proofs.hash.HashTable.holds_rest.Goals as goal

pub loop-index-init : goal.loop-index-init
loop-index-init g c = held_first c.args.self.now (table_symbols c.args.symbols.now)

pub returns-then-not-holds-clause-no : goal.returns-then-not-holds-clause-no
returns-then-not-holds-clause-no g c = λ _.
    let (e, name, global, lost) = c.holds.ensures.no c.if-not-holds.true in (c.loop-index.index, e, name, global, lost)

pub loop-index-preserved : goal.loop-index-preserved
loop-index-preserved g c =
    below_more (Held c.args.self.now (table_symbols c.args.symbols.now)) c.loop-index.index c.loop-index.invariant (c.holds.ensures.yes c.if-not-holds.false)

pub loop-index-preserved-then-is_linked : goal.loop-index-preserved-then-is_linked
loop-index-preserved-then-is_linked g c =
    let (j, joins) = c.is_linked.ensures c.if-is_linked.true in
    below_more (Held c.args.self.now (table_symbols c.args.symbols.now)) c.loop-index.index c.loop-index.invariant (c.requires.held c.loop-index.index j joins)

pub returns-clause-yes : goal.returns-clause-yes
returns-clause-yes g c = λ _ i e name global.
    let within : i < length (table_symbols c.args.symbols.now).items = slice_get_within (table_symbols c.args.symbols.now).items i e global.stands in
    c.loop-index.invariant i (omega arith) e name global
