use Rattle.std.proofs.Common.{◌<◌, arith, sym, ◌∙◌, rules}
use Rattle.xmas_elf.specs.HashTable.{Held, Reaches, chain_count_of, chains_of}
use Rattle.xmas_elf.specs.SymbolTable.{table_symbols}
use Rattle.xmas_elf.proofs.ChainLinks.{reaches_next, some_of, with_link}
use Rattle.xmas_elf.proofs.hash.HashTable.link_from.Goals as goal

pub loop-preserved : goal.loop-preserved
loop-preserved g c =
    let all = table_symbols c.args.symbols.now in
    let chains = chains_of c.args.self.now all.items in
    let (e, there) = some_of c.get.result (search rules) in
    let below : c.loop.index < chain_count_of c.args.self.now = (c.get_chain.ensures.readable.0 (search rules)).below in
    let next : Reaches chains c.loop.index c.in-Ok.next = reaches_next chains c.loop.index c.in-Ok.next e (omega arith) below (sym c.get.ensures ∙ there) (sym c.get_chain.ensures.exact ∙ c.in-Ok.is) in
    let links = with_link (λ i j. Reaches chains i j) _ _ c.loop.index c.in-Ok.next c.link.ensures c.holds_lent.ensures.links next in
    let held = with_link (λ i _. Held c.args.self.now all i) _ _ c.loop.index c.in-Ok.next c.link.ensures c.holds_lent.ensures.held (c.holds_lent.ensures.yes c.if-not-holds_lent.false) in
    record {
      links = λ i j joins. links i j (c.count_down.ensures i j joins);
      held = λ i j joins. held i j (c.count_down.ensures i j joins);
    }
