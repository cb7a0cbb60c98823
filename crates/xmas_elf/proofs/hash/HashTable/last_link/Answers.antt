use Rattle.xmas_elf.specs.HashTable.{Held, Reaches, chains_of, starts}
use Rattle.xmas_elf.specs.SymbolTable.{table_symbols}
use Rattle.xmas_elf.proofs.ChainLinks.{reaches_linked, with_link}
use Rattle.xmas_elf.proofs.ChainPaths.{reaches_along}
use Rattle.xmas_elf.proofs.hash.HashTable.last_link.Goals as goal

pub loop-init : goal.loop-init
loop-init g c = record { links = c.requires.links; held = c.requires.held; comes = (0, starts) }

pub loop-preserved : goal.loop-preserved
loop-preserved g c =
    let all = table_symbols c.args.symbols.now in
    let chains = chains_of c.args.self.now all.items in
    let on : Reaches chains c.in-Some.next c.unwrap_or-further.result = rw c.unwrap_or-further.ensures (reaches_linked chains c.loop.words c.in-Some.next c.linked-in-loop.result c.loop.invariant.links c.linked-in-loop.ensures) in
    let ahead : Reaches chains c.loop.index c.unwrap_or-further.result = reaches_along chains c.loop.index c.in-Some.next c.unwrap_or-further.result (c.loop.invariant.links c.loop.index c.in-Some.next c.in-Some.ensures.0) on in
    record {
      links = with_link (λ i j. Reaches chains i j) _ _ c.loop.index c.unwrap_or-further.result c.link.ensures c.loop.invariant.links ahead;
      held = with_link (λ i _. Held c.args.self.now all i) _ _ c.loop.index c.unwrap_or-further.result c.link.ensures c.loop.invariant.held (c.loop.invariant.held c.loop.index c.in-Some.next c.in-Some.ensures.0);
      comes = reaches_along chains c.args.first c.loop.index c.unwrap_or-further.result c.loop.invariant.comes ahead;
    }
