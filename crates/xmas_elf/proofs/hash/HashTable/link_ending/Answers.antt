use Rattle.std.proofs.Common.{arith, sym, ◌∙◌}
use Rattle.xmas_elf.specs.HashTable.{Reaches, chains_of}
use Rattle.xmas_elf.specs.SymbolTable.{table_symbols}
use Rattle.xmas_elf.proofs.ChainLinks.{with_link}
use Rattle.xmas_elf.proofs.ChainPaths.{ends_next}
use Rattle.xmas_elf.proofs.hash.HashTable.link_ending.Goals as goal

pub returns-in-Err : goal.returns-in-Err
returns-in-Err g c =
    with_link (λ i _. Reaches (chains_of c.args.self.now (table_symbols c.args.symbols.now).items) i 0) _ _ _ _ c.link.ensures c.loop.invariant.links c.loop.invariant.ends

pub loop-preserved : goal.loop-preserved
loop-preserved g c =
    let chains = chains_of c.args.self.now (table_symbols c.args.symbols.now).items in
    record {
      ends = ends_next chains c.loop.index c.in-Ok.next (omega arith) (sym c.get_chain.ensures.exact ∙ c.in-Ok.is) c.loop.invariant.ends;
      links = with_link (λ i _. Reaches chains i 0) _ _ _ _ c.link.ensures c.loop.invariant.links c.loop.invariant.ends;
    }
