use Rattle.std.proofs.Common.{below_more, rules}
use Rattle.xmas_elf.specs.HashTable.{Reaches, chains_of}
use Rattle.xmas_elf.specs.SymbolTable.{table_symbols}
use Rattle.xmas_elf.proofs.ChainPaths.{first_ends, chain_ends}
use Rattle.xmas_elf.proofs.hash.HashTable.ending.Goals as goal

pub loop-index-init : goal.loop-index-init
loop-index-init g c = first_ends (chains_of c.args.self.now (table_symbols c.args.symbols.now).items)

pub loop-index-preserved : goal.loop-index-preserved
loop-index-preserved g c =
    below_more (λ i. Reaches (chains_of c.args.self.now (table_symbols c.args.symbols.now).items) i 0) c.loop-index.index-counter c.loop-index.invariant
    (chain_ends _ _ _ c.loop-index.index-counter _ _ c.follow_chain.ensures.answer (search rules) (λ i e stop. c.loop-index.invariant i (search rules)))
