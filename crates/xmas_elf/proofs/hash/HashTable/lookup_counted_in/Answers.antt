use Rattle.std.proofs.Common.{refl}
use Rattle.xmas_elf.proofs.ChainFinds.{finds_all}
use Rattle.xmas_elf.proofs.lemmas.HashTables.{looks_by_symbol}
use Rattle.xmas_elf.specs.SymbolTable.{table_symbols}
use Rattle.xmas_elf.proofs.hash.HashTable.lookup_counted_in.Goals as goal

-- the result for the test of a symbol
pub returns-clause-answer : goal.returns-clause-answer
returns-clause-answer g c =
    looks_by_symbol g.F.Fn c.args.f _ _ _ (table_symbols c.args.symbols.now) _ _ _ c.search.ensures.answer (λ i e r says. says) (λ i e r says. says)

pub returns-clause-good : goal.returns-clause-good
returns-clause-good g c = λ d sound. finds_all _ _ _ _ _ _ _ refl sound (returns-clause-answer g c d)
