use Rattle.std.proofs.Common.{◌+◌, arith, refl, sym, ◌∙◌}
use Rattle.xmas_elf.specs.HashTable.{IsFoundAt, chains_of, failed}
use Rattle.xmas_elf.specs.SymbolTable.{table_symbols}
use Rattle.xmas_elf.proofs.ChainPaths.{looks, looks_halted}
use Rattle.xmas_elf.proofs.hash.HashTable.step.Goals as goal

pub returns-in-Err : goal.returns-in-Err
returns-in-Err g c = λ first at. (c.args.passed, looks_halted _ _ first c.args.index c.args.passed c.in-Err.halt at (λ _ _ _ _ _ _ none. none) (omega arith) c.in-Err.ensures)

pub returns-in-Err-get_chain : goal.returns-in-Err-get_chain
returns-in-Err-get_chain g c = λ first at.
    let stands : IsFoundAt (chains_of c.args.self.now (table_symbols c.args.symbols.now).items) c.args.index c.in-Ok.entry = c.in-Ok.ensures.0 in
    (c.args.passed + 1, looks _ _ first c.args.index c.args.passed 1 _ _ at (λ _ _ _ _ _ _ none. none) (failed c.args.index c.in-Ok.entry c.in-Err-get_chain.error stands (λ none. none) (sym c.get_chain.ensures.exact ∙ c.in-Err-get_chain.is)) refl)
