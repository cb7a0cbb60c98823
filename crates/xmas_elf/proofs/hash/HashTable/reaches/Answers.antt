use Rattle.std.proofs.Common.{◌≡◌, Ok, Some, rules}
use Rattle.xmas_elf.specs.HashTable.{start_of}
use Rattle.xmas_elf.specs.SymbolTable.{table_symbols}
use Rattle.xmas_elf.proofs.ChainChecks.{without_error, chain_reaches}
use Rattle.xmas_elf.proofs.ChainPaths.{chain_error}
use Rattle.xmas_elf.proofs.hash.HashTable.reaches.Goals as goal

pub returns-in-Ok : goal.returns-in-Ok
returns-in-Ok g c =
    let start : start_of c.args.self.now c.args.name.now ≡ Some (Ok c.in-Some-Ok.first) = cc in
    let follow_chain = rw c.in-Ok.is at c.follow_chain.ensures.answer in
    let is = chain_reaches c.args.self.now (table_symbols c.args.symbols.now).items _ _ c.args.name.now c.args.index c.in-Some-Ok.first _ c.in-Ok.found follow_chain (λ x e stop. search rules) (λ x e over. search rules) c.requires.symbol start in
    search rules

pub returns-in-Err : goal.returns-in-Err
returns-in-Err g c =
    let start : start_of c.args.self.now c.args.name.now ≡ Some (Ok c.in-Some-Ok.first) = cc in
    let follow_chain = rw c.in-Err.is at c.follow_chain.ensures.answer in
    absurd (without_error c.args.self.now (table_symbols c.args.symbols.now).items c.args.name.now c.in-Some-Ok.first _ _ c.requires.ends start (chain_error _ _ _ c.in-Some-Ok.first _ _ follow_chain))
