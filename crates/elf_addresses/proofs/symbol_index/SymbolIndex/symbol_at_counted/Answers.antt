use Rattle.std.proofs.Common.{None, Some, subst}
use Rattle.elf_addresses.specs.Claims.{IsInnermost}
use Rattle.elf_addresses.specs.Index.{IsWellBuilt}
use Rattle.elf_addresses.specs.SymbolAt.{claim_at}
use Rattle.elf_addresses.specs.SymbolClaims.{claim_of_symbols, range_of_symbols}
use Rattle.elf_addresses.proofs.ClaimsThere.{innermost_there}
use Rattle.elf_addresses.proofs.symbol_index.SymbolIndex.symbol_at_counted.Goals as goal

pub returns-in-Some-clause-innermost : goal.returns-in-Some-clause-innermost
returns-in-Some-clause-innermost g c = λ wb.
    let fields = g.E.Entry.fields in
    let claims = c.args.self.now.claims in
    let there = c.index.result in
    let wb' : IsWellBuilt (claim_of_symbols fields there.claims.now.symbols.now there.claims.now.within) (range_of_symbols fields there.claims.now.symbols.now) there.sized.now there.begins.now there.sizes.now there.lasting.now there.starts.now = rw (c.index.ensures.claims, c.index.ensures.sized, c.index.ensures.begins, c.index.ensures.sizes, c.index.ensures.lasting, c.index.ensures.starts) wb in
    let inner = subst (λ o. IsInnermost (claim_of_symbols fields there.claims.now.symbols.now there.claims.now.within) c.args.address o) c.in-Some.is (c.innermost_counted-found.ensures.innermost wb') in
    let inner' = subst (λ k. IsInnermost (claim_of_symbols fields k.symbols.now k.within) c.args.address (Some c.in-Some.claim)) c.index.ensures.claims inner in
    innermost_there fields claims.symbols.now claims.within c.args.address c.in-Some.claim (claim_at fields c.covering_symbol.result) inner' c.covering_symbol.ensures.known

pub returns-in-None-clause-innermost : goal.returns-in-None-clause-innermost
returns-in-None-clause-innermost g c = λ wb.
    let fields = g.E.Entry.fields in
    let there = c.index.result in
    let wb' : IsWellBuilt (claim_of_symbols fields there.claims.now.symbols.now there.claims.now.within) (range_of_symbols fields there.claims.now.symbols.now) there.sized.now there.begins.now there.sizes.now there.lasting.now there.starts.now = rw (c.index.ensures.claims, c.index.ensures.sized, c.index.ensures.begins, c.index.ensures.sizes, c.index.ensures.lasting, c.index.ensures.starts) wb in
    let inner = subst (λ o. IsInnermost (claim_of_symbols fields there.claims.now.symbols.now there.claims.now.within) c.args.address o) c.in-None.is (c.innermost_counted-found.ensures.innermost wb') in
    subst (λ k. IsInnermost (claim_of_symbols fields k.symbols.now k.within) c.args.address None) c.index.ensures.claims inner
