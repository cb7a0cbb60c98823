use Rattle.std.proofs.Common.{◌≡◌, None, subst}
use Rattle.elf_addresses.specs.Claims.{IsInnermost}
use Rattle.elf_addresses.specs.Index.{IsWellBuilt}
use Rattle.elf_addresses.specs.SymbolAt.{claim_at}
use Rattle.elf_addresses.specs.SymbolClaims.{claim_of_symbols, range_of_symbols}
use Rattle.address_tests.proofs.callers.symbol_by_index.Goals as goal

pub returns : goal.returns
returns g c =
    let fields = g.E.Entry.fields in
    let index = c.lend-index.result in
    let built : IsWellBuilt (claim_of_symbols fields index.claims.symbols.now index.claims.within) (range_of_symbols fields index.claims.symbols.now) index.sized.now index.begins.now index.sizes.now index.lasting.now index.starts.now = rw (c.lend-index.ensures.symbols, c.lend-index.ensures.within, c.lend-index.ensures.sized, c.lend-index.ensures.begins, c.lend-index.ensures.sizes, c.lend-index.ensures.lasting, c.lend-index.ensures.starts, c.size-size.ensures.sized, c.size-size.ensures.open) c.in_ok-build.ensures.built in
    let inner = c.symbol_at.ensures.innermost built in
    let within = subst (λ w. IsInnermost (claim_of_symbols fields index.claims.symbols.now w) c.args.address (claim_at fields c.symbol_at.result)) c.lend-index.ensures.within inner in
    subst (λ s. IsInnermost (claim_of_symbols fields s None) c.args.address (claim_at fields c.symbol_at.result)) c.lend-index.ensures.symbols within
