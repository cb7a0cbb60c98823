use Rattle.std.proofs.Common.{◌≡◌, ◌≤◌, Some, None, subst, sym}
use Rattle.elf_addresses.specs.Claims.{Among, FindsOpenBelow}
use Rattle.elf_addresses.specs.Index.{IsWellBuilt}
use Rattle.elf_addresses.specs.SymbolClaims.{claim_of_symbols, range_of_symbols}
use Rattle.elf_addresses.proofs.ClaimsThere.{in_section, open_symbol}
use Rattle.elf_addresses.proofs.symbol_index.SymbolIndex.open_below.Goals as goal

pub told-requires-clause-stands : goal.told-requires-clause-stands
told-requires-clause-stands g c =
    let fields = g.E.Entry.fields in
    let among = subst (λ k. Among (claim_of_symbols fields k.symbols.now k.within) (λ claim. (claim.size ≡ 0) × (claim.begin ≤ c.args.address)) c.in-Some.claim) c.index.ensures.claims c.in-Some.ensures.begins in
    among.is

pub told-requires-clause-begun : goal.told-requires-clause-begun
told-requires-clause-begun g c = c.in-Some.ensures.begins.has.1

pub returns-in-Some-clause-found : goal.returns-in-Some-clause-found
returns-in-Some-clause-found g c =
    let fields = g.E.Entry.fields in
    let claims = c.args.self.now.claims in
    let among = subst (λ k. Among (claim_of_symbols fields k.symbols.now k.within) (λ claim. (claim.size ≡ 0) × (claim.begin ≤ c.args.address)) c.in-Some.claim) c.index.ensures.claims c.in-Some.ensures.begins in
    in_section fields claims.symbols.now claims.within c.args.address c.args.section c.told.result c.if_in_section.result
    (subst (λ claim. Among (claim_of_symbols fields claims.symbols.now claims.within) (λ k. (k.size ≡ 0) × (k.begin ≤ c.args.address)) claim) (sym c.told.ensures.claim) among)
    c.told.ensures.tells c.if_in_section.ensures

pub returns-in-Some-clause-open_below : goal.returns-in-Some-clause-open_below
returns-in-Some-clause-open_below g c = λ wb.
    let fields = g.E.Entry.fields in
    let claims = c.args.self.now.claims in
    let there = c.index.result in
    let wb' : IsWellBuilt (claim_of_symbols fields there.claims.now.symbols.now there.claims.now.within) (range_of_symbols fields there.claims.now.symbols.now) there.sized.now there.begins.now there.sizes.now there.lasting.now there.starts.now = rw (c.index.ensures.claims, c.index.ensures.sized, c.index.ensures.begins, c.index.ensures.sizes, c.index.ensures.lasting, c.index.ensures.starts) wb in
    let below = subst (λ k. FindsOpenBelow (claim_of_symbols fields k.symbols.now k.within) c.args.address (Some c.in-Some.claim)) c.index.ensures.claims (c.in-Some.ensures.open_below wb') in
    open_symbol fields claims.symbols.now claims.within c.args.address c.args.section c.in-Some.claim c.told.result c.if_in_section.result below c.told.ensures.claim c.told.ensures.tells c.if_in_section.ensures

pub returns-in-None-clause-open_below : goal.returns-in-None-clause-open_below
returns-in-None-clause-open_below g c = λ wb.
    let fields = g.E.Entry.fields in
    let there = c.index.result in
    let wb' : IsWellBuilt (claim_of_symbols fields there.claims.now.symbols.now there.claims.now.within) (range_of_symbols fields there.claims.now.symbols.now) there.sized.now there.begins.now there.sizes.now there.lasting.now there.starts.now = rw (c.index.ensures.claims, c.index.ensures.sized, c.index.ensures.begins, c.index.ensures.sizes, c.index.ensures.lasting, c.index.ensures.starts) wb in
    let none = subst (λ k. FindsOpenBelow (claim_of_symbols fields k.symbols.now k.within) c.args.address None) c.index.ensures.claims (c.in-None.ensures.open_below wb') in
    λ at is. none _ is.below
