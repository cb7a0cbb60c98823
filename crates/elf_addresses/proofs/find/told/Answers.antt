use Rattle.std.proofs.Common.{◌≡◌, ◌==◌, ap, sym, arith}
use Rattle.elf_addresses.proofs.ClaimsThere.{claim_there, symbol_there}
use Rattle.elf_addresses.specs.SymbolClaims.{symbol_claim}
use Rattle.elf_addresses.proofs.find.told.Goals as goal

pub returns-clause-claim : goal.returns-clause-claim
returns-clause-claim g c =
    let claims = c.args.claims.now in
    claim_there g.E.Entry.fields claims.symbols.now claims.within c.args.claim.now.index c.args.claim.now c.in-Some.symbol c.requires.stands c.in-Some.ensures.item

pub returns-clause-tells : goal.returns-clause-tells
returns-clause-tells g c =
    let claims = c.args.claims.now in
    let claim = c.args.claim.now in
    let same : symbol_claim claim.index (g.E.Entry.fields c.in-Some.symbol) ≡ claim = claim_there g.E.Entry.fields claims.symbols.now claims.within claim.index claim c.in-Some.symbol c.requires.stands c.in-Some.ensures.item in
    let value : (g.E.Entry.fields c.in-Some.symbol).value ≡ claim.begin = ap (λ k. k.begin) same in
    record {
      stands = sym c.in-Some.ensures.item;
      offset = omega (arith, value, c.requires.begun);
      is_open = ap (λ k. k.size == 0) (sym same);
    }

pub unreachable-requires : goal.unreachable-requires
unreachable-requires g c =
    let claims = c.args.claims.now in
    symbol_there g.E.Entry.fields claims.symbols.now claims.within c.args.claim.now.index c.args.claim.now c.requires.stands c.in-None.ensures.item
