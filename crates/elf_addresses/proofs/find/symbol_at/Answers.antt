use Rattle.std.proofs.Common.{Some, sym, subst}
use Rattle.elf_addresses.specs.Claims.{IsInnermost}
use Rattle.elf_addresses.specs.SymbolClaims.{claim_of_symbols}
use Rattle.elf_addresses.proofs.find.symbol_at.Goals as goal

pub told-requires-clause-stands : goal.told-requires-clause-stands
told-requires-clause-stands g c = c.in-Some.ensures.0.is

pub told-requires-clause-begun : goal.told-requires-clause-begun
told-requires-clause-begun g c = c.in-Some.ensures.0.has.0

pub returns-in-Some-clause-innermost : goal.returns-in-Some-clause-innermost
returns-in-Some-clause-innermost g c =
    subst (λ claim. IsInnermost (claim_of_symbols g.E.Entry.fields c.args.symbols.now c.args.within) c.args.address (Some claim)) (sym c.told.ensures.claim) c.in-Some.ensures
