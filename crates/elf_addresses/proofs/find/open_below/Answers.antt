use Rattle.elf_addresses.proofs.ClaimsThere.{open_symbol}
use Rattle.elf_addresses.proofs.find.open_below.Goals as goal

pub told-requires-clause-stands : goal.told-requires-clause-stands
told-requires-clause-stands g c = c.in-Some.ensures.nearest.0.is

pub told-requires-clause-begun : goal.told-requires-clause-begun
told-requires-clause-begun g c = c.in-Some.ensures.nearest.0.has

pub returns-in-Some : goal.returns-in-Some
returns-in-Some g c =
    open_symbol g.E.Entry.fields c.args.symbols.now c.args.within c.args.address c.args.section c.in-Some.claim c.told.result c.if_in_section.result c.in-Some.ensures c.told.ensures.claim c.told.ensures.tells c.if_in_section.ensures

pub returns-in-None : goal.returns-in-None
returns-in-None g c = λ at is. c.in-None.ensures _ is.below
