use Rattle.elf_addresses.specs.Claims.{no_claim}
use Rattle.elf_addresses.specs.SymbolClaims.{symbol_claim, symbol_items}
use Rattle.elf_addresses.proofs.Known.{known_item, known_nothing}
use Rattle.elf_addresses.proofs.symbols.SymbolClaimsClaims.known.Goals as goal

pub returns-in-Some : goal.returns-in-Some
returns-in-Some g c =
    known_item (λ symbol. symbol_claim c.args.index (g.E.Entry.fields symbol)) (symbol_items c.args.self.now.symbols.now) c.args.index c.in-Some.symbol (no_claim c.args.index) c.claim_of.result c.claim_of.ensures c.in-Some.ensures.item

pub returns-in-None : goal.returns-in-None
returns-in-None g c =
    known_nothing (λ symbol. symbol_claim c.args.index (g.E.Entry.fields symbol)) (symbol_items c.args.self.now.symbols.now) c.args.index (no_claim c.args.index) c.no_claim.result c.no_claim.ensures c.in-None.ensures.item
