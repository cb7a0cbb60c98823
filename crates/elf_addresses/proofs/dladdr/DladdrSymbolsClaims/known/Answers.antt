use Rattle.std.proofs.Common.{ap, ◌∙◌}
use Rattle.xmas_elf.specs.Table.{table_items}
use Rattle.elf_addresses.specs.Claims.{no_claim}
use Rattle.elf_addresses.specs.Dladdr.{dladdr_claim, reach_of}
use Rattle.elf_addresses.proofs.Known.{known_item, known_nothing}
use Rattle.elf_addresses.proofs.dladdr.DladdrSymbolsClaims.known.Goals as goal

pub returns-in-Some : goal.returns-in-Some
returns-in-Some g c =
    let symbols = c.args.self.now in
    let index = c.args.index in
    known_item (λ symbol. dladdr_claim (reach_of symbols.reach index (g.E.Entry.fields symbol)) index (g.E.Entry.fields symbol)) (table_items symbols.table) index c.in-Some.symbol (no_claim index) c.claim_of.result
    (c.claim_of.ensures ∙ ap (λ reach. dladdr_claim reach index (g.E.Entry.fields c.in-Some.symbol)) c.of-reach.ensures) c.in-Some.ensures.item

pub returns-in-None : goal.returns-in-None
returns-in-None g c =
    let symbols = c.args.self.now in
    let index = c.args.index in
    known_nothing (λ symbol. dladdr_claim (reach_of symbols.reach index (g.E.Entry.fields symbol)) index (g.E.Entry.fields symbol)) (table_items symbols.table) index (no_claim index) c.no_claim.result c.no_claim.ensures c.in-None.ensures.item
