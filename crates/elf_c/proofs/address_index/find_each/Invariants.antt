use Rattle.std.proofs.Common.{map}
use Rattle.elf_addresses.specs.Index.{IsWellBuilt}
use Rattle.elf_addresses.specs.SymbolClaims.{claim_of_symbols, range_of_symbols, symbol_items}
use Rattle.elf_c.specs.AddressIndex.{IsAnswer}
use Rattle.elf_c.proofs.Storing.{AreSoFar}
use Rattle.elf_c.proofs.address_index.find_each.Given as goal

abbrev pub invariant-loop-place : goal.invariant-loop-place
invariant-loop-place g l =
    let symbols = l.index.claims.symbols.now in
    let claim_of = claim_of_symbols g.E.Entry.fields symbols l.index.claims.within in
    AreSoFar (IsAnswer claim_of (map g.E.Entry.fields (symbol_items symbols))
    (IsWellBuilt claim_of (range_of_symbols g.E.Entry.fields symbols)
    l.index.sized.now l.index.begins.now l.index.sizes.now l.index.lasting.now l.index.starts.now)) l.addresses l.initial.out l.place l.out
