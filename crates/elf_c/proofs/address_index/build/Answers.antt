use Rattle.elf_addresses.specs.SymbolClaims.{claim_of_symbols, range_of_symbols, symbol_count}
use Rattle.elf_c.proofs.AddressIndexes.{built_index}
use Rattle.elf_c.proofs.address_index.build.Goals as goal

pub returns-clause-built : goal.returns-clause-built
returns-clause-built g c =
    let symbols = c.args.symbols.now in
    let claim_of = claim_of_symbols g.E.Entry.fields symbols c.args.within in
    let size = c.size-size in
    λ small. built_index claim_of (range_of_symbols g.E.Entry.fields symbols) (symbol_count symbols) size.result.sized size.result.open c.build_sized.new.words c.build_sized.new.numbers size.ensures.sized size.ensures.open c.in_ok-build_sized.ensures.built
