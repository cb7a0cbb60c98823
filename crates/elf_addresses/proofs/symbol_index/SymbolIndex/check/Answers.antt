use Rattle.elf_addresses.proofs.symbol_index.SymbolIndex.check.Goals as goal

pub returns : goal.returns
returns g c = rw (c.index.ensures.claims, c.index.ensures.sized, c.index.ensures.begins, c.index.ensures.sizes, c.index.ensures.lasting, c.index.ensures.starts) at c.check.ensures
