use Rattle.elf_c.proofs.address_index.find_all.Goals as goal

pub returns : goal.returns
returns g c = rw (c.lend-index.ensures.symbols, c.lend-index.ensures.within, c.lend-index.ensures.sized, c.lend-index.ensures.begins, c.lend-index.ensures.sizes, c.lend-index.ensures.lasting, c.lend-index.ensures.starts, c.within_of-within.ensures) at c.find_each.ensures
