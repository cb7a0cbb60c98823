use Rattle.elfaddr.proofs.lines.write_indexed.Goals as goal

pub write_each-requires-clause-built : goal.write_each-requires-clause-built
write_each-requires-clause-built g c = rw (c.lend-index.ensures.claims, c.lend-index.ensures.sized, c.lend-index.ensures.begins, c.lend-index.ensures.sizes, c.lend-index.ensures.lasting, c.lend-index.ensures.starts, c.requires.sized, c.requires.open) c.requires.built
