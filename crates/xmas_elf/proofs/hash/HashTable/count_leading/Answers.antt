use Rattle.xmas_elf.proofs.hash.HashTable.count_leading.Goals as goal

pub loop-index-preserved : goal.loop-index-preserved
loop-index-preserved c = λ i j joins. c.loop-index.invariant i j (c.count_up.ensures i j joins)
