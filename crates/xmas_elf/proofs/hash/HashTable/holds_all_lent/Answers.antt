use Rattle.xmas_elf.proofs.hash.HashTable.holds_all_lent.Goals as goal

pub loop-index-init : goal.loop-index-init
loop-index-init g c = record { links = λ i j joins. absurd (c.count_leading.ensures i j joins); held = λ i j joins. absurd (c.count_leading.ensures i j joins) }
