use Rattle.elf_c.proofs.InOrder.{IsStored}
use Rattle.elf_c.proofs.batch.fill_in_order.Given as goal

abbrev pub invariant-loop-place : goal.invariant-loop-place
invariant-loop-place g l =
    IsStored (g.S.Sequence.left l.fn.records) l.first l.initial.out l.place l.next (g.S.Sequence.left l.records) l.out
