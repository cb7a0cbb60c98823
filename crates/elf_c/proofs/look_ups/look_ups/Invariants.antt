use Rattle.elf_c.specs.LookUps.{IfUtf8, LooksIfRead}
use Rattle.elf_c.proofs.Answering.{AreSoFar}
use Rattle.elf_c.proofs.look_ups.look_ups.Given as goal

abbrev pub invariant-loop-place : goal.invariant-loop-place
invariant-loop-place l = AreSoFar (IfUtf8 (LooksIfRead l.found)) l.names l.ranges l.initial.out l.place l.out
