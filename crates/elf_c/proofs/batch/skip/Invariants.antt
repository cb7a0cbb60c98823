use Rattle.std.proofs.Common.{◌≡◌}
use Rattle.std.specs.Prelude.{drop}
use Rattle.elf_c.proofs.batch.skip.Given as goal

abbrev pub invariant-loop-place : goal.invariant-loop-place
invariant-loop-place g l =
    g.S.Sequence.left l.records ≡ drop l._place (g.S.Sequence.left l.initial.records)
