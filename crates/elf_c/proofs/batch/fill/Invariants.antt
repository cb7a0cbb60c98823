use Rattle.elf_c.specs.Records.{record_in}
use Rattle.elf_c.proofs.Batches.{IsFilled}
use Rattle.elf_c.proofs.batch.fill.Given as goal

abbrev pub invariant-loop-place : goal.invariant-loop-place
invariant-loop-place g l =
    IsFilled (record_in (g.R.Records.record_of l.fn.records) (g.R.Records.items l.fn.records)) l.first l.initial.out l.place l.out
