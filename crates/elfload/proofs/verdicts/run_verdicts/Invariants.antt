use Rattle.elfload.specs.Verdicts.{IsStatus}
use Rattle.elfload.proofs.verdicts.run_verdicts.Given as goal

-- the status is that of the files so far
abbrev pub invariant-loop-input : goal.invariant-loop-input
invariant-loop-input g l = IsStatus l.fn.by l.fn.page l.fn.inputs l.input-index l.status
