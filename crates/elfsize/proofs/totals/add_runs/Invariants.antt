use Rattle.std.proofs.Common.{◌≡◌, length, take}
use Rattle.elfsize.specs.Totals.{AreTotals}
use Rattle.elfsize.proofs.totals.add_runs.Given as goal

-- the totals of the runs so far
abbrev pub invariant-loop-run : goal.invariant-loop-run
invariant-loop-run l = AreTotals (take l.run-index l.fn.runs) l.totals × (length l.totals ≡ length l.fn.totals)
