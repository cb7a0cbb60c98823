use Rattle.std.proofs.Common.{◌≡◌, map, take}
use Rattle.elfsize.specs.Sums.{kind_run}
use Rattle.elfsize.proofs.sums.kind_runs.Given as goal

-- the runs so far
abbrev pub invariant-loop-run : goal.invariant-loop-run
invariant-loop-run l = l.kinds.items ≡ map kind_run (take l.run-index l.fn.runs)
