use Rattle.std.proofs.Common.{◌<◌, take}
use Rattle.std.specs.List.{All}
use Rattle.elfsize.proofs.totals.part_count.Given as goal

-- the numbers so far are below it
abbrev pub invariant-loop-run : goal.invariant-loop-run
invariant-loop-run l = All (λ run. run.part < l.count) (take l.run-index l.fn.runs)
