use Rattle.std.proofs.Common.{take}
use Rattle.elfsize.specs.Ends.{AreEnds}
use Rattle.elfsize.proofs.run_on_each.Given as goal

-- the files so far
abbrev pub invariant-loop-path : goal.invariant-loop-path
invariant-loop-path g l =
    AreEnds l.fn.options g.R.File.Read.remaining g.S.AsStr.text (take l.path-index l.fn.paths) l.status l.sums
