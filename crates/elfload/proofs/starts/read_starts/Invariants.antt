use Rattle.std.proofs.Common.{take}
use Rattle.elfload.specs.Starts.{AreStartsOf}
use Rattle.elfload.proofs.starts.read_starts.Given as goal

-- the functions of the steps so far
abbrev pub invariant-loop-index : goal.invariant-loop-index
invariant-loop-index g l = AreStartsOf g.E.Entry.fields l.fn.inputs l.fn.objects (take l.index l.fn.steps) l.starts.items
