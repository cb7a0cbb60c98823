use Rattle.std.proofs.Common.{◌≡◌, take}
use Rattle.elfload.specs.Starts.{numbered}
use Rattle.elfload.proofs.starts.number_all.Given as goal

-- the functions of the values so far
abbrev pub invariant-loop-index : goal.invariant-loop-index
invariant-loop-index g l = l.starts.items ≡ numbered l.fn.other.path l.fn.other.step 0 (take l.index l.fn.values)
