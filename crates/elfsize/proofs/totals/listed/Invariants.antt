use Rattle.elfsize.specs.Totals.{IsListed}
use Rattle.elfsize.proofs.totals.listed.Given as goal

-- the parts so far
abbrev pub invariant-loop-part : goal.invariant-loop-part
invariant-loop-part l = IsListed l.fn.totals l.part l.sizes.items
