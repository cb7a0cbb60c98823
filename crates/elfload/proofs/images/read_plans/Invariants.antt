use Rattle.std.proofs.Common.{◌≡◌, length, take}
use Rattle.elfload.specs.Images.{ArePlansOf}
use Rattle.elfload.proofs.images.read_plans.Given as goal

-- the plans of the objects so far, and their number
abbrev pub invariant-loop-index : goal.invariant-loop-index
invariant-loop-index g l = ArePlansOf l.page (take l.index l.fn.objects) l.plans.items × (length l.plans.items ≡ l.index)
