use Rattle.std.proofs.Common.{ℕ, ◌<◌}
use Rattle.elfload.specs.Images.{IsChecked}
use Rattle.elfload.proofs.images.check_images.Given as goal

-- the objects so far pass
abbrev pub invariant-loop-index : goal.invariant-loop-index
invariant-loop-index g l = (i : ℕ) → i < l.index → IsChecked g.E.Record.SIZE g.E.Entry.fields l.fn.objects l.fn.plans i
