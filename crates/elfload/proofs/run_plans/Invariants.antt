use Rattle.std.proofs.Common.{◌≡◌, ◌≤◌, ◌<◌, ℕ, take}
use Rattle.std.specs.Prelude.{IfSome, slice_get}
use Rattle.elfload.specs.Files.{AreBytesLoaded}
use Rattle.elfload.specs.Statuses.{ArePlanEnds}
use Rattle.elfload.proofs.run_plans.Given as goal

-- a status; without a fault all files so far are loaded; and how they end
abbrev pub invariant-loop-input : goal.invariant-loop-input
invariant-loop-input g l = (l.status ≤ 1) × (l.status ≡ 0 → (i : ℕ) → i < l.input-index
    → IfSome (slice_get l.fn.inputs i) (λ input. AreBytesLoaded l.fn.page input.bytes.items))
    × ArePlanEnds l.fn.form l.fn.page (take l.input-index l.fn.inputs) l.status
