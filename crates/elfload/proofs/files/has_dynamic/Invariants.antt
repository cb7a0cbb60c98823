use Rattle.std.proofs.Common.{◌<◌, ℕ}
use Rattle.std.specs.Prelude.{IfSome, slice_get}
use Rattle.elfload.specs.Files.{AreStatic}
use Rattle.elfload.proofs.files.has_dynamic.Given as goal

-- the files so far have no dynamic segment
abbrev pub invariant-loop-input : goal.invariant-loop-input
invariant-loop-input l = (i : ℕ) → i < l.input-index → IfSome (slice_get l.inputs i) (λ input. AreStatic input.bytes.items)
