-- The lines of headers, written one after the other.
use Rattle.std.proofs.Common.{◌≡◌, ℕ, ◌+◌, ◌^◌, ◌<◌, List, ◌∷◌, ◌++◌, length, ap, ◌∙◌, append_assoc, arith}
use Rattle.std.proofs.Output.{has_written_append}
use Rattle.std.specs.Fmt.{HasWritten, IsPlainFormatter}
use Rattle.std.specs.declared.fmt.Formatter.{Formatter}
use Rattle.xmas_elf.specs.Report.{lines_from}

-- the index stays small, and the written lines and the lines of the remaining headers are all lines
abbrev pub LinesSoFar : {W H : Type 0} → (W → List ℕ → W → Type 0) → (ℕ → H → List ℕ) → List ℕ → Formatter W → ℕ → List H → Formatter W → Type 0
LinesSoFar took line all initial index headers f = (index + length headers < 2 ^ 60)
    × (IsPlainFormatter initial → (written : List ℕ) × HasWritten took initial written f
    × (written ++ lines_from line index headers ≡ all))

-- the state of the loop after one more header
pub next_line : {W H : Type 0} (took : W → List ℕ → W → Type 0) (line : ℕ → H → List ℕ) (all : List ℕ) (initial f g : Formatter W) (index : ℕ) (headers others : List H) (h : H)
    → headers ≡ h ∷ others → (IsPlainFormatter f → HasWritten took f (line index h) g)
    → LinesSoFar took line all initial index headers f → LinesSoFar took line all initial (index + 1) others g
next_line took line all initial f g index headers others h is wrote so_far = (
  omega (arith, ap length is, so_far.0),
  λ plain. let (written, before, made) = so_far.1 plain in (
    written ++ line index h,
    has_written_append _ _ _ _ _ _ before (wrote before.plain),
    append_assoc written (line index h) (lines_from line (index + 1) others) ∙ (rw is at made),
  ),
)
