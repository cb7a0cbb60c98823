-- The result of a comparison of a text with the bytes at a place (this project's own).
use Rattle.std.specs.Prelude.{◌≡◌, ◌≢◌, ℕ, ◌+◌, ◌<◌, ◌≤◌, ◌⊎◌, Bool, true, false, List, [], ◌∷◌, ◌++◌, length, drop, slice_index}
use Rattle.elf_base.specs.Text.{IsText}

-- both lists have the same bytes below index `k`
abbrev pub SameBelow : List ℕ → List ℕ → ℕ → Type 0
SameBelow bytes wanted k = (j : ℕ) → j < k → slice_index bytes j ≡ slice_index wanted j

-- `k` is the first index of `wanted` at which `bytes` has no byte, or a different one; `count` bytes were
-- compared: `k`, or `k` and one more
pub record DiffersAt (bytes wanted : List ℕ) (k count : ℕ) : Type 0 where
  pub below : k < length wanted
  pub same : SameBelow bytes wanted k
  pub differs : ((length bytes ≡ k) × (count ≡ k))
      ⊎ ((k < length bytes) × (slice_index bytes k ≢ slice_index wanted k) × (count ≡ k + 1))

-- the text contains a zero byte
abbrev pub HasZero : List ℕ → Type 0
HasZero text = (k : ℕ) × (k < length text) × (slice_index text k ≡ 0)

-- the bytes begin with `wanted` and a zero byte, and all of these were compared; or the bytes differ from
-- them
abbrev pub FrontCompared : List ℕ → List ℕ → Bool → ℕ → Type 0
FrontCompared bytes wanted true count = (length wanted < length bytes) × SameBelow bytes wanted (length wanted)
    × (slice_index bytes (length wanted) ≡ 0) × (count ≡ length wanted + 1)
FrontCompared bytes wanted false count = (k : ℕ) × DiffersAt bytes (wanted ++ (0 ∷ [])) k count

-- nothing was compared: the place is past the end, or the text has a zero byte
abbrev pub NotCompared : List ℕ → ℕ → List ℕ → ℕ → Type 0
NotCompared bytes start text count = ((length bytes < start) ⊎ HasZero text) × (count ≡ 0)

-- the text is at `start`; or nothing was compared; or the bytes from `start` on differ from the text and a
-- zero byte
abbrev pub TextCompared : List ℕ → ℕ → List ℕ → Bool → ℕ → Type 0
TextCompared bytes start text true count = IsText bytes start text × (count ≡ length text + 1)
TextCompared bytes start text false count = NotCompared bytes start text count
    ⊎ ((start ≤ length bytes) × ¬ HasZero text × ((k : ℕ) × DiffersAt (drop start bytes) (text ++ (0 ∷ [])) k count))
