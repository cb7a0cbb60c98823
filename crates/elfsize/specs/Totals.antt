-- The sizes of parts, by the runs of bytes that belong to them (this project's own).
use Rattle.std.specs.Prelude.{◌≡◌, ℕ, ◌<◌, ◌==◌, Bool, List, [], ◌∷◌, All, if◌then◌else◌, nat_lt, slice_index, take}
use Rattle.std.specs.List.{sum, sum_by}
use Rattle.std.specs.List.Sorted.{IsSortedBy}
use Rattle.elf_addresses.specs.Claims.{less_or}
use Rattle.elfsize.specs.declared.totals.Run.{Run}

-- the number of bytes of a part in runs
abbrev pub bytes_of : ℕ → List Run → ℕ
bytes_of part runs = sum_by (λ run. if run.part == part then run.size else 0) runs

-- the number of bytes in runs
abbrev pub all_bytes : List Run → ℕ
all_bytes runs = sum_by (λ run. run.size) runs

-- the larger of two parts comes first; of the same size the one with the smaller number
abbrev pub comes_first : Run → Run → Bool
comes_first one other = less_or other.size one.size (nat_lt one.part other.part)

-- the parts are in this order
abbrev pub IsLargestFirst : List Run → Type 0
IsLargestFirst runs = IsSortedBy comes_first runs

-- the sizes of the parts that have bytes in runs: each has its bytes, so that no part is there twice; none is left out;
-- and they sum to the bytes of the runs
pub record AreSizes (runs sizes : List Run) : Type 0 where
  pub each : All (λ one. (0 < one.size) × (one.size ≡ bytes_of one.part runs)) sizes
  pub none_left_out : (part : ℕ) → bytes_of part sizes ≡ bytes_of part runs
  pub sum : all_bytes sizes ≡ all_bytes runs
  pub largest_first : IsLargestFirst sizes

-- by the number of a part its bytes in runs
pub record AreTotals (runs : List Run) (totals : List ℕ) : Type 0 where
  pub each : (part : ℕ) → slice_index totals part ≡ bytes_of part runs
  pub sum : sum totals ≡ all_bytes runs

-- the size of a part, if it has bytes
abbrev pub listed : ℕ → ℕ → List Run
listed part size = if size == 0 then [] else record { part = part; size = size } ∷ []

-- the parts below a number that have bytes, by the totals
pub record IsListed (totals : List ℕ) (count : ℕ) (sizes : List Run) : Type 0 where
  pub each : All (λ one. (0 < one.size) × (one.size ≡ slice_index totals one.part)) sizes
  pub none_left_out : (part : ℕ) → bytes_of part sizes ≡ slice_index (take count totals) part
  pub sum : all_bytes sizes ≡ sum (take count totals)
