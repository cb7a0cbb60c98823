-- Ranges of bytes (this project's own).
use Rattle.std.specs.Prelude.{◌≡◌, ℕ, ◌+◌, ◌≤◌, nat_lt, List, [], ◌∷◌, length, drop, take, Result}
use Rattle.elf_base.specs.FirstError.{unless}
use Rattle.elf_base.specs.declared.error.ElfError.TheVariants.{DataRange}
use Rattle.xmas_elf.specs.Prelude.{ElfError}

-- `range` is the `count` bytes from place `start` on, all of which are within the bytes
pub record IsRange (bytes : List ℕ) (start count : ℕ) (range : List ℕ) : Type 0 where
  pub within : start + count ≤ length bytes
  pub bytes_are : range ≡ take count (drop start bytes)
  pub count_is : length range ≡ count

-- the `count` bytes from place `start` on, or `DataRange`
abbrev pub range_of : List ℕ → ℕ → ℕ → Result (List ℕ) ElfError
range_of bytes start count = unless (
    (nat_lt (length bytes) (start + count), DataRange)
    ∷ []) (take count (drop start bytes))
