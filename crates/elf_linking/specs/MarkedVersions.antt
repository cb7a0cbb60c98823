-- Where the first definition with a number lies, for the numbers below 64 (LSB, "Symbol Versioning"; that such
-- places are kept is this project's own).
use Rattle.std.specs.Prelude.{◌≡◌, ◌≢◌, ℕ, zero, suc, ◌+◌, ◌-◌, ◌%◌, ◌==◌, ◌&&◌, nat_lt, not, Bool, Option, Some, None, List, length, slice_index, slice_set, if◌then◌else◌}
use Rattle.elf_base.specs.Number.{number}
use Rattle.elf_base.specs.declared.bytes.Order.{Order}

-- the definition at a place has a number, in bits 0 to 14 of its own, and isn't the base
abbrev pub has_number_at : Order → List ℕ → ℕ → ℕ → Bool
has_number_at order bytes n place = number order 2 (place + 4) bytes % 0x8000 == n && not (number order 2 (place + 2) bytes % 2 == 1)

-- the place of the first such definition, among those from a place on, at most `count` of them
unfoldable pub first_place : Order → List ℕ → ℕ → ℕ → ℕ → Option ℕ
first_place order bytes n start zero = None
first_place order bytes n start (suc count) = let next = number order 4 (start + 16) bytes in
    if nat_lt (length bytes) (start + 20) then None
    else (if has_number_at order bytes n start then Some start
    else (if next == 0 then None else first_place order bytes n (start + next) count))

-- a mark that isn't 0 is the place plus 1 of the first definition, of at most `count`, whose number is its index
abbrev pub AreMarks : Order → List ℕ → ℕ → List ℕ → Type 0
AreMarks order bytes count marks =
    (n : ℕ) → slice_index marks n ≢ 0 → first_place order bytes n 0 count ≡ Some (slice_index marks n - 1)

-- the marks with that of a definition, unless it is the base, or there is one with its number
abbrev pub marked_with : ℕ → ℕ → ℕ → List ℕ → List ℕ
marked_with n flags place marks =
    if nat_lt n 64 && (slice_index marks n == 0 && not (flags % 2 == 1)) then slice_set marks n (place + 1) else marks

-- the marks with that of the definition at a place
abbrev pub marked_at : Order → List ℕ → ℕ → List ℕ → List ℕ
marked_at order bytes place marks =
    marked_with (number order 2 (place + 4) bytes % 0x8000) (number order 2 (place + 2) bytes) place marks
