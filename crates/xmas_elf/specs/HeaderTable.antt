-- Tables of headers: the section header table and the program header table (gABI, "Section Header" and
-- "Program Header"; where a list ends is this project's own).
use Rattle.std.specs.Prelude.{◌≡◌, ◌≢◌, ℕ, zero, suc, ◌+◌, ◌-◌, ◌*◌, ◌<◌, ◌≤◌, ◌==◌, ◌||◌, ◌⊎◌, Bool, List, [], ◌∷◌, length, MatchOption, Option, Result, Ok, Err}
use Rattle.std.specs.Iterator.{YieldsFirst}
use Rattle.std.specs.List.{HoldsAt}
use Rattle.xmas_elf.specs.Prelude.{ElfError}

-- the offset of entry `index` of a table; entry `index` ends where the next begins
abbrev pub entry_place : ℕ → ℕ → ℕ → ℕ
entry_place offset entry_size index = offset + index * entry_size

-- a known class: 1, of 32 bits, or 2, of 64 bits
abbrev pub IsKnownClass : ℕ → Type 0
IsKnownClass class = (class ≡ 1) ⊎ (class ≡ 2)

-- whether a class is known
abbrev pub is_known_class : ℕ → Bool
is_known_class class = class == 1 || class == 2

-- the items are the headers 0, 1, 2 and so on, up to the first that cannot be read, but not more than `limit`
pub record IsLongest {H : Type 0} (header_at : ℕ → Result H ElfError) (limit : ℕ) (items : List H) : Type 0 where
  pub counted : length items ≤ limit
  pub each : (i : ℕ) → i < length items → HoldsAt (λ h. header_at i ≡ Ok h) items i
  pub longest : (h : H) → length items < limit → header_at (length items) ≢ Ok h

-- each header at an index below `count` ends within `len` bytes, and is decoded at its offset
abbrev pub IsLaidOut : {H : Type 0} → (ℕ → Result H ElfError) → (ℕ → H) → ℕ → ℕ → ℕ → ℕ → ℕ → Type 0
IsLaidOut header_at at_place offset entry_size size count len = (i : ℕ) → i < count
    → (entry_place offset entry_size i + size ≤ len) × (header_at i ≡ Ok (at_place (entry_place offset entry_size i)))

-- each header that can be read at an index below `high` has the property
abbrev pub EachBelow : {H : Type 0} → (ℕ → Result H ElfError) → (H → Type 0) → ℕ → Type 0
EachBelow {H} header_at P high = (i : ℕ) (h : H) → i < high → header_at i ≡ Ok h → P h

-- a header, if it can be read, before the headers after it
abbrev pub before : {H : Type 0} → Result H ElfError → List H → List H
before (Ok h) others = h ∷ others
before (Err error) others = []

-- the headers from `index` on, at most `count`, up to the first that cannot be read
abbrev pub headers_from : {H : Type 0} → (ℕ → Result H ElfError) → ℕ → ℕ → List H
headers_from header_at index zero = []
headers_from header_at index (suc count) = before (header_at index) (headers_from header_at (suc index) count)

-- the headers from `index` on, below `limit`, up to the first that cannot be read
abbrev pub header_rest : {H : Type 0} → (ℕ → Result H ElfError) → ℕ → ℕ → List H
header_rest header_at limit index = headers_from header_at index (limit - index)

-- the headers of a table in order, as a function: the list of `IsLongest`
abbrev pub header_list : {H : Type 0} → (ℕ → Result H ElfError) → ℕ → List H
header_list header_at limit = header_rest header_at limit 0

-- one call of `next` of an iterator over headers: it returns the header at the next index and advances the
-- index; at the end it returns nothing and keeps the index
abbrev pub HeaderStep : {I H : Type 0} → (I → List H) → (I → ℕ) → (I → ℕ → Result H ElfError) → I → Option H → I → Type 0
HeaderStep rest index_of header_at old result new = YieldsFirst rest old result new
    × MatchOption result (index_of new ≡ index_of old)
    (λ h. (index_of new ≡ index_of old + 1) × (header_at old (index_of old) ≡ Ok h))
