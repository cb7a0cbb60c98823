-- Numbers by which words are sorted: a first address and an index in one number (this project's own).
use Rattle.std.specs.Prelude.{◌≡◌, ◌<◌, ◌+◌, ◌-◌, ◌/◌, ◌%◌, ◌^◌, ℕ, List, length, slice_index}

-- the index of a key, which has it from the greatest down
abbrev pub key_index : ℕ → ℕ
key_index key = (2 ^ 32 - 1) - key % 2 ^ 32

-- the first address at the index of a key is as far from the least one as the key says
abbrev pub IsKey : (ℕ → ℕ × ℕ) → ℕ → ℕ → Type 0
IsKey range_of least key = (range_of (key_index key)).0 ≡ least + key / 2 ^ 32

-- beside words, keys: the first addresses at the words are as far from the least one as these say
pub record AreKeys (range_of : ℕ → ℕ × ℕ) (words keys : List ℕ) : Type 0 where
  pub least : ℕ
  pub count : length keys ≡ length words
  pub begin_at : (place : ℕ) → place < length words → (range_of (slice_index words place)).0 ≡ least + slice_index keys place / 2 ^ 32
