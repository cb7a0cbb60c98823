-- The hash number of a text (gABI, "Hash Table"; the modulus of the sum is this project's own).
use Rattle.std.specs.Prelude.{ℕ, ◌+◌, ◌*◌, ◌/◌, ◌%◌, ◌^◌, List, fold, bit_xor}

-- the hash number after one more byte
abbrev pub hash_step : ℕ → ℕ → ℕ
hash_step h c = let t = (16 * h + c) % 2 ^ 32 in bit_xor (t % 2 ^ 28) (16 * (t / 2 ^ 28))

-- the hash number of the bytes of a text
unfoldable pub hash_number : List ℕ → ℕ
hash_number bytes = fold hash_step 0 bytes
