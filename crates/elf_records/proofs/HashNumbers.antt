-- The hash number of a text.
use Rattle.std.proofs.Common.{ℕ, ◌≡◌, ◌+◌, ◌*◌, ◌/◌, ◌%◌, ◌^◌, ◌<◌, List, [], ◌∷◌, arith, length, take}
use Rattle.std.specs.Prelude.{bit_xor, fold, get_or}
use Rattle.std.proofs.lemmas.List.Sums.{fold_more}
use Rattle.std.proofs.lemmas.Nat.{xor_block, xor_lt}
use Rattle.elf_records.specs.HashNumber.{hash_number, hash_step}

-- a step is below 2 to the 28, since both of its parts are
hash_step-below : (h c : ℕ) → hash_step h c < 2 ^ 28
hash_step-below h c =
    let t = (16 * h + c) % 2 ^ 32 in
    xor_lt 28 (t % 2 ^ 28) (16 * (t / 2 ^ 28)) (omega arith) (omega arith)

fold-below : (bytes : List ℕ) (h : ℕ) → h < 2 ^ 28 → fold hash_step h bytes < 2 ^ 28
fold-below [] h below = below
fold-below (byte ∷ bytes) h below = fold-below bytes (hash_step h byte) (hash_step-below h byte)

pub hash_number-below : (bytes : List ℕ) → hash_number bytes < 2 ^ 28
unfolding hash_number
hash_number-below bytes = fold-below bytes 0 (omega arith)

-- a step with its parts multiplied by 16
shifted_step : (t : ℕ) → bit_xor (16 * (t % 2 ^ 28)) (256 * (t / 2 ^ 28))
    ≡ 16 * bit_xor (t % 2 ^ 28) (16 * (t / 2 ^ 28))
shifted_step t =
    let low = t % 2 ^ 28 in
    let high = 16 * (t / 2 ^ 28) in
    let block : bit_xor (low * 2 ^ 4 + 0) (high * 2 ^ 4 + 0) ≡ bit_xor low high * 2 ^ 4 + bit_xor 0 0 = xor_block 4 low high 0 0 (omega arith) (omega arith) in
    let one : 16 * low ≡ low * 2 ^ 4 + 0 = omega arith in
    let other : 256 * (t / 2 ^ 28) ≡ high * 2 ^ 4 + 0 = omega arith in
    let whole : bit_xor low high * 2 ^ 4 + bit_xor 0 0 ≡ 16 * bit_xor low high = omega arith in
    cc

-- the hash number of a text with one more byte
hash_number-more : (bytes : List ℕ) (i : ℕ) → i < length bytes
    → hash_number (take (i + 1) bytes) ≡ hash_step (hash_number (take i bytes)) (get_or bytes i 0)
unfolding hash_number
hash_number-more bytes i below = fold_more hash_step 0 bytes i 0 below

-- the hash number of a text with one more byte, multiplied by 16
pub shifted_more : (bytes : List ℕ) (i shifted byte : ℕ) → i < length bytes → byte ≡ get_or bytes i 0
    → shifted ≡ 16 * hash_number (take i bytes)
    → bit_xor (16 * ((shifted + byte) % 2 ^ 32 % 2 ^ 28)) (256 * ((shifted + byte) % 2 ^ 32 / 2 ^ 28))
    ≡ 16 * hash_number (take (i + 1) bytes)
shifted_more bytes i shifted byte below is same =
    let t = (16 * hash_number (take i bytes) + get_or bytes i 0) % 2 ^ 32 in
    rw (same, is, hash_number-more bytes i below) (shifted_step t)
