-- Comparison of the names of libraries, in the order of a cache (glibc, `_dl_cache_libcmp`).
use Rattle.std.specs.Prelude.{◌≡◌, ℕ, Bool, true, ◌+◌, ◌-◌, ◌*◌, ◌^◌, ◌%◌, ◌==◌, ◌&&◌, nat_le, nat_lt, ◌<◌, length, List, [], ◌∷◌, Option, None, Some, if◌then◌else◌}
use Rattle.std.specs.Ordering.{nat_cmp, ordering_then}
use Rattle.std.specs.declared.cmp.Ordering.{Ordering}
use Rattle.std.specs.declared.cmp.Ordering.TheVariants.{Less, Equal, Greater}
use Rattle.elf_search.specs.declared.cache.pieces.Piece.{Piece}
use Rattle.elf_search.specs.declared.cache.pieces.Piece.TheVariants.{Number, Byte}

-- whether a byte is a digit
abbrev pub is_digit : ℕ → Bool
is_digit byte = nat_le 48 byte && nat_le byte 57

-- the pieces of a text, which ends before a zero byte: a run of digits is one, its number modulo 2 to the 32, and each
-- other byte. The number is that of the digits before the text, if there are any.
abbrev pub pieces_after : Option ℕ → List ℕ → List Piece
pieces_after None [] = []
pieces_after (Some n) [] = Number n ∷ []
pieces_after None (byte ∷ bytes) = if is_digit byte then pieces_after (Some (byte - 48)) bytes
    else (if byte == 0 then [] else Byte byte ∷ pieces_after None bytes)
pieces_after (Some n) (byte ∷ bytes) = if is_digit byte then pieces_after (Some ((10 * n + (byte - 48)) % 2 ^ 32)) bytes
    else Number n ∷ (if byte == 0 then [] else Byte byte ∷ pieces_after None bytes)

-- the pieces of a text
abbrev pub pieces : List ℕ → List Piece
pieces bytes = pieces_after None bytes

-- the order of two numbers: the sign of their difference modulo 2 to the 32
abbrev pub number_order : ℕ → ℕ → Ordering
number_order m n = if m == n then Equal else (if nat_lt ((m + 2 ^ 32 - n) % 2 ^ 32) (2 ^ 31) then Greater else Less)

-- the order of two pieces: numbers by the sign of their difference modulo 2 to the 32, a number after all bytes, and bytes
-- as signed numbers
abbrev pub piece_order : Piece → Piece → Ordering
piece_order (Number m) (Number n) = number_order m n
piece_order (Number m) (Byte b) = Greater
piece_order (Byte a) (Number n) = Less
piece_order (Byte a) (Byte b) = nat_cmp ((a + 128) % 256) ((b + 128) % 256)

-- the order of two lists of pieces, which end with the byte 0
abbrev pub pieces_order : List Piece → List Piece → Ordering
pieces_order [] [] = Equal
pieces_order [] (q ∷ qs) = ordering_then (piece_order (Byte 0) q) Less
pieces_order (p ∷ ps) [] = ordering_then (piece_order p (Byte 0)) Greater
pieces_order (p ∷ ps) (q ∷ qs) = ordering_then (piece_order p q) (pieces_order ps qs)

-- the order of two names
abbrev pub name_order : List ℕ → List ℕ → Ordering
name_order one other = pieces_order (pieces one) (pieces other)

-- the piece is a number
abbrev pub IsNumber : Piece → Type 0
IsNumber (Number n) = Unit {0}
IsNumber (Byte b) = ⊥

-- a text begins with a piece, before the rest; the end is the byte 0
pub data StartsWith (bytes : List ℕ) : Piece → List ℕ → Type 0 where
  more : (piece : Piece) (rest : List ℕ) → pieces bytes ≡ piece ∷ pieces rest → length rest < length bytes → (piece_order piece (Byte 0) ≡ Equal → ⊥) → (piece_order (Byte 0) piece ≡ Equal → ⊥) → StartsWith bytes piece rest
  ended : (rest : List ℕ) → pieces bytes ≡ [] → StartsWith bytes (Byte 0) rest

-- the numbers among the pieces are below 2 to the 31
abbrev pub are_small : List Piece → Bool
are_small [] = true
are_small (Number n ∷ ps) = nat_lt n (2 ^ 31) && are_small ps
are_small (Byte b ∷ ps) = are_small ps
