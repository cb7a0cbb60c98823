-- CRC-32 (ISO 3309, as GNU's tools write it into `.gnu_debuglink`). A polynomial over two elements of degree below 32 is a
-- number of 32 bits: its lowest bit is the coefficient of x^31, and its highest that of 1.
use Rattle.std.specs.Prelude.{ℕ, zero, suc, ◌/◌, ◌%◌, ◌==◌, List, [], ◌∷◌, ◌++◌, bit_xor, if◌then◌else◌}

-- the generator without its x^32: x^26 + x^23 + x^22 + x^16 + x^12 + x^11 + x^10 + x^8 + x^7 + x^5 + x^4 + x^2 + x + 1
abbrev pub generator : ℕ
generator = 0xEDB88320

-- a polynomial times x, modulo the generator: where it has x^31, the generator is subtracted
unfoldable pub times_x : ℕ → ℕ
times_x remainder = if remainder % 2 == 1 then bit_xor (remainder / 2) generator else remainder / 2

-- the remainder of a message with one more bit, times x^32, modulo the generator
abbrev pub after_bit : ℕ → ℕ → ℕ
after_bit remainder bit = times_x (bit_xor remainder bit)

-- the same with more bits, one after the other
abbrev pub after_bits : ℕ → List ℕ → ℕ
after_bits remainder [] = remainder
after_bits remainder (bit ∷ bits) = after_bits (after_bit remainder bit) bits

-- so many bits of a number, the lowest first
abbrev pub bits_of : ℕ → ℕ → List ℕ
bits_of zero number = []
bits_of (suc count) number = number % 2 ∷ bits_of count (number / 2)

-- the bits of a message
abbrev pub message_bits : List ℕ → List ℕ
message_bits [] = []
message_bits (byte ∷ bytes) = bits_of 8 byte ++ message_bits bytes

-- the checksum of a message: the remainder of its bits from the initial value on, with each bit inverted
abbrev pub checksum : List ℕ → ℕ
checksum bytes = bit_xor (after_bits 0xFFFFFFFF (message_bits bytes)) 0xFFFFFFFF

-- the remainder of the eight bits of a byte from 0 on
abbrev pub table_entry : ℕ → ℕ
table_entry byte = after_bits 0 (bits_of 8 byte)
