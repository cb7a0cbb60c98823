-- Control characters of a name, and the other bytes.
use Rattle.std.proofs.Common.{◌≡◌, ◌≤◌, leb, ◌<◌, ◌+◌, ℕ, [], ◌∷◌, true, false, inl, inr, refl, arith}
use Rattle.std.proofs.lemmas.Bool.{and_parts, leb-true, or_cases}
use Rattle.std.specs.Char.{is_ascii_control}
use Rattle.std.specs.Int.{is_in_range}
use Rattle.program_ends.specs.Names.{escaped_byte}

pub plain_byte : (byte : ℕ) → is_ascii_control byte ≡ false → escaped_byte byte ≡ byte ∷ []
plain_byte byte is = rw is refl

pub control_byte : (byte : ℕ) → is_ascii_control byte ≡ true → escaped_byte byte ≡ 94 ∷ (byte + 64) ∷ []
control_byte byte is = rw is refl

in_range_below : (low high byte : ℕ) → is_in_range low high byte ≡ true → byte < high + 1
in_range_below low high byte is = let below : byte ≤ high = leb-true byte high (and_parts (leb low byte) (leb byte high) is).1 in omega (arith, below)

pub control_below : (byte : ℕ) → is_ascii_control byte ≡ true → byte < 128
control_below byte is = elim (or_cases (is_in_range 0 31 byte) (is_in_range 127 127 byte) is) [
  | inl low ↦ (let below = in_range_below 0 31 byte low in omega (arith, below))
  | inr last ↦ (let below = in_range_below 127 127 byte last in omega (arith, below))
]
