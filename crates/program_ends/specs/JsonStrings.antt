-- What the characters between the quotation marks of a JSON string spell (RFC 8259, section 7).
use Rattle.std.specs.Prelude.{◌≡◌, ◌≢◌, ◌<◌, ◌≤◌, ◌⊎◌, ℕ, ◌+◌, ◌*◌, false, List, [], ◌∷◌, ◌++◌, codes}
use Rattle.std.specs.Fmt.{digit_glyph}

-- no character; or a byte from 0x20 on, which means itself, and neither the quotation mark nor the reverse solidus; or
-- one of these two after a reverse solidus; or a number in four hexadecimal digits, after `\u`
pub data Spells : List ℕ → List ℕ → Type 0 where
  empty : Spells [] []
  unescaped : (byte : ℕ) (characters text : List ℕ) → 32 ≤ byte → byte ≢ 34 → byte ≢ 92 → Spells characters text
      → Spells (byte ∷ characters) (byte ∷ text)
  mark : (byte : ℕ) (characters text : List ℕ) → (byte ≡ 34) ⊎ (byte ≡ 92) → Spells characters text
      → Spells (92 ∷ byte ∷ characters) (byte ∷ text)
  number : (high low : ℕ) (characters text : List ℕ) → high < 8 → low < 16 → Spells characters text
      → Spells (codes "\\u00" ++ (digit_glyph false high ∷ digit_glyph false low ∷ characters)) ((16 * high + low) ∷ text)
