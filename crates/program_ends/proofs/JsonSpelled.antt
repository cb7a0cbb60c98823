-- A text in a JSON string spells itself.
use Rattle.std.proofs.Common.{◌≡◌, ◌/◌, ◌%◌, ◌==◌, ◌||◌, nat_lt, ℕ, List, [], ◌∷◌, ◌++◌, Bool, true, false, cond, codes, inl, inr, refl, subst, arith}
use Rattle.std.proofs.Math.Nat.{div-add-mod}
use Rattle.std.proofs.lemmas.Bool.{eqb-false, eqb-true, ltb-false, ltb-true}
use Rattle.std.specs.List.{flat_map}
use Rattle.program_ends.specs.Json.{hex_byte, string_byte}
use Rattle.program_ends.specs.JsonStrings.{Spells, empty, mark, number, unescaped}

module _ (byte : ℕ) (characters text : List ℕ) (others : Spells characters text) where
  by_tests : (small quotation solidus : Bool) → nat_lt byte 32 ≡ small → (byte == 34) ≡ quotation → (byte == 92) ≡ solidus
      → Spells (cond (small || quotation || solidus) (cond small (codes "\\u00" ++ hex_byte byte) (92 ∷ byte ∷ [])) (byte ∷ []) ++ characters) (byte ∷ text)
  by_tests true quotation solidus is second third =
      let below = ltb-true byte 32 is in
      subst (λ value. Spells (codes "\\u00" ++ (hex_byte byte ++ characters)) (value ∷ text)) (div-add-mod byte 16)
      (number (byte / 16) (byte % 16) characters text (omega (arith, below)) (omega arith) others)
  by_tests false true solidus first is third = mark byte characters text (inl (eqb-true byte 34 is)) others
  by_tests false false true first second is = mark byte characters text (inr (eqb-true byte 92 is)) others
  by_tests false false false first second third = unescaped byte characters text (ltb-false byte 32 first) (eqb-false byte 34 second) (eqb-false byte 92 third) others

  spelled_byte : Spells (string_byte byte ++ characters) (byte ∷ text)
  spelled_byte = by_tests _ _ _ refl refl refl

pub spelled : (text : List ℕ) → Spells (flat_map string_byte text) text
spelled [] = empty
spelled (byte ∷ text) = spelled_byte byte (flat_map string_byte text) text (spelled text)
