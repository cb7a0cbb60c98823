-- Tokens at the front of a text, and texts with their tokens replaced, byte by byte.
use Rattle.std.proofs.Common.{◌≡◌, ◌≢◌, ℕ, zero, suc, List, [], ◌∷◌, ◌++◌, Some, None, true, false, length, drop, refl, ap, arith, ◌∙◌, sym}
use Rattle.std.proofs.lemmas.Bool.{eq-eqb, ne_eqb}
use Rattle.elf_search.specs.Tokens.{TokenParts, Values, is_known, is_unknown_at, replaced, token_at, value_of}

pub known_end : (values : Values) (text : List ℕ) → text ≡ [] → is_known values text ≡ true
known_end values text is = ap (is_known values) is

pub known_not : (values : Values) (text others : List ℕ) (byte : ℕ) → text ≡ byte ∷ others → byte ≡ 36 → is_unknown_at values others ≡ true → is_known values text ≡ false
known_not values text others byte is dollar unknown = ap (is_known values) is ∙ rw (eq-eqb byte 36 dollar, unknown) refl

pub known_other : (values : Values) (text others : List ℕ) (byte : ℕ) → text ≡ byte ∷ others → byte ≢ 36 → is_known values text ≡ is_known values others
known_other values text others byte is other = ap (is_known values) is ∙ rw (ne_eqb byte 36 other) refl

pub known_dollar : (values : Values) (text others : List ℕ) (byte : ℕ) → text ≡ byte ∷ others → byte ≡ 36 → is_unknown_at values others ≡ false → is_known values text ≡ is_known values others
known_dollar values text others byte is dollar known = ap (is_known values) is ∙ rw (eq-eqb byte 36 dollar, known) refl

pub replaced_end : (values : Values) (text : List ℕ) → text ≡ [] → replaced values 0 text ≡ []
replaced_end values text is = ap (replaced values 0) is

pub replaced_byte : (values : Values) (text others : List ℕ) (byte : ℕ) → text ≡ byte ∷ others → byte ≢ 36 → replaced values 0 text ≡ byte ∷ replaced values 0 others
replaced_byte values text others byte is other = ap (replaced values 0) is ∙ rw (ne_eqb byte 36 other) refl

pub replaced_dollar : (values : Values) (text others : List ℕ) (byte : ℕ) → text ≡ byte ∷ others → byte ≡ 36 → token_at values others ≡ None → replaced values 0 text ≡ 36 ∷ replaced values 0 others
replaced_dollar values text others byte is dollar none = ap (replaced values 0) is ∙ rw (eq-eqb byte 36 dollar, none) refl

-- bytes that are passed over may as well be dropped
pub replaced_behind : (values : Values) (skip : ℕ) (text : List ℕ) → replaced values skip text ≡ replaced values 0 (drop skip text)
replaced_behind values zero [] = refl
replaced_behind values (suc skip) [] = refl
replaced_behind values zero (byte ∷ text) = refl
replaced_behind values (suc skip) (byte ∷ text) = replaced_behind values skip text

pub replaced_token : (values : Values) (text others : List ℕ) (byte : ℕ) (token : TokenParts) → text ≡ byte ∷ others → byte ≡ 36 → token_at values others ≡ Some token → replaced values 0 text ≡ value_of token.value ++ replaced values 0 (drop token.length others)
replaced_token values text others byte token is dollar some = ap (replaced values 0) is ∙ (rw (eq-eqb byte 36 dollar, some) (ap (λ rest. value_of token.value ++ rest) (replaced_behind values token.length others)))

-- where nothing is left of a value and a token begins the text, its value and the text behind it are left
pub step_token : (values : Values) (value text others : List ℕ) (byte : ℕ) (token : TokenParts) (next behind : List ℕ) → length value ≡ 0 → text ≡ byte ∷ others → byte ≡ 36 → token_at values others ≡ Some token → next ≡ value_of token.value → behind ≡ drop token.length others → next ++ replaced values 0 behind ≡ value ++ replaced values 0 text
step_token values [] text others byte token next behind none is dollar some value_is behind_is =
    rw (value_is, behind_is) (sym (replaced_token values text others byte token is dollar some))
step_token values (first ∷ value) text others byte token next behind none is dollar some value_is behind_is = absurd (omega (arith, none))
