-- Texts ended by a zero byte (gABI, "String Table").
use Rattle.std.specs.Prelude.{◌≡◌, ◌≢◌, ◌↔◌, ℕ, ◌==◌, ◌<◌, ◌≤◌, nat_lt, List, [], ◌∷◌, ◌++◌, length, drop, slice_index, not, is_none, unwrap_or, option_map, Option, None, Some, Result, Ok, Err, IsOkAnd, if◌then◌else◌}
use Rattle.std.specs.Borrow.{Bor}
use Rattle.std.specs.Str.{IsUtf8, is_utf8}
use Rattle.elf_base.specs.FirstError.{and_then, unless}
use Rattle.elf_base.specs.declared.error.ElfError.{ElfError}
use Rattle.elf_base.specs.declared.error.ElfError.TheVariants.{TextStart, TextEnd, TextUtf8}

-- the bytes from `start` on begin with `text`, which has no zero byte, and then a zero byte
pub record EndsInZero (bytes : List ℕ) (start : ℕ) (text : List ℕ) : Type 0 where
  pub after : List ℕ
  pub begins : drop start bytes ≡ text ++ (0 ∷ after)
  pub no_zero : (k : ℕ) → k < length text → slice_index text k ≢ 0

-- the text at `start`: valid UTF-8 without a zero byte, followed by a zero byte
pub record IsText (bytes : List ℕ) (start : ℕ) (text : List ℕ) : Type 0 where
  pub utf8 : IsUtf8 text
  pub ended : EndsInZero bytes start text

-- no byte from `start` on is zero
abbrev pub NoZeroFrom : List ℕ → ℕ → Type 0
NoZeroFrom bytes start = (k : ℕ) → start ≤ k → k < length bytes → slice_index bytes k ≢ 0

-- why no zero byte ends the bytes from `start` on
abbrev pub BytesError : List ℕ → ℕ → ElfError → Type 0
BytesError bytes start TextStart = length bytes < start
BytesError bytes start TextEnd = (start ≤ length bytes) × NoZeroFrom bytes start
BytesError bytes start _ = ⊥

-- why there is no text at `start`
abbrev pub TextError : List ℕ → ℕ → ElfError → Type 0
TextError bytes start TextStart = length bytes < start
TextError bytes start TextEnd = (start ≤ length bytes) × NoZeroFrom bytes start
TextError bytes start TextUtf8 = (text : List ℕ) × EndsInZero bytes start text × (IsUtf8 text → ⊥)
TextError bytes start _ = ⊥

-- the bytes before the first zero byte, if there is one
abbrev pub before_zero : List ℕ → Option (List ℕ)
before_zero [] = None
before_zero (byte ∷ bytes) = if byte == 0 then Some [] else option_map (λ text. byte ∷ text) (before_zero bytes)

-- the bytes from `start` up to the first zero byte, or why there are none, as a function
unfoldable pub bytes_up_to_zero_of : List ℕ → ℕ → Result (List ℕ) ElfError
bytes_up_to_zero_of bytes start = let part = before_zero (drop start bytes) in unless (
    (nat_lt (length bytes) start, TextStart)
    ∷ (is_none part, TextEnd)
    ∷ []) (unwrap_or part [])

-- bytes as a text
abbrev pub as_text : List ℕ → Result (List ℕ) ElfError
as_text bytes = unless ((not (is_utf8 bytes), TextUtf8) ∷ []) bytes

-- the text at `start`, or why there is none, as a function
unfoldable pub text_of : List ℕ → ℕ → Result (List ℕ) ElfError
text_of bytes start = and_then (bytes_up_to_zero_of bytes start) as_text

-- a text has the property exactly if it is the returned bytes and they are UTF-8
abbrev pub TextIfUtf8 : {E : Type 0} → (List ℕ → Type 0) → Result (Bor (List ℕ)) E → Type 0
TextIfUtf8 Is result = (text : List ℕ) → Is text ↔ IsOkAnd result (λ part. (part.now ≡ text) × IsUtf8 text)

-- the returned bytes as a text
abbrev pub lent_text : Result (Bor (List ℕ)) ElfError → Result (List ℕ) ElfError
lent_text (Ok part) = as_text part.now
lent_text (Err error) = Err error
