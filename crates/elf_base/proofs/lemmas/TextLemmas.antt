-- `text_of` and `IsText` agree, and so do the other texts that are computed of returned bytes.
use Rattle.std.proofs.Common.{◌≡◌, ◌≢◌, ℕ, zero, suc, ◌<◌, ◌==◌, Bool, true, false, ltb, not, is_none, unwrap_or, option_map, Option, None, Some, Result, Ok, Err, Bor, List, [], ◌∷◌, length, drop, slice_index, if◌then◌else◌, refl, subst, sym, ap, ◌∙◌, arith}
use Rattle.std.proofs.lemmas.Bool.{eqb-true, eqb-false}
use Rattle.std.specs.Prelude.{IsErrOf, IsOkAnd}
use Rattle.std.specs.Str.{IsUtf8, is_utf8}
use Rattle.std.proofs.lemmas.Str.{IsUtf8-from_is_utf8, is_utf8-from_IsUtf8}
use Rattle.elf_base.specs.FirstError.{and_then, unless}
use Rattle.elf_base.specs.Lent.{Answers}
use Rattle.elf_base.specs.Text.{EndsInZero, IsText, TextIfUtf8, as_text, before_zero, bytes_up_to_zero_of, lent_text, text_of}
use Rattle.elf_base.specs.declared.error.ElfError.{ElfError}
use Rattle.elf_base.specs.declared.error.ElfError.TheVariants.{TextStart, TextEnd, TextUtf8}
use Rattle.elf_base.proofs.Texts
-- the bytes up to a zero byte are those computed, and so are the reasons why there are none, and why there is no text
pub use Rattle.elf_base.proofs.Texts.{bytes-ended, bytes-failed, text_of-failed}

-- a byte other than zero before a text without a zero byte
no_zero_before : (byte : ℕ) (text : List ℕ) → byte ≢ 0 → ((k : ℕ) → k < length text → slice_index text k ≢ 0) → (k : ℕ) → k < length (byte ∷ text) → slice_index (byte ∷ text) k ≢ 0
no_zero_before byte text other no_zero zero below = other
no_zero_before byte text other no_zero (suc k) below = no_zero k (omega arith)

ends_later : (byte : ℕ) (bytes text : List ℕ) → byte ≢ 0 → EndsInZero bytes 0 text → EndsInZero (byte ∷ bytes) 0 (byte ∷ text)
ends_later byte bytes text other ended = record {
  after = ended.after;
  begins = ap (λ rest. byte ∷ rest) ended.begins;
  no_zero = no_zero_before byte text other ended.no_zero;
}

ends_here : (byte : ℕ) (bytes : List ℕ) → byte ≡ 0 → EndsInZero (byte ∷ bytes) 0 []
ends_here byte bytes is = record {
  after = bytes;
  begins = ap (λ first. first ∷ bytes) is;
  no_zero = λ k below. omega arith;
}

-- the text computed from a first byte and the bytes after it ends in a zero byte
ends_by : (byte : ℕ) (bytes text : List ℕ) (zero_first : Bool) (found : Option (List ℕ)) → (byte == 0) ≡ zero_first → ((later : List ℕ) → found ≡ Some later → EndsInZero bytes 0 later) → (if zero_first then Some [] else option_map (λ later. byte ∷ later) found) ≡ Some text → EndsInZero (byte ∷ bytes) 0 text
ends_by byte bytes text true found test ended is =
    let same : [] ≡ text = cc in subst (EndsInZero (byte ∷ bytes) 0) same (ends_here byte bytes (eqb-true byte 0 test))
ends_by byte bytes text false None test ended is = cc
ends_by byte bytes text false (Some later) test ended is =
    let same : byte ∷ later ≡ text = cc in
    subst (EndsInZero (byte ∷ bytes) 0) same (ends_later byte bytes later (eqb-false byte 0 test) (ended later refl))

before_zero-ends : (bytes text : List ℕ) → before_zero bytes ≡ Some text → EndsInZero bytes 0 text
before_zero-ends [] text is = cc
before_zero-ends (byte ∷ bytes) text is =
    ends_by byte bytes text (byte == 0) (before_zero bytes) refl (before_zero-ends bytes) is

from_start : (bytes : List ℕ) (start : ℕ) (text : List ℕ) → EndsInZero (drop start bytes) 0 text → EndsInZero bytes start text
from_start bytes start text ended = record { after = ended.after; begins = ended.begins; no_zero = ended.no_zero }

ended_by : (bytes : List ℕ) (start : ℕ) (part : List ℕ) (low : Bool) (found : Option (List ℕ)) → before_zero (drop start bytes) ≡ found → unless ((low, TextStart) ∷ (is_none found, TextEnd) ∷ []) (unwrap_or found []) ≡ Ok part → EndsInZero bytes start part
ended_by bytes start part true found before is = cc
ended_by bytes start part false None before is = cc
ended_by bytes start part false (Some later) before is =
    let same : later ≡ part = cc in
    subst (EndsInZero bytes start) same (from_start bytes start later (before_zero-ends (drop start bytes) later before))

-- `bytes_up_to_zero_of` is bytes only if a zero byte ends them
pub ended-bytes : (bytes : List ℕ) (start : ℕ) (part : List ℕ) → bytes_up_to_zero_of bytes start ≡ Ok part → EndsInZero bytes start part
unfolding bytes_up_to_zero_of
ended-bytes bytes start part is =
    ended_by bytes start part (ltb (length bytes) start) (before_zero (drop start bytes)) refl is

utf8_by : (bytes text : List ℕ) (utf8 : Bool) → is_utf8 bytes ≡ utf8 → unless ((not utf8, TextUtf8) ∷ []) bytes ≡ Ok text → (bytes ≡ text) × IsUtf8 text
utf8_by bytes text false valid is = absurd (cc)
utf8_by bytes text true valid is =
    let same : bytes ≡ text = cc in (same, subst IsUtf8 same (IsUtf8-from_is_utf8 bytes valid))

text_by : (bytes : List ℕ) (start : ℕ) (text : List ℕ) (found : Result (List ℕ) ElfError) → bytes_up_to_zero_of bytes start ≡ found → and_then found as_text ≡ Ok text → IsText bytes start text
text_by bytes start text (Err error) before is = cc
text_by bytes start text (Ok part) before is =
    let (same, utf8) = utf8_by part text (is_utf8 part) refl is in
    record { utf8 = utf8; ended = subst (EndsInZero bytes start) same (ended-bytes bytes start part before) }

-- `text_of` is a text exactly if it is the text at `start`
pub text_of-is : (bytes : List ℕ) (start : ℕ) (text : List ℕ) → text_of bytes start ≡ Ok text → IsText bytes start text
unfolding text_of
text_of-is bytes start text is = text_by bytes start text (bytes_up_to_zero_of bytes start) refl is

pub is-text_of : (bytes : List ℕ) (start : ℕ) (text : List ℕ) → IsText bytes start text → text_of bytes start ≡ Ok text
is-text_of = Texts.text_of-text

-- bytes as a text are themselves, if they are UTF-8, and otherwise an error
pub utf8-text : (bytes : List ℕ) → IsUtf8 bytes → as_text bytes ≡ Ok bytes
utf8-text bytes utf8 = rw (is_utf8-from_IsUtf8 bytes utf8) refl

pub not_utf8-text : (bytes : List ℕ) → (IsUtf8 bytes → ⊥) → as_text bytes ≡ Err TextUtf8
not_utf8-text bytes never = rw (Texts.not_utf8 bytes (is_utf8 bytes) refl never) refl

-- only the returned bytes have the property, so that an error means that no bytes have it
abbrev pub IfOnlyPart : (List ℕ → Type 0) → Result (Bor (List ℕ)) ElfError → Type 0
IfOnlyPart Is result = (part : List ℕ) → Is part → IsOkAnd result (λ lent. lent.now ≡ part)

-- that is so if only the computed bytes have it
pub if_only_part : (Is : List ℕ → Type 0) (answer : Result (List ℕ) ElfError) (r : Result (Bor (List ℕ)) ElfError) → Answers answer r → ((part : List ℕ) → Is part → answer ≡ Ok part) → IfOnlyPart Is r
if_only_part Is answer (Ok lent) exact computed part is = let same = computed part is in cc
if_only_part Is answer (Err error) exact computed part is = let same = computed part is in absurd (cc)

-- only the computed error is returned
pub fails_only : (answer : Result (List ℕ) ElfError) (r : Result (Bor (List ℕ)) ElfError) (why : ElfError) → Answers answer r → answer ≡ Err why → IsErrOf r why
fails_only answer (Ok lent) why exact failed = absurd (cc)
fails_only answer (Err error) why exact failed = cc

-- the texts with a property are the returned bytes, if these are UTF-8 and their text is the computed one
pub lent_texts : (Is : List ℕ → Type 0) (answer : Result (List ℕ) ElfError) (r : Result (Bor (List ℕ)) ElfError) → answer ≡ lent_text r → ((text : List ℕ) → answer ≡ Ok text → Is text) → ((text : List ℕ) → Is text → answer ≡ Ok text) → TextIfUtf8 Is r
lent_texts Is answer (Ok part) exact has computed text = (
  λ is. utf8_by part.now text (is_utf8 part.now) refl (sym exact ∙ computed text is),
  λ (same, utf8). has text (exact ∙ ap as_text same ∙ utf8-text text utf8),
)
lent_texts Is answer (Err error) exact has computed text = (λ is. let same = computed text is in absurd (cc), λ none. absurd none)

-- the texts at `start` are those bytes up to the first zero byte that are UTF-8
pub text_if_utf8 : (bytes : List ℕ) (start : ℕ) (r : Result (Bor (List ℕ)) ElfError) → text_of bytes start ≡ lent_text r → TextIfUtf8 (IsText bytes start) r
text_if_utf8 bytes start r exact = lent_texts (IsText bytes start) (text_of bytes start) r exact (text_of-is bytes start) (is-text_of bytes start)
