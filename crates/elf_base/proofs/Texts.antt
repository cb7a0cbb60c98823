-- Texts ended by a zero byte.
use Rattle.std.proofs.Common.{◌≡◌, ◌≢◌, ℕ, suc, ◌+◌, ◌-◌, ◌≤◌, ◌<◌, Bool, true, false, ltb, eqb, None, Some, Ok, Err, List, [], ◌∷◌, ◌++◌, length, length-drop, length-append, take, drop, get_or, slice_index, refl, sym, ap, ◌∙◌, subst, arith}
use Rattle.std.proofs.Math.Seq.{drop-cons}
use Rattle.std.proofs.lemmas.List.{get_or-drop, get_or-take, length-take-le, take-append-drop}
use Rattle.std.proofs.lemmas.Bool.{eqb-true, eq-eqb, ne_eqb, lt-ltb, le-ltb}
use Rattle.std.specs.Str.{IsUtf8, is_utf8}
use Rattle.std.proofs.lemmas.Str.{IsUtf8-from_is_utf8, is_utf8-from_IsUtf8}
use Rattle.memchr.specs.Find.{Nowhere, NoneBefore, Passes, is_byte}
use Rattle.elf_base.specs.declared.error.ElfError.{ElfError}
use Rattle.elf_base.specs.declared.error.ElfError.TheVariants.{TextStart, TextEnd, TextUtf8}
use Rattle.elf_base.specs.Text.{BytesError, EndsInZero, IsText, NoZeroFrom, TextError, as_text, before_zero, bytes_up_to_zero_of, text_of}
use Rattle.elf_base.proofs.Numbers.{rest}

-- a search of `&bytes[start..]` that found no zero byte
pub no_zero_from : (bytes : List ℕ) (start : ℕ) → start ≤ length bytes → Nowhere (Passes (is_byte 0) (take (length bytes - start) (drop start bytes))) 0 (length (take (length bytes - start) (drop start bytes))) → NoZeroFrom bytes start
no_zero_from bytes start fits none k low high is =
    let P : List ℕ → Type 0 = λ ys. Nowhere (Passes (is_byte 0) ys) 0 (length ys) in
    let nowhere : P (drop start bytes) = subst P (rest start bytes) none in
    let len = length-drop start bytes in
    let here : slice_index (drop start bytes) (k - start) ≡ 0 =
    get_or-drop start bytes (k - start) 0 ∙ ap (slice_index bytes) (omega arith) ∙ is in
    nowhere (k - start) (omega arith) (omega arith) (eq-eqb (slice_index (drop start bytes) (k - start)) 0 here)

-- a search of bytes that found the first zero byte at `end`
zero_at : (ys : List ℕ) (end : ℕ) → NoneBefore (Passes (is_byte 0) ys) 0 (length ys) end → Passes (is_byte 0) ys end → ys ≡ take end ys ++ (0 ∷ drop (suc end) ys)
zero_at ys end found passes =
    let high = found.high in
    let zero_here : get_or ys end 0 ≡ 0 = eqb-true (slice_index ys end) 0 passes in
    sym (take-append-drop end ys) ∙ ap (λ r. take end ys ++ r) (drop-cons ys end 0 high ∙ ap (λ b. b ∷ drop (suc end) ys) zero_here)

zero_first : (ys : List ℕ) (end : ℕ) → NoneBefore (Passes (is_byte 0) ys) 0 (length ys) end → (k : ℕ) → k < length (take end ys) → slice_index (take end ys) k ≢ 0
zero_first ys end found k below is =
    let high = found.high in
    let len : length (take end ys) ≡ end = length-take-le end ys (omega arith) in
    let same : slice_index (take end ys) k ≡ slice_index ys k = get_or-take end ys k 0 (omega arith) in
    found.before k (omega arith) (omega arith) (eq-eqb (slice_index ys k) 0 (sym same ∙ is))

-- a search of `&bytes[start..]` that found the first zero byte at `end`
pub ends_in_zero : (bytes : List ℕ) (start end : ℕ) → NoneBefore (Passes (is_byte 0) (take (length bytes - start) (drop start bytes))) 0 (length (take (length bytes - start) (drop start bytes))) end → Passes (is_byte 0) (take (length bytes - start) (drop start bytes)) end → EndsInZero bytes start (take end (take (length bytes - start) (drop start bytes)))
ends_in_zero bytes start end found passes =
    let ys = take (length bytes - start) (drop start bytes) in
    record {
      after = drop (suc end) ys;
      begins = sym (rest start bytes) ∙ zero_at ys end found passes;
      no_zero = zero_first ys end found;
    }

-- the zero byte after a text is within the bytes
pub zero_within : (bytes : List ℕ) (start : ℕ) (t : List ℕ) → EndsInZero bytes start t → start + length t < length bytes
zero_within bytes start t ended =
    let whole = ap length ended.begins in
    let parts = length-append t (0 ∷ ended.after) in
    let rest = length-drop start bytes in
    omega (arith, whole, parts, rest)

-- the bytes before the zero byte that ends a text are the text
before_zero-append : (t r : List ℕ) → ((k : ℕ) → k < length t → slice_index t k ≢ 0) → before_zero (t ++ (0 ∷ r)) ≡ Some t
before_zero-append [] r no_zero = refl
before_zero-append (x ∷ t) r no_zero =
    let later : before_zero (t ++ (0 ∷ r)) ≡ Some t = before_zero-append t r (λ k h. no_zero (suc k) (omega arith)) in
    let here : eqb x 0 ≡ false = ne_eqb x 0 (no_zero 0 (omega arith)) in
    rw (here, later) refl

before_zero-none : (xs : List ℕ) → ((k : ℕ) → k < length xs → slice_index xs k ≢ 0) → before_zero xs ≡ None
before_zero-none [] no_zero = refl
before_zero-none (x ∷ xs) no_zero =
    let later : before_zero xs ≡ None = before_zero-none xs (λ k h. no_zero (suc k) (omega arith)) in
    let here : eqb x 0 ≡ false = ne_eqb x 0 (no_zero 0 (omega arith)) in
    rw (here, later) refl

-- the bytes before the first zero byte, of bytes with a text at `start`
before_zero-ended : (bytes : List ℕ) (start : ℕ) (t : List ℕ) → EndsInZero bytes start t → before_zero (drop start bytes) ≡ Some t
before_zero-ended bytes start t ended = ap before_zero ended.begins ∙ before_zero-append t ended.after ended.no_zero

pub not_utf8 : (t : List ℕ) (b : Bool) → is_utf8 t ≡ b → (IsUtf8 t → ⊥) → is_utf8 t ≡ false
not_utf8 t true e never = absurd (never (IsUtf8-from_is_utf8 t e))
not_utf8 t false e never = e

-- if a zero byte ends the bytes at `start`, `bytes_up_to_zero_of` is these bytes
pub bytes-ended : (bytes : List ℕ) (start : ℕ) (t : List ℕ) → EndsInZero bytes start t → bytes_up_to_zero_of bytes start ≡ Ok t
unfolding bytes_up_to_zero_of
bytes-ended bytes start t ended =
    let within = zero_within bytes start t ended in
    let low : ltb (length bytes) start ≡ false = le-ltb (length bytes) start (omega arith) in
    let before : before_zero (drop start bytes) ≡ Some t = before_zero-ended bytes start t ended in
    rw (low, before) refl

-- if the bytes at `start` have an error, `bytes_up_to_zero_of` is that error
pub bytes-failed : (bytes : List ℕ) (start : ℕ) (e : ElfError) → BytesError bytes start e → bytes_up_to_zero_of bytes start ≡ Err e
unfolding bytes_up_to_zero_of
bytes-failed bytes start TextStart failed =
    let low : ltb (length bytes) start ≡ true = lt-ltb (length bytes) start failed in
    rw low refl
bytes-failed bytes start TextEnd failed =
    let within = failed.0 in
    let low : ltb (length bytes) start ≡ false = le-ltb (length bytes) start (omega arith) in
    let all = length-drop start bytes in
    let before : before_zero (drop start bytes) ≡ None = before_zero-none (drop start bytes) (λ k h is. failed.1 (start + k) (omega arith) (omega arith) (sym (get_or-drop start bytes k 0) ∙ is)) in
    rw (low, before) refl
bytes-failed bytes start _ failed = absurd failed

-- if there is a text at `start`, `text_of` is that text
pub text_of-text : (bytes : List ℕ) (start : ℕ) (t : List ℕ) → IsText bytes start t → text_of bytes start ≡ Ok t
unfolding text_of
text_of-text bytes start t is =
    let ended = bytes-ended bytes start t is.ended in
    let utf8 : is_utf8 t ≡ true = is_utf8-from_IsUtf8 t is.utf8 in
    rw (ended, utf8) refl

-- if the text at `start` has an error, `text_of` is that error
pub text_of-failed : (bytes : List ℕ) (start : ℕ) (e : ElfError) → TextError bytes start e → text_of bytes start ≡ Err e
unfolding text_of
text_of-failed bytes start TextStart failed = rw (bytes-failed bytes start TextStart failed) refl
text_of-failed bytes start TextEnd failed = rw (bytes-failed bytes start TextEnd failed) refl
text_of-failed bytes start TextUtf8 failed =
    let (t, ended, never) = failed in
    let found = bytes-ended bytes start t ended in
    let utf8 : is_utf8 t ≡ false = not_utf8 t (is_utf8 t) refl never in
    rw (found, utf8) refl
text_of-failed bytes start _ failed = absurd failed

-- `text_of` is the bytes as a text, or the error for the bytes
pub text_of-bytes : (bytes : List ℕ) (start : ℕ) (t : List ℕ) → bytes_up_to_zero_of bytes start ≡ Ok t → text_of bytes start ≡ as_text t
unfolding text_of
text_of-bytes bytes start t found = rw found refl

pub text_of-error : (bytes : List ℕ) (start : ℕ) (e : ElfError) → bytes_up_to_zero_of bytes start ≡ Err e → text_of bytes start ≡ Err e
unfolding text_of
text_of-error bytes start e found = rw found refl
