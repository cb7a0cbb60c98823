-- The items of a string table: the first one, and that the computed items are those of the bytes.
use Rattle.std.proofs.Common.{◌≡◌, ◌≢◌, ℕ, zero, suc, ◌+◌, ◌-◌, ◌≤◌, ◌<◌, ◌==◌, ◌⊎◌, inl, inr, Bool, true, false, Result, Ok, Err, List, [], ◌∷◌, length, length-append, length-drop, drop, take, add-one, slice_index, refl, sym, ap, subst, arith}
use Rattle.std.proofs.Math.Seq.{drop-append-add}
use Rattle.std.proofs.lemmas.List.{take_all}
use Rattle.std.proofs.lemmas.Bool.{eqb-true, eqb-false}
use Rattle.std.specs.Str.{is_utf8}
use Rattle.std.proofs.lemmas.Str.{IsUtf8-from_is_utf8, is_utf8-from_IsUtf8}
use Rattle.elf_base.specs.Text.{EndsInZero, IsText, TextError}
use Rattle.elf_base.proofs.lemmas.TextLemmas.{is-text_of}
use Rattle.elf_base.proofs.Texts.{text_of-failed}
use Rattle.elf_base.specs.declared.error.ElfError.TheVariants.{TextEnd, TextUtf8}
use Rattle.xmas_elf.specs.Prelude.{ElfError}
use Rattle.xmas_elf.specs.Strings as the_items
use Rattle.xmas_elf.specs.Strings.{AreStringItems, string_items_after, string_items}

-- the items after `count` bytes are the items of the bytes that follow
behind-drop : (count : ℕ) (bytes : List ℕ) → string_items_after count bytes ≡ string_items (drop count bytes)
unfolding string_items_after
behind-drop zero bytes = refl
behind-drop (suc count) [] = refl
behind-drop (suc count) (byte ∷ bytes) = behind-drop count bytes

-- a text and its zero byte are within the bytes
pub text_within : (bytes text : List ℕ) → IsText bytes 0 text → length text + 1 ≤ length bytes
text_within bytes text is = omega (arith, ap length is.ended.begins, length-append text (0 ∷ is.ended.after))

-- a text, and the items that follow
strings_of_text : (bytes text : List ℕ) → text ≢ [] → IsText bytes 0 text → string_items bytes ≡ Ok text ∷ string_items (drop (length text + 1) bytes)
unfolding string_items_after
strings_of_text bytes [] some is = absurd (some refl)
strings_of_text [] (first ∷ text) some is = absurd (omega (arith, text_within [] (first ∷ text) is))
strings_of_text (byte ∷ bytes) (first ∷ text) some is =
    rw (is-text_of (byte ∷ bytes) 0 (first ∷ text) is, add-one) (ap (λ items. Ok (first ∷ text) ∷ items) (behind-drop (suc (length text)) bytes))

-- a text, and the items that follow, in `&bytes[length text + 1..]`
pub strings_of_next : (bytes text : List ℕ) → text ≢ [] → IsText bytes 0 text
    → string_items bytes ≡ Ok text ∷ string_items (take (length bytes - (length text + 1)) (drop (length text + 1) bytes))
strings_of_next bytes text some is =
    let others = length-drop (length text + 1) bytes in
    let all : take (length bytes - (length text + 1)) (drop (length text + 1) bytes) ≡ drop (length text + 1) bytes =
    take_all (length bytes - (length text + 1)) (drop (length text + 1) bytes) (omega (arith, others)) in
    rw all (strings_of_text bytes text some is)

-- no bytes have no items
pub strings_none : (bytes : List ℕ) → length bytes ≡ 0 → string_items bytes ≡ []
unfolding string_items_after
strings_none [] none = refl
strings_none (byte ∷ bytes) none = absurd (omega (arith, none))

-- an empty text is the end of the items
pub strings_bare : (bytes text : List ℕ) → length text ≡ 0 → IsText bytes 0 text → string_items bytes ≡ []
unfolding string_items_after
strings_bare [] text none is = refl
strings_bare (byte ∷ bytes) [] none is = rw (is-text_of (byte ∷ bytes) 0 [] is) refl
strings_bare bytes (byte ∷ text) none is = absurd (omega (arith, none))

-- an error is the last item
pub strings_last : (bytes : List ℕ) (error : ElfError) → 0 < length bytes → TextError bytes 0 error → string_items bytes ≡ Err error ∷ string_items []
unfolding string_items_after
strings_last [] error some failed = absurd (omega (arith, some))
strings_last (byte ∷ bytes) error some failed = rw (text_of-failed (byte ∷ bytes) 0 error failed) refl

abbrev NoZero : List ℕ → Type 0
NoZero bytes = (k : ℕ) → k < length bytes → slice_index bytes k ≢ 0

no_zero_before : (byte : ℕ) (bytes : List ℕ) → byte ≢ 0 → NoZero bytes → NoZero (byte ∷ bytes)
no_zero_before byte bytes other none zero below = other
no_zero_before byte bytes other none (suc k) below = none k (omega arith)

-- bytes begin with a text, or there is an error for it
abbrev Front : List ℕ → Type 0
Front bytes = ((text : List ℕ) × IsText bytes 0 text) ⊎ ((error : ElfError) × TextError bytes 0 error)

front_run : (bytes run : List ℕ) (good : Bool) → is_utf8 run ≡ good → EndsInZero bytes 0 run → Front bytes
front_run bytes run true is ended = inl (run, record { utf8 = IsUtf8-from_is_utf8 run is; ended = ended })
front_run bytes run false is ended = inr (TextUtf8, (run, ended, λ utf8. let h = is_utf8-from_IsUtf8 run utf8 in cc))

-- the bytes before the first zero byte, if there is one
abbrev Run : List ℕ → Type 0
Run bytes = ((run : List ℕ) × EndsInZero bytes 0 run) ⊎ NoZero bytes

run_by : (byte : ℕ) (bytes : List ℕ) (zero_byte : Bool) → (byte == 0) ≡ zero_byte → Run bytes → Run (byte ∷ bytes)
run_by byte bytes true is later =
    inl ([], record { after = bytes; begins = ap (λ b. b ∷ bytes) (eqb-true byte 0 is); no_zero = λ k below. omega arith })
run_by byte bytes false is (inl (run, ended)) =
    inl (byte ∷ run, record { after = ended.after; begins = ap (λ l. byte ∷ l) ended.begins; no_zero = no_zero_before byte run (eqb-false byte 0 is) ended.no_zero })
run_by byte bytes false is (inr none) = inr (no_zero_before byte bytes (eqb-false byte 0 is) none)

run_of : (bytes : List ℕ) → Run bytes
run_of [] = inr (λ k below. omega arith)
run_of (byte ∷ bytes) = run_by byte bytes (byte == 0) refl (run_of bytes)

front : (bytes : List ℕ) → Run bytes → Front bytes
front bytes (inl (run, ended)) = front_run bytes run (is_utf8 run) refl ended
front bytes (inr none) = inr (TextEnd, (omega arith, λ k low below. none k below))

front_are : (bytes : List ℕ) → bytes ≢ [] → 0 < length bytes → Front bytes → ((rest : List ℕ) → length rest < length bytes → AreStringItems rest (string_items rest)) → AreStringItems bytes (string_items bytes)
front_are bytes some long (inl ([], is)) shorter = rw (strings_bare bytes [] refl is) (the_items.at_empty bytes is)
front_are bytes some long (inl (first ∷ text, is)) shorter =
    let rest = is.ended.after in
    let one = the_items.text (first ∷ text) rest (string_items rest) (λ e. cc)
    (record { utf8 = is.utf8; ended = record { after = rest; begins = refl; no_zero = is.ended.no_zero } })
    (shorter rest (omega (arith, ap length is.ended.begins, length-append text (0 ∷ rest)))) in
    let left : drop (length (first ∷ text) + 1) bytes ≡ rest = rw is.ended.begins (drop-append-add (first ∷ text) (0 ∷ rest) 1) in
    rw (strings_of_text bytes (first ∷ text) (λ e. cc) is, left) (subst (λ l. AreStringItems l (Ok (first ∷ text) ∷ string_items rest)) (sym is.ended.begins) one)
front_are bytes some long (inr (error, why)) shorter =
    rw (strings_last bytes error long why, strings_none [] refl) (the_items.failed bytes error some why)

are : (n : ℕ) (bytes : List ℕ) → length bytes ≤ n → AreStringItems bytes (string_items bytes)
unfolding string_items_after
are n [] fits = the_items.at_end
are zero (byte ∷ bytes) fits = absurd (omega arith)
are (suc n) (byte ∷ bytes) fits =
    front_are (byte ∷ bytes) (λ e. cc) (omega arith) (front (byte ∷ bytes) (run_of (byte ∷ bytes))) (λ rest below. are n rest (omega arith))

-- the computed items are those of the bytes
pub strings_are : (bytes : List ℕ) → AreStringItems bytes (string_items bytes)
strings_are bytes = are (length bytes) bytes (omega arith)

-- there are no more items than bytes
fit : {bytes : List ℕ} {items : List (Result (List ℕ) ElfError)} → AreStringItems bytes items → length items ≤ length bytes
fit the_items.at_end = omega arith
fit (the_items.at_empty bytes is) = omega arith
fit (the_items.failed [] error some why) = absurd (some refl)
fit (the_items.failed (byte ∷ bytes) error some why) = omega arith
fit (the_items.text first rest items some is later) = omega (arith, fit later, length-append first (0 ∷ rest))

pub strings_fit : (bytes : List ℕ) → length (string_items bytes) ≤ length bytes
strings_fit bytes = fit (strings_are bytes)
