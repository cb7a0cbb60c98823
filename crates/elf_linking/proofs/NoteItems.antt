-- The notes of bytes: the computed items are the notes.
use Rattle.std.proofs.Common.{◌≡◌, ℕ, zero, suc, ◌+◌, ◌-◌, ◌≤◌, ◌*◌, ◌/◌, ◌<◌, ◌==◌, Bool, true, false, if◌then◌else◌, List, [], ◌∷◌, length, length-drop, Result, Ok, Err, refl, sym, ap, ◌∙◌, arith}
use Rattle.std.specs.Prelude.{min, nat_le}
use Rattle.std.proofs.lemmas.Bool.{and_parts, eq-eqb, eqb-true, eqb-false, ne_eqb, leb-true, le-leb}
use Rattle.std.specs.Borrow.{Bor}
use Rattle.elf_base.specs.declared.bytes.Order.{Order}
use Rattle.elf_linking.specs.declared.error.LinkError.{LinkError}
use Rattle.elf_linking.specs.declared.error.LinkError.TheVariants.{ShortNote}
use Rattle.elf_linking.specs.Notes.{AreNotes, at_end, cut_off, whole, BeginsWithNote, NoteParts, after_note, begins_with_note, desc_end, first_note, name_size, next_note, next_step, notes_of, notes_within}

-- rounding up does not make a number smaller
step_by : (eight : Bool) (n : ℕ) → n ≤ (if eight then (n + 7) / 8 * 8 else (n + 3) / 4 * 4)
step_by true n = omega arith
step_by false n = omega arith

pub next_step_above : (align n : ℕ) → n ≤ next_step align n
unfolding next_step
next_step_above align n = step_by (align == 8) n

step_near : (eight : Bool) (n : ℕ) → (if eight then (n + 7) / 8 * 8 else (n + 3) / 4 * 4) < n + 8
step_near true n = omega arith
step_near false n = omega arith

pub next_step_near : (align n : ℕ) → next_step align n < n + 8
unfolding next_step
next_step_near align n = step_near (align == 8) n

-- a note has at least twelve bytes
pub next_note_above : (align : ℕ) (order : Order) (bytes : List ℕ) → 12 ≤ next_note align order bytes
next_note_above align order bytes =
    let start = next_step_above align (12 + name_size order bytes) in
    let end = next_step_above align (desc_end align order bytes) in
    omega (arith, start, end)

-- fewer bytes remain after a note
fewer_left : (align : ℕ) (order : Order) (bytes : Bor (List ℕ)) (count : ℕ) → 12 ≤ length bytes.now → length bytes.now ≤ suc count → length (after_note align order bytes).now ≤ count
fewer_left align order bytes count enough most =
    let above = next_note_above align order bytes.now in
    let left = length-drop (min (next_note align order bytes.now) (length bytes.now)) bytes.now in
    omega (arith, above, left, enough, most)

begins_is : (align : ℕ) (order : Order) (bytes : List ℕ) → begins_with_note align order bytes ≡ true → BeginsWithNote align order bytes
begins_is align order bytes is =
    let both = and_parts (nat_le 12 (length bytes)) (nat_le (desc_end align order bytes) (length bytes)) is in
    (leb-true _ _ both.0, leb-true _ _ both.1)

is_begins : (align : ℕ) (order : Order) (bytes : List ℕ) → BeginsWithNote align order bytes → begins_with_note align order bytes ≡ true
is_begins align order bytes is = rw (le-leb _ _ is.0, le-leb _ _ is.1) refl

never_begins : (align : ℕ) (order : Order) (bytes : List ℕ) (b : Bool) → begins_with_note align order bytes ≡ b → (BeginsWithNote align order bytes → ⊥) → begins_with_note align order bytes ≡ false
never_begins align order bytes true is never = absurd (never (begins_is align order bytes is))
never_begins align order bytes false is never = is

-- a count of at least the number of bytes does not matter
same_rest : {A : Type 0} (none begins : Bool) (first last : A) (one other : List A) → (begins ≡ true → one ≡ other)
    → (if none then [] else (if begins then first ∷ one else last ∷ [])) ≡ (if none then [] else (if begins then first ∷ other else last ∷ []))
same_rest true begins first last one other same = refl
same_rest false true first last one other same = ap (λ rest. first ∷ rest) (same refl)
same_rest false false first last one other same = refl

none_within : (align : ℕ) (order : Order) (count : ℕ) (bytes : Bor (List ℕ)) → length bytes.now ≡ 0 → notes_within align order count bytes ≡ []
unfolding notes_within
none_within align order zero bytes none = refl
none_within align order (suc count) bytes none =
    let is : (length bytes.now == 0) ≡ true = eq-eqb (length bytes.now) 0 none in rw is refl

enough : (align : ℕ) (order : Order) (one other : ℕ) (bytes : Bor (List ℕ)) → length bytes.now ≤ one → length bytes.now ≤ other
    → notes_within align order one bytes ≡ notes_within align order other bytes
unfolding notes_within
enough align order zero other bytes low high = sym (none_within align order other bytes (omega arith))
enough align order (suc one) zero bytes low high = none_within align order (suc one) bytes (omega arith)
enough align order (suc one) (suc other) bytes low high =
    let rest = after_note align order bytes in
    same_rest (length bytes.now == 0) (begins_with_note align order bytes.now) (Ok (first_note align order bytes)) (Err ShortNote)
    (notes_within align order one rest) (notes_within align order other rest)
    (λ begins. let is = begins_is align order bytes.now begins in
    enough align order one other rest (fewer_left align order bytes one is.0 low) (fewer_left align order bytes other is.0 high))

-- no bytes have no items
pub notes_end : (align : ℕ) (order : Order) (bytes : Bor (List ℕ)) → length bytes.now ≡ 0 → notes_of align order bytes ≡ []
notes_end align order bytes none = none_within align order (length bytes.now) bytes none

-- a whole note, and the items after it
first_within : (align : ℕ) (order : Order) (count : ℕ) (bytes : Bor (List ℕ)) → length bytes.now ≡ suc count → BeginsWithNote align order bytes.now
    → notes_within align order (suc count) bytes ≡ Ok (first_note align order bytes) ∷ notes_of align order (after_note align order bytes)
unfolding notes_within
first_within align order count bytes some begins =
    let is : begins_with_note align order bytes.now ≡ true = is_begins align order bytes.now begins in
    let any : (length bytes.now == 0) ≡ false = ne_eqb (length bytes.now) 0 (λ none. omega (arith, none, some)) in
    let rest = after_note align order bytes in
    rw (any, is) (ap (λ others. Ok (first_note align order bytes) ∷ others) (enough align order count (length rest.now) rest (fewer_left align order bytes count begins.0 (omega (arith, some))) (omega arith)))

pub notes_first : (align : ℕ) (order : Order) (bytes : Bor (List ℕ)) → BeginsWithNote align order bytes.now
    → notes_of align order bytes ≡ Ok (first_note align order bytes) ∷ notes_of align order (after_note align order bytes)
notes_first align order bytes begins =
    let long = begins.0 in
    let some : length bytes.now ≡ suc (length bytes.now - 1) = omega (arith, long) in
    ap (λ count. notes_within align order count bytes) some ∙ first_within align order (length bytes.now - 1) bytes some begins

-- no whole note, and no items after it
short_within : (align : ℕ) (order : Order) (count : ℕ) (bytes : Bor (List ℕ)) → length bytes.now ≡ suc count → (BeginsWithNote align order bytes.now → ⊥)
    → notes_within align order (suc count) bytes ≡ Err ShortNote ∷ []
unfolding notes_within
short_within align order count bytes some never =
    let is : begins_with_note align order bytes.now ≡ false = never_begins align order bytes.now (begins_with_note align order bytes.now) refl never in
    let any : (length bytes.now == 0) ≡ false = ne_eqb (length bytes.now) 0 (λ none. omega (arith, none, some)) in
    rw (any, is) refl

pub notes_short : (align : ℕ) (order : Order) (bytes : Bor (List ℕ)) → 0 < length bytes.now → (BeginsWithNote align order bytes.now → ⊥)
    → notes_of align order bytes ≡ Err ShortNote ∷ []
notes_short align order bytes above never =
    let some : length bytes.now ≡ suc (length bytes.now - 1) = omega (arith, above) in
    ap (λ count. notes_within align order count bytes) some ∙ short_within align order (length bytes.now - 1) bytes some never

-- the computed items are the notes
are_by : (align : ℕ) (order : Order) (bytes : Bor (List ℕ)) (rest : List (Result NoteParts LinkError)) (none begins : Bool) → (length bytes.now == 0) ≡ none → begins_with_note align order bytes.now ≡ begins
    → (BeginsWithNote align order bytes.now → AreNotes align order (after_note align order bytes) rest)
    → AreNotes align order bytes (if none then [] else (if begins then Ok (first_note align order bytes) ∷ rest else Err ShortNote ∷ []))
are_by align order bytes rest true begins empty is later = at_end bytes (eqb-true (length bytes.now) 0 empty)
are_by align order bytes rest false true empty is later =
    let begins = begins_is align order bytes.now is in whole bytes rest begins (later begins)
are_by align order bytes rest false false empty is later =
    let some = eqb-false (length bytes.now) 0 empty in
    cut_off bytes (omega (arith, some)) (λ begins. let h = is_begins align order bytes.now begins in cc)

are_within : (align : ℕ) (order : Order) (count : ℕ) (bytes : Bor (List ℕ)) → length bytes.now ≤ count → AreNotes align order bytes (notes_within align order count bytes)
unfolding notes_within
are_within align order zero bytes most = at_end bytes (omega (arith, most))
are_within align order (suc count) bytes most =
    let rest = after_note align order bytes in
    are_by align order bytes (notes_within align order count rest) (length bytes.now == 0) (begins_with_note align order bytes.now) refl refl
    (λ begins. are_within align order count rest (fewer_left align order bytes count begins.0 most))

pub notes_are : (align : ℕ) (order : Order) (bytes : Bor (List ℕ)) → AreNotes align order bytes (notes_of align order bytes)
notes_are align order bytes = are_within align order (length bytes.now) bytes (omega arith)

-- there are no more items than bytes
fit_by : {A : Type 0} (none begins : Bool) (first last : A) (rest : List A) (count : ℕ) → length rest ≤ count
    → length (if none then [] else (if begins then first ∷ rest else last ∷ [])) ≤ suc count
fit_by true begins first last rest count few = omega arith
fit_by false true first last rest count few = omega (arith, few)
fit_by false false first last rest count few = omega arith

fit_within : (align : ℕ) (order : Order) (count : ℕ) (bytes : Bor (List ℕ)) → length (notes_within align order count bytes) ≤ count
unfolding notes_within
fit_within align order zero bytes = omega arith
fit_within align order (suc count) bytes =
    let rest = after_note align order bytes in
    fit_by (length bytes.now == 0) (begins_with_note align order bytes.now) (Ok (first_note align order bytes)) (Err ShortNote) (notes_within align order count rest) count (fit_within align order count rest)

pub notes_fit : (align : ℕ) (order : Order) (bytes : Bor (List ℕ)) → length (notes_of align order bytes) ≤ length bytes.now
notes_fit align order bytes = fit_within align order (length bytes.now) bytes
