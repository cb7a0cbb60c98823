-- The bytes of a path that are written so far, and their number, which is no more than the greatest of 64 bits.
use Rattle.std.proofs.Common.{◌≡◌, ◌<◌, ◌≤◌, ℕ, zero, suc, ◌+◌, ◌-◌, ◌&&◌, Bool, true, false, List, [], ◌∷◌, ◌++◌, inl, inr, length, if◌then◌else◌, refl, sym, ap, subst, ◌∙◌, arith}
use Rattle.std.proofs.Math.Nat.{min-eq_left, min-eq_right}
use Rattle.std.proofs.lemmas.Bool.{cases_lt, ltb-true}
use Rattle.std.proofs.lemmas.List.{append_assoc, append-nil, length_push}
use Rattle.std.specs.Prelude.{min, nat_le, nat_lt, slice_get, slice_set}
use Rattle.elf_c.specs.DebugFiles.{MOST}
use Rattle.elf_c.specs.Pieces.{IsRows, put_from}
use Rattle.elf_c.proofs.ListedPieces.{rows_none, rows_with}

-- the item at an index above 0 is that at one less among the others
pub one_on : {X : Type 0} (x : X) (xs : List X) (index : ℕ) → 0 < index → slice_get xs (index - 1) ≡ slice_get (x ∷ xs) index
one_on x xs zero some = absurd (omega (arith, some))
one_on x xs (suc index) some = let less : suc index - 1 ≡ index = omega arith in ap (slice_get xs) less

-- the bytes that are written, and those that are left
pub record IsWrittenSoFar (all left : List ℕ) (count : ℕ) (old new : List ℕ) : Type 0 where
  pub done : List ℕ
  pub whole : done ++ left ≡ all
  pub counted : count ≡ min (length done) MOST
  pub stored : IsRows done 0 old new

pub nothing_written : (all old : List ℕ) → IsWrittenSoFar all all 0 old old
nothing_written all old = record { done = []; whole = refl; counted = refl; stored = rows_none 0 old }

-- a byte after the end is not stored
past_end : (index byte : ℕ) (text : List ℕ) → length text ≤ index → put_from 0 index byte text ≡ text
past_end index byte text past = by_first (nat_le 0 index)
  where
    by_room : (b : Bool) → nat_lt (index - 0) (length text) ≡ b → (if b then slice_set text (index - 0) byte else text) ≡ text
    by_room true is = absurd (let less = ltb-true (index - 0) (length text) is in omega (arith, less, past))
    by_room false is = refl

    by_first : (b : Bool) → (if b && nat_lt (index - 0) (length text) then slice_set text (index - 0) byte else text) ≡ text
    by_first true = by_room (nat_lt (index - 0) (length text)) refl
    by_first false = refl

-- it is stored at the number of those before it
same_place : (count bytes byte : ℕ) (text : List ℕ) → count ≡ min bytes MOST → length text ≤ MOST → put_from 0 count byte text ≡ put_from 0 bytes byte text
same_place count bytes byte text is fits = elim (cases_lt bytes MOST) [
  | inl less ↦ (
      let under : bytes ≤ MOST = omega (arith, less) in
      let same : count ≡ bytes = is ∙ min-eq_left under in
      ap (λ n. put_from 0 n byte text) same)
  | inr past ↦ (
      let most : count ≡ MOST = is ∙ min-eq_right past in
      past_end count byte text (omega (arith, most, fits)) ∙ sym (past_end bytes byte text (omega (arith, past, fits))))
]

one_more : (count next bytes : ℕ) → count ≡ min bytes MOST → next ≡ min (count + 1) MOST → next ≡ min (bytes + 1) MOST
one_more count next bytes is more = elim (cases_lt bytes MOST) [
  | inl less ↦ (
      let under : bytes ≤ MOST = omega (arith, less) in
      let same : count ≡ bytes = is ∙ min-eq_left under in
      more ∙ ap (λ n. min (n + 1) MOST) same)
  | inr past ↦ (
      let most : count ≡ MOST = is ∙ min-eq_right past in
      let over : MOST ≤ count + 1 = omega (arith, most) in
      let beyond : MOST ≤ bytes + 1 = omega (arith, past) in
      let one : min (count + 1) MOST ≡ MOST = min-eq_right over in
      let other : min (bytes + 1) MOST ≡ MOST = min-eq_right beyond in
      more ∙ one ∙ sym other)
]

pub written_more : (all left rest : List ℕ) (byte count next : ℕ) (old text new : List ℕ) → IsWrittenSoFar all left count old text → left ≡ byte ∷ rest
    → length text ≤ MOST → next ≡ min (count + 1) MOST → new ≡ put_from 0 count byte text → IsWrittenSoFar all rest next old new
written_more all left rest byte count next old text new so_far is fits more put = record {
  done = so_far.done ++ byte ∷ [];
  whole = append_assoc so_far.done (byte ∷ []) rest ∙ ap (λ l. so_far.done ++ l) (sym is) ∙ so_far.whole;
  counted = one_more count next (length so_far.done) so_far.counted more ∙ ap (λ n. min n MOST) (sym (length_push so_far.done byte));
  stored = subst (λ t. IsRows (so_far.done ++ byte ∷ []) 0 old t) (sym (put ∙ same_place count (length so_far.done) byte text so_far.counted fits))
      (rows_with so_far.done 0 old text byte so_far.stored);
}

-- all are written
pub all_written : (all left : List ℕ) (count : ℕ) (old new : List ℕ) → IsWrittenSoFar all left count old new → left ≡ [] → IsRows all 0 old new × (count ≡ min (length all) MOST)
all_written all left count old new so_far none =
    let whole : so_far.done ≡ all = sym (append-nil so_far.done) ∙ ap (λ l. so_far.done ++ l) (sym none) ∙ so_far.whole in
    (subst (λ l. IsRows l 0 old new) whole so_far.stored, so_far.counted ∙ ap (λ l. min (length l) MOST) whole)
