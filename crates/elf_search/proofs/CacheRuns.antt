-- Lemmas on the entries of a cache that compare equal, and on those used among them.
use Rattle.std.proofs.Common.{◌≡◌, ℕ, zero, suc, ◌+◌, ◌-◌, ◌*◌, ◌<◌, ◌≤◌, ◌&&◌, Bool, true, false, List, [], ◌∷◌, length, drop, take, refl, Option, None, Some, IfSome, arith, add-one}
use Rattle.std.specs.Prelude.{nat_le, nat_lt, unwrap_or, is_none, if◌then◌else◌, Ok, Err}
use Rattle.std.proofs.lemmas.Grind.{common_steps}
use Rattle.std.proofs.lemmas.Bool.{ltb-false, ltb-true}
use Rattle.std.specs.declared.cmp.Ordering.{Ordering}
use Rattle.elf_base.specs.FirstError.{unless}
use Rattle.elf_base.specs.Text.{before_zero, bytes_up_to_zero_of}
use Rattle.elf_base.specs.declared.error.ElfError.{ElfError}
use Rattle.elf_base.specs.declared.error.ElfError.TheVariants.{TextStart, TextEnd}
use Rattle.elf_search.specs.Cache.{are_within, first_same, is_last, is_same, next_best, run_from, tagged_words, text_from, used_after, word_at}
use Rattle.elf_search.specs.declared.cache.Usage.{Usage}
use Rattle.elf_search.specs.declared.cache.Usage.TheVariants.{Foreign, Named, Plain, Unfit}

-- Texts.

rest_from : (bytes : List ℕ) (place : ℕ) → take (length bytes - place) (drop place bytes) ≡ drop place bytes
rest_from bytes place = grind (arith, common_steps)

found_part : (past : Bool) (part : Option (List ℕ)) (rest text : List ℕ)
    → unless {A = List ℕ} {E = ElfError} ((past, TextStart) ∷ (is_none part, TextEnd) ∷ []) (unwrap_or part []) ≡ Ok text → text ≡ unwrap_or part rest
found_part true part rest text e = cc
found_part false None rest text e = cc
found_part false (Some bytes) rest text e = cc

-- a text before a zero byte
pub text_found : (bytes : List ℕ) (place : ℕ) (text : List ℕ) → bytes_up_to_zero_of bytes place ≡ Ok text → text ≡ text_from bytes place
unfolding bytes_up_to_zero_of
text_found bytes place text e = found_part (nat_lt (length bytes) place) (before_zero (drop place bytes)) (drop place bytes) text e

no_part : (past : Bool) (part : Option (List ℕ)) (rest : List ℕ) (error : ElfError) → past ≡ false
    → unless {A = List ℕ} {E = ElfError} ((past, TextStart) ∷ (is_none part, TextEnd) ∷ []) (unwrap_or part []) ≡ Err error → rest ≡ unwrap_or part rest
no_part true part rest error h e = cc
no_part false None rest error h e = refl
no_part false (Some bytes) rest error h e = cc

-- a text up to the end
pub text_unended : (bytes : List ℕ) (place : ℕ) (error : ElfError) → place ≤ length bytes → bytes_up_to_zero_of bytes place ≡ Err error
    → take (length bytes - place) (drop place bytes) ≡ text_from bytes place
unfolding bytes_up_to_zero_of
text_unended bytes place error h e =
    rw (rest_from bytes place) (no_part (nat_lt (length bytes) place) (before_zero (drop place bytes)) (drop place bytes) error (grind (arith, common_steps)) e)

-- Sections of an extension.

and_false_left : (a b : Bool) → a ≡ false → (a && b) ≡ false
and_false_left true b h = cc
and_false_left false b h = refl

and_false_right : (a b : Bool) → b ≡ false → (a && b) ≡ false
and_false_right true b h = h
and_false_right false b h = refl

outside_test : (sum size : ℕ) → size < sum → nat_le sum size ≡ false
outside_test sum size h = grind (arith, common_steps)

within_step : (bytes : List ℕ) (place index n : ℕ) (less : Bool) → nat_lt index n ≡ less → index < suc n
    → length bytes < word_at bytes (place + 16 * index + 8) + word_at bytes (place + 16 * index + 12)
    → (index < n → are_within bytes place n ≡ false) → are_within bytes place (suc n) ≡ false
within_step bytes place index n true is h out below = and_false_left _ _ (below (ltb-true index n is))
within_step bytes place index n false is h out below =
    let last : index ≡ n = let most : n ≤ index = ltb-false index n is in omega arith in
    and_false_right (are_within bytes place n) _ (outside_test (word_at bytes (place + 16 * n + 8) + word_at bytes (place + 16 * n + 12)) (length bytes) (rw last at out))

-- the sections are not within the file if one of them isn't
within_false : (bytes : List ℕ) (place index n : ℕ) → index < n
    → length bytes < word_at bytes (place + 16 * index + 8) + word_at bytes (place + 16 * index + 12) → are_within bytes place n ≡ false
within_false bytes place index zero h out = absurd (omega arith)
within_false bytes place index (suc n) h out =
    within_step bytes place index n (nat_lt index n) refl h out (λ less. within_false bytes place index n less out)

pub within_none : (bytes : List ℕ) (place count index from size : ℕ) → index < count → from ≡ word_at bytes (place + 16 * index + 8)
    → size ≡ word_at bytes (place + 16 * index + 12) → length bytes < from + size
    → None ≡ (if are_within bytes place count then Some (tagged_words bytes place count) else None)
within_none bytes place count index from size h f s out = rw (within_false bytes place index count h (rw (← f, ← s) out)) refl

-- Runs of entries.

module _ (order : ℕ → Option Ordering) where
  run_more : (n i : ℕ) → i < n → is_same (order i) ≡ true → run_from order (n - i) i ≡ i ∷ run_from order (n - (i + 1)) (i + 1)
  run_more n i h same = let e : n - i ≡ suc (n - (i + 1)) = omega arith in rw (e, same, add-one) refl

  pub first_step : (k j : ℕ) → k ≡ j + 1 → is_same (order j) ≡ true → first_same order k ≡ first_same order j
  first_step k j e same = rw (e, add-one) (rw same refl)

-- Entries used.

module _ (usage : ℕ → Usage) (order : ℕ → Option Ordering) (n : ℕ) (best : Option (ℕ × ℕ)) (i : ℕ) where
  pub used_more : i < n → is_same (order i) ≡ true → is_last best (usage i) ≡ false
      → used_after usage best (run_from order (n - i) i) ≡ used_after usage (next_best best i (usage i)) (run_from order (n - (i + 1)) (i + 1))
  used_more h same last = rw (run_more order n i h same) (rw last refl)

better_inside : (i n rank : ℕ) (best : ℕ × ℕ) (less : Bool) → i < n → best.0 < n → IfSome (if less then Some (i, rank) else Some best) (λ entry. entry.0 < n)
better_inside i n rank best true h b = h
better_inside i n rank best false h b = b

pub best_inside : (best : Option (ℕ × ℕ)) (i n : ℕ) (what : Usage) → i < n → IfSome best (λ entry. entry.0 < n) → IfSome (next_best best i what) (λ entry. entry.0 < n)
best_inside best i n Unfit h b = b
best_inside None i n (Named rank) h b = h
best_inside (Some best) i n (Named rank) h b = better_inside i n rank best (nat_lt rank best.1) h b
best_inside best i n Plain h b = b
best_inside best i n Foreign h b = b
