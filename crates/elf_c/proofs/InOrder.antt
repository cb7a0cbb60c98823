-- Records that are read in order and stored in a slice.
use Rattle.std.proofs.Common.{◌≡◌, ◌<◌, ◌≤◌, ◌+◌, ℕ, zero, suc, inl, inr, List, [], ◌∷◌, length, Option, None, Some, Ok, Err, MatchOption, refl, sym, ap, subst, ◌∙◌, arith}
use Rattle.std.proofs.lemmas.Option.{slice_get_past}
use Rattle.std.specs.Prelude.{drop, slice_get, slice_set}
use Rattle.elf_c.specs.Batch.{Fills, FillsBy, IsBatch}
use Rattle.elf_c.specs.Records.{record_in, record_or_none}
use Rattle.elf_c.specs.declared.status.AnyError.TheVariants.{NoRecord}
use Rattle.elf_c.proofs.Batches.{IsFilled, filled_more, filled_none}

no_item : {T : Type 0} (x : T) (xs : List T) → x ∷ xs ≡ [] → ⊥
no_item x xs is = cc

-- a list without its first items is empty exactly if it has no others
past_end : {T : Type 0} (xs : List T) (n : ℕ) → drop n xs ≡ [] → length xs ≤ n
past_end [] n is = omega arith
past_end (x ∷ xs) zero is = absurd (no_item x xs is)
past_end (x ∷ xs) (suc n) is = let below : length xs ≤ n = past_end xs n is in omega (arith, below)

drop_past : {T : Type 0} (xs : List T) (n : ℕ) → length xs ≤ n → drop n xs ≡ []
drop_past [] zero past = refl
drop_past [] (suc n) past = refl
drop_past (x ∷ xs) zero past = absurd (omega (arith, past))
drop_past (x ∷ xs) (suc n) past = drop_past xs n (omega (arith, past))

pub skipped_all : {T : Type 0} (xs : List T) (place count : ℕ) → place ≤ count → drop place xs ≡ [] → drop count xs ≡ []
skipped_all xs place count fits is = let past : length xs ≤ place = past_end xs place is in drop_past xs count (omega (arith, past, fits))

behind : {T : Type 0} (xs ys : List T) (n : ℕ) (x : T) → drop n xs ≡ x ∷ ys → drop (suc n) xs ≡ ys
behind [] ys zero x is = absurd (no_item x ys (sym is))
behind [] ys (suc n) x is = absurd (no_item x ys (sym is))
behind (y ∷ xs) ys zero x is = ap (λ l. drop (suc zero) l) is
behind (y ∷ xs) ys (suc n) x is = behind xs ys n x is

pub skipped_more : {T : Type 0} (xs ys : List T) (n : ℕ) (x : T) → drop n xs ≡ x ∷ ys → drop (n + 1) xs ≡ ys
skipped_more xs ys n x is = let on : n + 1 ≡ suc n = omega arith in ap (λ k. drop k xs) on ∙ behind xs ys n x is

here : {T : Type 0} (xs ys : List T) (n : ℕ) (x : T) → drop n xs ≡ x ∷ ys → slice_get xs n ≡ Some x
here [] ys zero x is = absurd (no_item x ys (sym is))
here [] ys (suc n) x is = absurd (no_item x ys (sym is))
here (y ∷ xs) ys zero x is = ap (λ l. slice_get l zero) is
here (y ∷ xs) ys (suc n) x is = here xs ys n x is

-- the next item, if there is one, and the items after it
abbrev pub with_next : {T : Type 0} → Option T → List T → List T
with_next None rest = []
with_next (Some x) rest = x ∷ rest

pub yielded : {T : Type 0} (next : Option T) (old new : List T) → MatchOption next ((old ≡ []) × (new ≡ [])) (λ x. old ≡ x ∷ new) → old ≡ with_next next new
yielded None old new is = is.0
yielded (Some x) old new is = is

-- the items from `first` to `first + place` are stored; `next` is the item after them, and `rest` follows it
pub record IsStored {T : Type 0} (items : List T) (first : ℕ) (old : List T) (place : ℕ) (next : Option T) (rest new : List T) : Type 0 where
  pub item : T
  pub begins : slice_get items first ≡ Some item
  pub others : drop (first + place) items ≡ with_next next rest
  pub filled : IsFilled (record_in (λ x. x) items) first old place new

module _ {T : Type 0} (items : List T) (first : ℕ) (old : List T) where
  -- nothing is stored yet
  pub stored_none : (x : T) (left rest : List T) → left ≡ drop first items → left ≡ x ∷ rest → IsStored items first old 0 (Some x) rest old
  stored_none x left rest skipped is = record {
    item = x;
    begins = here items rest first x (sym skipped ∙ is);
    others = ap (λ k. drop k items) at ∙ sym skipped ∙ is;
    filled = filled_none (record_in (λ y. y) items) first old;
  }
    where
      at : first + 0 ≡ first
      at = omega arith

  -- one more is stored
  pub stored_more : (place : ℕ) (x : T) (left : List T) (next : Option T) (rest new : List T) → place < length new → IsStored items first old place (Some x) left new → left ≡ with_next next rest → IsStored items first old (place + 1) next rest (slice_set new place x)
  stored_more place x left next rest new below stored is = record {
    item = stored.item;
    begins = stored.begins;
    others = ap (λ k. drop k items) on ∙ skipped_more items left (first + place) x stored.others ∙ is;
    filled = filled_more (record_in (λ y. y) items) first old place new x below (ap (record_or_none (λ y. y)) (here items left (first + place) x stored.others)) stored.filled;
  }
    where
      on : first + (place + 1) ≡ first + place + 1
      on = omega arith

  -- a batch from an item on is the result of the call
  fills : (x : T) (count : ℕ) (new : List T) → slice_get items first ≡ Some x → IsBatch (record_in (λ y. y) items) first old count new → Fills (record_in (λ y. y) items) first old (Ok count) new
  fills x count new begins batch = subst (λ found. FillsBy (record_in (λ y. y) items) first old (record_or_none (λ y. y) found) (Ok count) new) (sym begins) batch

  -- there is no room for more
  pub stored_full : (next : Option T) (rest new : List T) (count : ℕ) → count ≡ length old → IsStored items first old count next rest new → Fills (record_in (λ y. y) items) first old (Ok count) new
  stored_full next rest new count full stored = fills stored.item count new stored.begins (record {
    long = stored.filled.0;
    fits = omega (arith, full);
    each = stored.filled.1;
    rest = stored.filled.2;
    full = inl full;
  })

  -- there are no more
  pub stored_all : (rest new : List T) (count : ℕ) → count ≤ length old → IsStored items first old count None rest new → Fills (record_in (λ y. y) items) first old (Ok count) new
  stored_all rest new count fits stored = fills stored.item count new stored.begins (record {
    long = stored.filled.0;
    fits = fits;
    each = stored.filled.1;
    rest = stored.filled.2;
    full = inr (ap (record_or_none (λ y. y)) (slice_get_past items (first + count) (past_end items (first + count) stored.others)));
  })

  -- there is none
  pub none_stored : (left : List T) → left ≡ drop first items → left ≡ [] → Fills (record_in (λ y. y) items) first old (Err NoRecord) old
  none_stored left skipped is = subst (λ found. FillsBy (record_in (λ y. y) items) first old (record_or_none (λ y. y) found) (Err NoRecord) old) (sym (slice_get_past items first (past_end items first (sym skipped ∙ is)))) (refl, refl)
