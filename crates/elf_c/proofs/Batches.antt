-- Records stored in a slice one after the other.
use Rattle.std.proofs.Common.{◌≡◌, ◌≢◌, ◌<◌, ◌≤◌, ◌+◌, ◌-◌, ℕ, zero, suc, ◌⊎◌, ⊎_elim, inl, inr, List, [], ◌∷◌, length, Some, Result, Ok, Err, refl, sym, ap, ◌∙◌, arith}
use Rattle.std.proofs.lemmas.Bool.{cases_order}
use Rattle.std.proofs.lemmas.List.{length-set}
use Rattle.std.proofs.lemmas.Option.{slice_get_past}
use Rattle.std.specs.Prelude.{min, slice_get, slice_set}
use Rattle.elf_c.specs.Batch.{IsBatch}
use Rattle.elf_c.specs.Records.{record_in, record_or_none}
use Rattle.elf_c.specs.declared.status.AnyError.{AnyError}
use Rattle.elf_c.specs.declared.status.AnyError.TheVariants.{NoRecord}

-- the stored item is at its index, and all other items are unchanged
pub put_there : {T : Type 0} (xs : List T) (i : ℕ) (x : T) → i < length xs → slice_get (slice_set xs i x) i ≡ Some x
put_there [] i x below = absurd (omega (arith, below))
put_there (y ∷ xs) zero x below = refl
put_there (y ∷ xs) (suc i) x below = put_there xs i x (omega (arith, below))

pub put_elsewhere : {T : Type 0} (xs : List T) (i j : ℕ) (x : T) → j ≢ i → slice_get (slice_set xs i x) j ≡ slice_get xs j
put_elsewhere [] i j x other = refl
put_elsewhere (y ∷ xs) zero zero x other = absurd (other refl)
put_elsewhere (y ∷ xs) zero (suc j) x other = refl
put_elsewhere (y ∷ xs) (suc i) zero x other = refl
put_elsewhere (y ∷ xs) (suc i) (suc j) x other = put_elsewhere xs i j x (λ same. other (ap suc same))

-- the records below `place` are stored, and the other items are unchanged
abbrev pub IsFilled : {T : Type 0} → (ℕ → Result T AnyError) → ℕ → List T → ℕ → List T → Type 0
IsFilled item first old place new = (length new ≡ length old)
    × ((k : ℕ) → k < place → record_in (λ x. x) new k ≡ item (first + k))
    × ((k : ℕ) → place ≤ k → slice_get new k ≡ slice_get old k)

pub filled_none : {T : Type 0} (item : ℕ → Result T AnyError) (first : ℕ) (old : List T) → IsFilled item first old 0 old
filled_none item first old = (refl, λ k below. absurd (omega (arith, below)), λ k above. refl)

-- after one more record is stored, the records below the next place are stored
pub filled_more : {T : Type 0} (item : ℕ → Result T AnyError) (first : ℕ) (old : List T) (place : ℕ) (new : List T) (x : T) → place < length new → item (first + place) ≡ Ok x → IsFilled item first old place new → IsFilled item first old (place + 1) (slice_set new place x)
filled_more {T} item first old place new x below is filled = (length-set new place x ∙ filled.0, each, rest)
  where
    at : (k : ℕ) → k < place + 1 → ((k < place) ⊎ (k ≡ place)) → record_in (λ y. y) (slice_set new place x) k ≡ item (first + k)
    at k here (inl before) = ap (record_or_none (λ y. y)) (put_elsewhere new place k x (λ same. absurd (omega (arith, before, same)))) ∙ filled.1 k before
    at k here (inr same) = ap (λ i. record_in (λ y. y) (slice_set new place x) i) same ∙ ap (record_or_none (λ y. y)) (put_there new place x below) ∙ sym is ∙ ap (λ i. item (first + i)) (sym same)

    order : (k : ℕ) → k < place + 1 → (k < place) ⊎ (k ≡ place)
    order k here = ⊎_elim (λ same. inr same) (λ apart. ⊎_elim (λ before. inl before) (λ behind. absurd (omega (arith, here, behind))) apart) (cases_order k place)

    each : (k : ℕ) → k < place + 1 → record_in (λ y. y) (slice_set new place x) k ≡ item (first + k)
    each k here = at k here (order k here)

    rest : (k : ℕ) → place + 1 ≤ k → slice_get (slice_set new place x) k ≡ slice_get old k
    rest k above = put_elsewhere new place k x (λ same. absurd (omega (arith, above, same))) ∙ filled.2 k (omega (arith, above))

-- the number of records is that of all, or of those that have room
pub filled_all : {A T : Type 0} (value : A → T) (items : List A) (first : ℕ) (old : List T) (count : ℕ) (new : List T) → first < length items → count ≡ min (length items - first) (length old) → IsFilled (record_in value items) first old count new → IsBatch (record_in value items) first old count new
filled_all {A} {T} value items first old count new more is filled = record {
  long = filled.0;
  fits = omega (arith, is);
  each = filled.1;
  rest = filled.2;
  full = ends (cases_order (length items - first) (length old));
}
  where
    ends : ((length items - first ≡ length old) ⊎ ((length items - first < length old) ⊎ (length old < length items - first))) → (count ≡ length old) ⊎ (record_in value items (first + count) ≡ Err NoRecord)
    ends (inl same) = inl (omega (arith, is, same))
    ends (inr (inl all)) = inr (ap (record_or_none value) (slice_get_past items (first + count) (omega (arith, is, all, more))))
    ends (inr (inr room)) = inl (omega (arith, is, room))
