-- Results for items of a list, stored in a slice one after the other.
use Rattle.std.proofs.Common.{◌≡◌, ◌<◌, ◌≤◌, ◌+◌, ℕ, ◌⊎◌, ⊎_elim, inl, inr, List, length, Some, refl, sym, ap, subst, ◌∙◌, arith}
use Rattle.std.proofs.lemmas.Bool.{cases_order}
use Rattle.std.proofs.lemmas.List.{length-set}
use Rattle.std.proofs.lemmas.Option.{slice_get_within}
use Rattle.std.specs.Prelude.{slice_get, slice_set}
use Rattle.elf_c.specs.AddressIndex.{AreStored}
use Rattle.elf_c.proofs.Batches.{put_elsewhere, put_there}

module _ {T : Type 0} (P : ℕ → T → Type 0) (items : List ℕ) (old : List T) where
  -- the results below `place` are stored, and the other items of the slice are unchanged
  pub record AreSoFar (place : ℕ) (new : List T) : Type 0 where
    pub long : length new ≡ length old
    pub each : (k item : ℕ) → slice_get items k ≡ Some item → k < place → (said : T) × P item said × (slice_get new k ≡ Some said)
    pub rest : (k : ℕ) → place ≤ k → slice_get new k ≡ slice_get old k

  pub none_yet : AreSoFar 0 old
  none_yet = record { long = refl; each = λ k item at below. absurd (omega (arith, below)); rest = λ k above. refl }

  -- after one more result is stored, those below the next place are stored
  pub one_more : (place : ℕ) (new : List T) (item : ℕ) (said : T) → place < length new → slice_get items place ≡ Some item → P item said → AreSoFar place new → AreSoFar (place + 1) (slice_set new place said)
  one_more place new item said below at is so_far = record {
    long = length-set new place said ∙ so_far.long;
    each = λ k one here under. by_order k one here (order k under);
    rest = λ k above. put_elsewhere new place k said (λ same. absurd (omega (arith, above, same))) ∙ so_far.rest k (omega (arith, above));
  }
    where
      same_item : (one other : ℕ) → Some one ≡ Some other → one ≡ other
      same_item one other same = cc

      order : (k : ℕ) → k < place + 1 → (k < place) ⊎ (k ≡ place)
      order k here = ⊎_elim (λ same. inr same) (λ apart. ⊎_elim (λ before. inl before) (λ behind. absurd (omega (arith, here, behind))) apart) (cases_order k place)

      by_order : (k one : ℕ) → slice_get items k ≡ Some one → ((k < place) ⊎ (k ≡ place)) → (found : T) × P one found × (slice_get (slice_set new place said) k ≡ Some found)
      by_order k one here (inl before) =
          let earlier = so_far.each k one here before in
          (earlier.0, earlier.1, put_elsewhere new place k said (λ same. absurd (omega (arith, before, same))) ∙ earlier.2)
      by_order k one here (inr same) =
          let is_item : item ≡ one = same_item item one (sym at ∙ ap (λ i. slice_get items i) (sym same) ∙ here) in (
            said,
            subst (λ i. P i said) is_item is,
            ap (λ i. slice_get (slice_set new place said) i) same ∙ put_there new place said below,
          )

  -- all results are stored, for the items that have room in the slice
  pub all_stored : (count : ℕ) (new : List T) → ((k : ℕ) → k < length items → k < length old → k < count) → count ≤ length items → AreSoFar count new → AreStored P items old new
  all_stored count new whole within so_far = record {
    long = so_far.long;
    each = λ k item at below. so_far.each k item at (whole k (slice_get_within items k item at) below);
    rest = λ k above. so_far.rest k (omega (arith, within, above));
  }
