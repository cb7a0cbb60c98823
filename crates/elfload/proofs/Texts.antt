-- What is written of one more item.
use Rattle.std.proofs.Common.{◌≡◌, ◌<◌, ◌+◌, ◌++◌, ◌∷◌, [], ℕ, List, length, take, Option, Some, None, refl, sym, ap, ◌∙◌, subst, arith}
use Rattle.std.specs.Prelude.{IsSomeAnd, slice_get}
use Rattle.std.proofs.KnownBytes.{Appends-nil, Appends-trans}
use Rattle.std.proofs.lemmas.List.{length-take-le, take_more}
use Rattle.std.proofs.lemmas.Option.{get_or_from_slice_get, slice_get_within}
use Rattle.elfload.specs.Words.{AreTexts, further, nothing}
use Rattle.program_ends.specs.Appended.{AppendsSome}

module _ {A : Type 0} (Is : ℕ → A → List ℕ → Type 0) where
  -- nothing is written of no items
  pub none_written : (old : Option (List ℕ)) → AppendsSome (AreTexts Is []) old old
  none_written old = ([], nothing, Appends-nil old)

  -- one more item, by its index
  pub one_more : (items : List A) (index : ℕ) (old before after : Option (List ℕ)) → AppendsSome (AreTexts Is (take index items)) old before → IsSomeAnd (slice_get items index) (λ item. AppendsSome (Is index item) before after) → AppendsSome (AreTexts Is (take (index + 1) items)) old after
  one_more items index old before after (text, so_far, grown) more = go (slice_get items index) refl more
    where
      go : (found : Option A) → slice_get items index ≡ found → IsSomeAnd found (λ item. AppendsSome (Is index item) before after) → AppendsSome (AreTexts Is (take (index + 1) items)) old after
      go None is never = absurd never
      go (Some item) is (line, own_line, further_grown) =
          let below : index < length items = slice_get_within items index item is in
          let longer : take index items ++ (item ∷ []) ≡ take (index + 1) items = ap (λ x. take index items ++ (x ∷ [])) (sym (get_or_from_slice_get items index item item is)) ∙ sym (take_more items index item below) in
          let place : index ≡ length (take index items) = sym (length-take-le index items (omega (arith, below))) in (
            text ++ line,
            subst (λ xs. AreTexts Is xs (text ++ line)) longer (further (take index items) item text line so_far (subst (λ i. Is i item line) place own_line)),
            Appends-trans _ _ _ _ _ grown further_grown,
          )
