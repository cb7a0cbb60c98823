-- What is written of one more item, and of the items before those that are left.
use Rattle.std.proofs.Common.{◌≡◌, ◌<◌, ◌+◌, ◌++◌, ◌∷◌, [], ◌||◌, ℕ, Bool, false, List, length, take, Option, Some, None, refl, sym, ap, ◌∙◌, subst, arith, append_assoc}
use Rattle.std.specs.Prelude.{IsSomeAnd, slice_get}
use Rattle.std.proofs.KnownBytes.{Appends-nil, Appends-trans}
use Rattle.std.proofs.lemmas.List.{length-take-le, take_more}
use Rattle.std.proofs.lemmas.Option.{get_or_from_slice_get, slice_get_within}
use Rattle.elfbind.specs.Files.{AreWritten, further, nothing}
use Rattle.program_ends.specs.Appended.{AppendsSome}

module _ {A : Type 0} (Is : ℕ → A → Bool → List ℕ → Type 0) where
  -- nothing is written of no items
  pub none_written : (old : Option (List ℕ)) → AppendsSome (AreWritten Is [] false) old old
  none_written old = ([], nothing, Appends-nil old)

  -- one more item, by its index
  pub one_more : (items : List A) (index : ℕ) (wrong own : Bool) (old before after : Option (List ℕ)) → AppendsSome (AreWritten Is (take index items) wrong) old before → IsSomeAnd (slice_get items index) (λ item. AppendsSome (Is index item own) before after) → AppendsSome (AreWritten Is (take (index + 1) items) (wrong || own)) old after
  one_more items index wrong own old before after (text, so_far, grown) more = go (slice_get items index) refl more
    where
      go : (found : Option A) → slice_get items index ≡ found → IsSomeAnd found (λ item. AppendsSome (Is index item own) before after) → AppendsSome (AreWritten Is (take (index + 1) items) (wrong || own)) old after
      go None is never = absurd never
      go (Some item) is (line, own_line, further_grown) =
          let below : index < length items = slice_get_within items index item is in
          let longer : take index items ++ (item ∷ []) ≡ take (index + 1) items = ap (λ x. take index items ++ (x ∷ [])) (sym (get_or_from_slice_get items index item item is)) ∙ sym (take_more items index item below) in
          let place : index ≡ length (take index items) = sym (length-take-le index items (omega (arith, below))) in (
            text ++ line,
            subst (λ xs. AreWritten Is xs (wrong || own) (text ++ line)) longer (further (take index items) item wrong own text line so_far (subst (λ i. Is i item own line) place own_line)),
            Appends-trans _ _ _ _ _ grown further_grown,
          )

  -- with `rest` still left of all items, the text is that of those before it
  pub record AreWrittenSoFar (all rest : List A) (wrong : Bool) (text : List ℕ) : Type 0 where
    pub earlier : List A
    pub split : earlier ++ rest ≡ all
    pub so_far : AreWritten Is earlier wrong text

  pub none_so_far : (all rest : List A) (old : Option (List ℕ)) → rest ≡ all → AppendsSome (AreWrittenSoFar all rest false) old old
  none_so_far all rest old same = ([], record { earlier = []; split = same; so_far = nothing }, Appends-nil old)

  -- one more of those that are left, whatever its index
  pub next_more : (all rest others : List A) (item : A) (wrong own : Bool) (old before after : Option (List ℕ)) → rest ≡ item ∷ others → AppendsSome (AreWrittenSoFar all rest wrong) old before → ((index : ℕ) → AppendsSome (Is index item own) before after) → AppendsSome (AreWrittenSoFar all others (wrong || own)) old after
  next_more all rest others item wrong own old before after is (text, before_it, grown) more =
      let (line, own_line, further_grown) = more (length before_it.earlier) in (
        text ++ line,
        record {
          earlier = before_it.earlier ++ item ∷ [];
          split = append_assoc before_it.earlier (item ∷ []) others ∙ ap (λ left. before_it.earlier ++ left) (sym is) ∙ before_it.split;
          so_far = further before_it.earlier item wrong own text line before_it.so_far own_line;
        },
        Appends-trans _ _ _ _ _ grown further_grown,
      )
