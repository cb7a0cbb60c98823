-- Each object starts behind those that its entries found, but for those that need it.
use Rattle.std.proofs.Common.{◌≡◌, ◌≢◌, ◌⊎◌, inl, inr, ℕ, ◌<◌, ◌≤◌, Bool, true, false, List, [], ◌∷◌, ◌++◌, refl, sym, ◌∙◌, subst, arith}
use Rattle.std.specs.Prelude.{◌||◌, eqb}
use Rattle.std.proofs.lemmas.Bool.{both_ways, eq-eqb, eqb-true}
use Rattle.std.proofs.lemmas.List.{append_assoc}
use Rattle.std.proofs.lemmas.List.Folds.{list_any-append}
use Rattle.elf_search.specs.Starts.{IsBefore, Needs, NeedsFirst, Starts, Visits, is_marked}
use Rattle.elf_search.specs.Starts.Needs.{itself, through}
use Rattle.elf_search.specs.Starts.Visits.{done, pass, visit}
use Rattle.elf_search.specs.Order.{edges_of}
use Rattle.elf_search.specs.declared.order.Order.{Order}
use Rattle.elf_search.proofs.Starting.{marked_head, marked_tail, or_left}

-- Tests of membership.

either : (a b : Bool) → (a || b) ≡ true → (a ≡ true) ⊎ (b ≡ true)
either true b h = inl refl
either false b h = inr h

same_or : (j k : ℕ) (ks : List ℕ) → (eqb j k ≡ true) ⊎ (is_marked ks j ≡ true) → (j ≡ k) ⊎ (is_marked ks j ≡ true)
same_or j k ks (inl h) = inl (eqb-true j k h)
same_or j k ks (inr h) = inr h

head_or : (j k : ℕ) (ks : List ℕ) → is_marked (k ∷ ks) j ≡ true → (j ≡ k) ⊎ (is_marked ks j ≡ true)
head_or j k ks h = same_or j k ks (either (eqb j k) (is_marked ks j) h)

no_more : (j : ℕ) → is_marked [] j ≡ true → ⊥
no_more j h = both_ways _ refl h

split_marked : (j : ℕ) (xs ys : List ℕ) → is_marked (xs ++ ys) j ≡ true → (is_marked xs j ≡ true) ⊎ (is_marked ys j ≡ true)
split_marked j xs ys h = either (is_marked xs j) (is_marked ys j) (sym (list_any-append (eqb j) xs ys) ∙ h)

marked_front : (j : ℕ) (xs ys : List ℕ) → is_marked xs j ≡ true → is_marked (xs ++ ys) j ≡ true
marked_front j xs ys h = list_any-append (eqb j) xs ys ∙ or_left _ _ h

or_second : (a b : Bool) → b ≡ true → (a || b) ≡ true
or_second true b h = refl
or_second false b h = h

marked_back : (j : ℕ) (xs ys : List ℕ) → is_marked ys j ≡ true → is_marked (xs ++ ys) j ≡ true
marked_back j xs ys h = list_any-append (eqb j) xs ys ∙ or_second _ _ h

marked_same : (j k : ℕ) (ks : List ℕ) → j ≡ k → is_marked (k ∷ ks) j ≡ true
marked_same j k ks at = or_left _ _ (eq-eqb j k at)

before_more : (list more : List ℕ) (one other : ℕ) → IsBefore list one other → IsBefore (list ++ more) one other
before_more list more one other h = record {
  front = h.front;
  back = h.back ++ more;
  parts = rw h.parts (append_assoc h.front (other ∷ h.back) more);
  in_front = h.in_front;
}

-- Visits, over the edges E of N objects. The objects `live` are those whose visits have begun and not ended.
module _ (E : ℕ → List ℕ) (N : ℕ) where
  abbrev AreFirst : List ℕ → Type 0
  AreFirst w = (k e : ℕ) → is_marked w k ≡ true → is_marked (E k) e ≡ true → e < N → e ≢ 0 → (Needs E e k → ⊥) → IsBefore w e k

  abbrev IsKnown : List ℕ → List ℕ → ℕ → Type 0
  IsKnown live w j = (j ≡ 0) ⊎ ((is_marked w j ≡ true) ⊎ (is_marked live j ≡ true))

  abbrev AreKnown : List ℕ → List ℕ → List ℕ → Type 0
  AreKnown live m w = (j : ℕ) → is_marked m j ≡ true → IsKnown live w j

  abbrev Lead : List ℕ → List ℕ → Type 0
  Lead live ks = (j e : ℕ) → is_marked live j ≡ true → is_marked ks e ≡ true → e ≢ 0 → Needs E j e

  record IsAfter (live ks m m2 w2 : List ℕ) : Type 0 where
    pub known : AreKnown live m2 w2
    pub first : AreFirst w2
    pub program : is_marked m2 0 ≡ true
    pub kept : (j : ℕ) → is_marked m j ≡ true → is_marked m2 j ≡ true
    pub every : (e : ℕ) → is_marked ks e ≡ true → e < N → is_marked m2 e ≡ true

  passed : (k e : ℕ) (ks m m2 : List ℕ) → (N ≤ k) ⊎ (is_marked m k ≡ true) → ((j : ℕ) → is_marked m j ≡ true → is_marked m2 j ≡ true)
      → ((j : ℕ) → is_marked ks j ≡ true → j < N → is_marked m2 j ≡ true) → (e ≡ k) ⊎ (is_marked ks e ≡ true) → e < N → is_marked m2 e ≡ true
  passed k e ks m m2 why kept every (inr h) b = every e h b
  passed k e ks m m2 (inl out) kept every (inl at) b = absurd (omega arith)
  passed k e ks m m2 (inr on) kept every (inl at) b = kept e (subst (λ i. is_marked m i ≡ true) (sym at) on)

  begun_deeper : (k j : ℕ) (live w : List ℕ) → IsKnown live w j → IsKnown (k ∷ live) w j
  begun_deeper k j live w (inl h) = inl h
  begun_deeper k j live w (inr (inl h)) = inr (inl h)
  begun_deeper k j live w (inr (inr h)) = inr (inr (marked_tail j k live h))

  begun : (k j : ℕ) (live m w : List ℕ) → AreKnown live m w → (j ≡ k) ⊎ (is_marked m j ≡ true) → IsKnown (k ∷ live) w j
  begun k j live m w known (inl at) = inr (inr (marked_same j k live at))
  begun k j live m w known (inr h) = begun_deeper k j live w (known j h)

  ended_by : (k j : ℕ) (live w : List ℕ) → (j ≡ k) ⊎ (is_marked live j ≡ true) → IsKnown live (w ++ k ∷ []) j
  ended_by k j live w (inl at) = inr (inl (marked_back j w (k ∷ []) (marked_same j k [] at)))
  ended_by k j live w (inr h) = inr (inr h)

  ended : (k j : ℕ) (live w : List ℕ) → IsKnown (k ∷ live) w j → IsKnown live (w ++ k ∷ []) j
  ended k j live w (inl h) = inl h
  ended k j live w (inr (inl h)) = inr (inl (marked_front j w (k ∷ []) h))
  ended k j live w (inr (inr h)) = ended_by k j live w (head_or j k live h)

  needs_edge : (k j e : ℕ) (live ks : List ℕ) → Lead live (k ∷ ks) → k ≢ 0 → (j ≡ k) ⊎ (is_marked live j ≡ true) → is_marked (E k) e ≡ true → e ≢ 0 → Needs E j e
  needs_edge k j e live ks lead some (inl at) edge n = subst (λ i. Needs E i e) (sym at) (through k e itself edge n)
  needs_edge k j e live ks lead some (inr h) edge n = through k e (lead j k h (marked_head k ks) some) edge n

  live_needs : (k e : ℕ) (live ks : List ℕ) → Lead live (k ∷ ks) → k ≢ 0 → (e ≡ k) ⊎ (is_marked live e ≡ true) → Needs E e k
  live_needs k e live ks lead some (inl at) = subst (λ i. Needs E i k) (sym at) itself
  live_needs k e live ks lead some (inr h) = lead e k h (marked_head k ks) some

  last_first : (k e : ℕ) (live ks w : List ℕ) → Lead live (k ∷ ks) → k ≢ 0 → IsKnown (k ∷ live) w e → e ≢ 0 → (Needs E e k → ⊥) → IsBefore (w ++ k ∷ []) e k
  last_first k e live ks w lead some (inl h) n free = absurd (n h)
  last_first k e live ks w lead some (inr (inl h)) n free = record { front = w; back = []; parts = refl; in_front = h }
  last_first k e live ks w lead some (inr (inr h)) n free = absurd (free (live_needs k e live ks lead some (head_or e k live h)))

  snoc_first : (k j e : ℕ) (live ks m w : List ℕ) → Lead live (k ∷ ks) → k ≢ 0 → AreFirst w → AreKnown (k ∷ live) m w
      → ((i : ℕ) → is_marked (E k) i ≡ true → i < N → is_marked m i ≡ true) → (is_marked w j ≡ true) ⊎ (j ≡ k)
      → is_marked (E j) e ≡ true → e < N → e ≢ 0 → (Needs E e j → ⊥) → IsBefore (w ++ k ∷ []) e j
  snoc_first k j e live ks m w lead some first known every (inl h) edge b n free = before_more w (k ∷ []) e j (first j e h edge b n free)
  snoc_first k j e live ks m w lead some first known every (inr at) edge b n free =
      subst (λ i. IsBefore (w ++ k ∷ []) e i) (sym at)
      (last_first k e live ks w lead some (known e (every e (subst (λ i. is_marked (E i) e ≡ true) at edge) b)) n (λ h. free (subst (λ i. Needs E e i) (sym at) h)))

  one_of : (j k : ℕ) → (j ≡ k) ⊎ (is_marked [] j ≡ true) → j ≡ k
  one_of j k (inl at) = at
  one_of j k (inr h) = absurd (no_more j h)

  in_last : (j k : ℕ) (w : List ℕ) → (is_marked w j ≡ true) ⊎ (is_marked (k ∷ []) j ≡ true) → (is_marked w j ≡ true) ⊎ (j ≡ k)
  in_last j k w (inl h) = inl h
  in_last j k w (inr h) = inr (one_of j k (head_or j k [] h))

  visits_first : (live ks m w m2 w2 : List ℕ) → Visits E N ks m w m2 w2 → AreKnown live m w → AreFirst w → is_marked m 0 ≡ true → Lead live ks → IsAfter live ks m m2 w2
  visits_first live _ m w _ _ (done _ _) known first program lead =
      record { known = known; first = first; program = program; kept = λ j h. h; every = λ e h b. absurd (no_more e h) }
  visits_first live _ m w m2 w2 (pass k ks _ _ _ _ why rest) known first program lead =
      let after = visits_first live ks m w m2 w2 rest known first program (λ j e on h n. lead j e on (marked_tail e k ks h) n) in
      record {
        known = after.known;
        first = after.first;
        program = after.program;
        kept = after.kept;
        every = λ e h b. passed k e ks m m2 why after.kept after.every (head_or e k ks h) b;
      }
  visits_first live _ m w m2 w2 (visit k ks _ _ m1 w1 _ _ inside fresh own rest) known first program lead =
      let some : k ≢ 0 = λ z. both_ways _ fresh (subst (λ i. is_marked m i ≡ true) (sym z) program) in
      let inner = visits_first (k ∷ live) (E k) (k ∷ m) w m1 w1 own (λ j h. begun k j live m w known (head_or j k m h)) first (marked_tail 0 k m program)
      (λ j e on h n. needs_edge k j e live ks lead some (head_or j k live on) h n) in
      let outer = visits_first live ks m1 (w1 ++ k ∷ []) m2 w2 rest (λ j h. ended k j live w1 (inner.known j h))
      (λ j e h edge b n free. snoc_first k j e live ks m1 w1 lead some inner.first inner.known inner.every (in_last j k w1 (split_marked j w1 (k ∷ []) h)) edge b n free)
      inner.program (λ j e on h n. lead j e on (marked_tail e k ks h) n) in
      record {
        known = outer.known;
        first = outer.first;
        program = outer.program;
        kept = λ j h. outer.kept j (inner.kept j (marked_tail j k m h));
        every = λ e h b. passed k e ks m1 m2 (inr (inner.kept k (marked_head k m))) outer.kept outer.every (head_or e k ks h) b;
      }

program_known : (j : ℕ) → (j ≡ 0) ⊎ (is_marked [] j ≡ true) → (j ≡ 0) ⊎ ((is_marked [] j ≡ true) ⊎ (is_marked [] j ≡ true))
program_known j (inl at) = inl at
program_known j (inr h) = inr (inl h)

-- of the objects in the order of starts, those that one needs are before it
pub needs_first : (order : Order) (written : List ℕ) → Starts order written → NeedsFirst order written
needs_first order written s =
    (visits_first (edges_of order) order.count [] _ (0 ∷ []) [] s.marked written s.visits (λ j h. program_known j (head_or j 0 [] h))
    (λ k e h. absurd (no_more k h)) refl (λ j e h. absurd (no_more j h))).first
