-- Lemmas on load orders.
use Rattle.std.proofs.Common.{◌≡◌, ◌≢◌, ◌⊎◌, inl, inr, ℕ, ◌+◌, ◌<◌, ◌≤◌, Bool, true, false, List, length, get_or, refl, sym, ◌∙◌, subst, arith, get_or-set_other, get_or-set_same}
use Rattle.std.specs.Prelude.{◌==◌, nat_lt, if◌then◌else◌, max, min}
use Rattle.std.proofs.lemmas.Bool.{eqb-false, eqb-true, ltb-false, ltb-true}
use Rattle.std.proofs.Math.ListN.{set}
use Rattle.elf_search.specs.LoadOrder.{IsFirst, IsLoadOrder, IsPlain, end_of, start_of}

-- no object but 0
pub load_none : (edges : List ℕ) → IsLoadOrder edges 0 1
load_none edges = record {
  each = λ p h. absurd (omega arith);
  asked = λ object a b. absurd (omega arith);
  rising = λ one other p q a b c f g. absurd (omega arith);
}

module _ (edges : List ℕ) (answered count value : ℕ) (room : answered < length edges) (load : IsLoadOrder edges answered count) where
  here_is : get_or (set edges answered value) answered 0 ≡ value
  here_is = get_or-set_same edges answered value 0 room

  before_is : (p : ℕ) → p < answered → get_or (set edges answered value) p 0 ≡ get_or edges p 0
  before_is p h = get_or-set_other edges answered p value 0 (λ same. absurd (omega arith))

  -- a first entry stays one
  first_keeps : (object p : ℕ) → IsFirst edges answered object p → IsFirst (set edges answered value) (answered + 1) object p
  first_keeps object p first = let b = first.within in record {
    within = omega arith;
    found = before_is p b ∙ first.found;
    earlier = λ q h same. first.earlier q h (sym (before_is q (omega arith)) ∙ same);
  }

  first_back : (object p : ℕ) → p < answered → IsFirst (set edges answered value) (answered + 1) object p → IsFirst edges answered object p
  first_back object p b first = record {
    within = b;
    found = sym (before_is p b) ∙ first.found;
    earlier = λ q h same. first.earlier q h (before_is q (omega arith) ∙ same);
  }

  first_split : (object p : ℕ) → 0 < object → object < count → IsFirst (set edges answered value) (answered + 1) object p
      → (low : Bool) → nat_lt p answered ≡ low → p < answered
  first_split object p a b first true is = ltb-true p answered is
  first_split object p a b first false is =
      let from : answered ≤ p = ltb-false p answered is in
      let known = load.asked object a b in
      let within : known.0 < answered = known.1.within in
      absurd (first.earlier known.0 (omega arith) (before_is known.0 within ∙ known.1.found))

  -- the first entry that found an object of the list is not the new one
  first_before : (object p : ℕ) → 0 < object → object < count → IsFirst (set edges answered value) (answered + 1) object p → p < answered
  first_before object p a b first =
      first_split object p a b first (nat_lt p answered) refl

  wider : (count' : ℕ) → count ≤ count' → (n : ℕ) → (n ≡ 4294967295) ⊎ (n < count) → (n ≡ 4294967295) ⊎ (n < count')
  wider count' m n (inl lacks) = inl lacks
  wider count' m n (inr h) = inr (omega arith)

  each_more : (count' : ℕ) → count ≤ count' → (value ≡ 4294967295) ⊎ (value < count') → (p : ℕ) → p < answered + 1 → (low : Bool) → nat_lt p answered ≡ low
      → (get_or (set edges answered value) p 0 ≡ 4294967295) ⊎ (get_or (set edges answered value) p 0 < count')
  each_more count' m v p h true is = let b : p < answered = ltb-true p answered is in rw (before_is p b) (wider count' m (get_or edges p 0) (load.each p b))
  each_more count' m v p h false is =
      let from : answered ≤ p = ltb-false p answered is in
      let e : p ≡ answered = omega arith in rw e (rw here_is v)

  -- an entry that found an object of the list, or none
  pub load_old : (value ≡ 4294967295) ⊎ (value < count) → IsLoadOrder (set edges answered value) (answered + 1) count
  load_old v = record {
    each = λ p h. each_more count (omega arith) v p h (nat_lt p answered) refl;
    asked = λ object a b. let known = load.asked object a b in (known.0, first_keeps object known.0 known.1);
    rising = λ one other p q a b c f g.
        let pb = first_before one p a (omega arith) f in
        let qb = first_before other q (omega arith) c g in
        load.rising one other p q a b c (first_back one p pb f) (first_back other q qb g);
  }

  not_count : (n : ℕ) → count < 4294967295 → (n ≡ 4294967295) ⊎ (n < count) → n ≢ count
  not_count n few (inl lacks) same = absurd (omega arith)
  not_count n few (inr h) same = absurd (omega arith)

-- an entry that found a new object
module _ (edges : List ℕ) (answered count : ℕ) (room : answered < length edges) (few : count < 4294967295) (load : IsLoadOrder edges answered count) where
  new_first : IsFirst (set edges answered count) (answered + 1) count answered
  new_first = record {
    within = omega arith;
    found = here_is edges answered count count room load;
    earlier = λ q h same. not_count edges answered count count room load (get_or edges q 0) few (load.each q h) (sym (before_is edges answered count count room load q h) ∙ same);
  }

  new_asked : (object : ℕ) → 0 < object → object < count + 1 → (low : Bool) → nat_lt object count ≡ low → (p : ℕ) × IsFirst (set edges answered count) (answered + 1) object p
  new_asked object a b true is = let known = load.asked object a (ltb-true object count is) in (known.0, first_keeps edges answered count count room load object known.0 known.1)
  new_asked object a b false is =
      let from : count ≤ object = ltb-false object count is in
      let e : count ≡ object = omega arith in
      (answered, subst (λ k. IsFirst (set edges answered count) (answered + 1) k answered) e new_first)

  new_last : (q : ℕ) → IsFirst (set edges answered count) (answered + 1) count q → (low : Bool) → nat_lt q answered ≡ low → answered ≤ q
  new_last q first true is =
      let b : q < answered = ltb-true q answered is in
      absurd (not_count edges answered count count room load (get_or edges q 0) few (load.each q b) (sym (before_is edges answered count count room load q b) ∙ first.found))
  new_last q first false is = ltb-false q answered is

  new_rising : (one other p q : ℕ) → 0 < one → one < other → other < count + 1 → IsFirst (set edges answered count) (answered + 1) one p
      → IsFirst (set edges answered count) (answered + 1) other q → (low : Bool) → nat_lt other count ≡ low → p < q
  new_rising one other p q a b c f g true is =
      let below : other < count = ltb-true other count is in
      let pb = first_before edges answered count count room load one p a (omega arith) f in
      let qb = first_before edges answered count count room load other q (omega arith) below g in
      load.rising one other p q a b below (first_back edges answered count count room load one p pb f) (first_back edges answered count count room load other q qb g)
  new_rising one other p q a b c f g false is =
      let from : count ≤ other = ltb-false other count is in
      let e : other ≡ count = omega arith in
      let pb : p < answered = first_before edges answered count count room load one p a (omega arith) f in
      let last : answered ≤ q = new_last q (subst (λ k. IsFirst (set edges answered count) (answered + 1) k q) e g) (nat_lt q answered) refl in
      omega arith

  pub load_new : IsLoadOrder (set edges answered count) (answered + 1) (count + 1)
  load_new = record {
    each = λ p h. each_more edges answered count count room load (count + 1) (omega arith) (inr (omega arith)) p h (nat_lt p answered) refl;
    asked = λ object a b. new_asked object a b (nat_lt object count) refl;
    rising = λ one other p q a b c f g. new_rising one other p q a b c f g (nat_lt other count) refl;
  }

-- Plain lists.

pub plain_first : (objects edges : List ℕ) (entries : ℕ) → get_or objects 0 0 ≡ 0 → IsPlain objects edges 1 entries 0 0 0 entries
plain_first objects edges entries h = record {
  rising = λ k b. absurd (omega arith);
  below = λ k b. let e : k ≡ 0 = omega arith in rw e (rw h (omega arith));
  begins = sym h;
  ends = refl;
  loads = load_none edges;
}

pub plain_answer : (objects edges : List ℕ) (count used current start place end value : ℕ) → place < length edges → (value ≡ 4294967295) ⊎ (value < count)
    → IsPlain objects edges count used current start place end → IsPlain objects (set edges place value) count used current start (place + 1) end
plain_answer objects edges count used current start place end value room v plain = record {
  rising = plain.rising;
  below = plain.below;
  begins = plain.begins;
  ends = plain.ends;
  loads = load_old edges place count value room plain.loads v;
}

end_last : (objects' : List ℕ) (used used' k count : ℕ) → k + 1 ≡ count → start_of objects' count ≡ used → (more : Bool) → (k + 1 == count + 1) ≡ more
    → used ≡ (if more then used' else start_of objects' (k + 1))
end_last objects' used used' k count e new true is = let same : k + 1 ≡ count + 1 = eqb-true (k + 1) (count + 1) is in absurd (omega arith)
end_last objects' used used' k count e new false is = rw e (sym new)

end_more : (objects objects' : List ℕ) (count used used' k : ℕ) → k < count → ((j : ℕ) → j < count → start_of objects' j ≡ start_of objects j)
    → start_of objects' count ≡ used → (last : Bool) → (k + 1 == count) ≡ last → (more : Bool) → (k + 1 == count + 1) ≡ more
    → (if last then used else start_of objects (k + 1)) ≡ (if more then used' else start_of objects' (k + 1))
end_more objects objects' count used used' k b same new true is more is2 =
    let e : k + 1 ≡ count = eqb-true (k + 1) count is in end_last objects' used used' k count e new more is2
end_more objects objects' count used used' k b same new false is true is2 =
    let e : k + 1 ≡ count + 1 = eqb-true (k + 1) (count + 1) is2 in absurd (omega arith)
end_more objects objects' count used used' k b same new false is false is2 =
    let differ : k + 1 ≡ count → ⊥ = eqb-false (k + 1) count is in sym (same (k + 1) (omega arith))

rising_more : (objects objects' edges : List ℕ) (count used used' current start place end : ℕ)
    → ((k : ℕ) → k < count → start_of objects' k ≡ start_of objects k) → start_of objects' count ≡ used
    → IsPlain objects edges count used current start place end → (k : ℕ) → k + 1 < count + 1 → (low : Bool) → nat_lt (k + 1) count ≡ low
    → start_of objects' k ≤ start_of objects' (k + 1)
rising_more objects objects' edges count used used' current start place end same new plain k b true is =
    let c : k + 1 < count = ltb-true (k + 1) count is in rw (same k (omega arith), same (k + 1) c) (plain.rising k c)
rising_more objects objects' edges count used used' current start place end same new plain k b false is =
    let from : count ≤ k + 1 = ltb-false (k + 1) count is in
    let e : k + 1 ≡ count = omega arith in
    let low = plain.below k (omega arith) in
    rw (same k (omega arith), e, new) low

below_more' : (objects objects' edges : List ℕ) (count used used' current start place end : ℕ) → used ≤ used'
    → ((k : ℕ) → k < count → start_of objects' k ≡ start_of objects k) → start_of objects' count ≡ used
    → IsPlain objects edges count used current start place end → (k : ℕ) → k < count + 1 → (low : Bool) → nat_lt k count ≡ low → start_of objects' k ≤ used'
below_more' objects objects' edges count used used' current start place end more same new plain k b true is =
    let c : k < count = ltb-true k count is in let low = plain.below k c in rw (same k c) (omega arith)
below_more' objects objects' edges count used used' current start place end more same new plain k b false is =
    let from : count ≤ k = ltb-false k count is in
    let e : k ≡ count = omega arith in rw (e, new) more

pub plain_add : (objects objects' edges : List ℕ) (count used used' current start place end : ℕ) → place < length edges → count < 4294967295 → current < count → used ≤ used'
    → ((k : ℕ) → k < count → start_of objects' k ≡ start_of objects k) → start_of objects' count ≡ used
    → IsPlain objects edges count used current start place end → IsPlain objects' (set edges place count) (count + 1) used' current start (place + 1) end
plain_add objects objects' edges count used used' current start place end room few inside more same new plain = record {
  rising = λ k b. rising_more objects objects' edges count used used' current start place end same new plain k b (nat_lt (k + 1) count) refl;
  below = λ k b. below_more' objects objects' edges count used used' current start place end more same new plain k b (nat_lt k count) refl;
  begins = plain.begins ∙ sym (same current inside);
  ends = plain.ends ∙ end_more objects objects' count used used' current inside same new (current + 1 == count) refl (current + 1 == count + 1) refl;
  loads = load_new edges place count room few plain.loads;
}

end_here : (objects : List ℕ) (count used k : ℕ) → k + 1 < count → (last : Bool) → (k + 1 == count) ≡ last → (if last then used else start_of objects (k + 1)) ≡ start_of objects (k + 1)
end_here objects count used k b true is = let e : k + 1 ≡ count = eqb-true (k + 1) count is in absurd (omega arith)
end_here objects count used k b false is = refl

end_above : (objects edges : List ℕ) (count used current start place end k : ℕ) → IsPlain objects edges count used current start place end → k < count
    → (last : Bool) → (k + 1 == count) ≡ last → (start_of objects k ≤ (if last then used else start_of objects (k + 1))) × ((if last then used else start_of objects (k + 1)) ≤ used)
end_above objects edges count used current start place end k plain b true is = (plain.below k b, omega arith)
end_above objects edges count used current start place end k plain b false is =
    let differ : k + 1 ≡ count → ⊥ = eqb-false (k + 1) count is in (plain.rising k (omega arith), plain.below (k + 1) (omega arith))

-- the next object is gone to
pub plain_next : (objects edges : List ℕ) (count used current start place end start' end' : ℕ) → current + 1 < count → end ≤ place → place ≤ end
    → start' ≡ min (start_of objects (current + 1)) used → end' ≡ max (min (end_of objects count used (current + 1)) used) start'
    → IsPlain objects edges count used current start place end → IsPlain objects edges count used (current + 1) start' start' end' × (start' ≡ place)
plain_next objects edges count used current start place end start' end' b ended within s e plain =
    let low = plain.below (current + 1) b in
    let at : start' ≡ start_of objects (current + 1) = omega arith in
    let here : end ≡ start_of objects (current + 1) = plain.ends ∙ end_here objects count used current b (current + 1 == count) refl in
    let above = end_above objects edges count used current start place end (current + 1) plain b (current + 1 + 1 == count) refl in
    let to : end' ≡ end_of objects count used (current + 1) = omega (arith, above.0, above.1) in
    let same : start' ≡ place = omega arith in (
      record {
        rising = plain.rising;
        below = plain.below;
        begins = at;
        ends = to;
        loads = subst (λ p. IsLoadOrder edges p count) (sym same) plain.loads;
      },
      same,
    )
