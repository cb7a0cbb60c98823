-- Lemmas on visits of objects over their edges.
use Rattle.std.proofs.Common.{◌≡◌, ◌≢◌, ◌⊎◌, inl, inr, ℕ, zero, suc, ◌+◌, ◌-◌, ◌*◌, ◌<◌, ◌≤◌, Bool, true, false, List, [], ◌∷◌, ◌++◌, length, get_or, take, drop, refl, sym, ◌∙◌, ap, subst, arith, add-one, drop-cons, get_or-set_other, get_or-set_same}
use Rattle.std.specs.Prelude.{◌==◌, ◌&&◌, ◌||◌, not, nat_lt, eqb}
use Rattle.std.specs.List.{AllByRecursion, IsDistinct}
use Rattle.std.proofs.lemmas.Bool.{both_ways, eq-eqb, eqb-false, eqb-true, lt-ltb, ltb-false, ltb-true}
use Rattle.std.proofs.lemmas.List.{drop_all, length-set, take-append-le, take_more_set}
use Rattle.std.proofs.lemmas.Map.Steps.{length-le_from_distinct_below}
use Rattle.std.proofs.Math.ListN.{set}
use Rattle.std.proofs.Math.Nat.{mul-le-mul_left}
use Rattle.elf_search.specs.Starts.{Continues, Differ, HasMarks, IsBetween, Starts, Visits, back_from, is_marked}
use Rattle.elf_search.specs.Starts.Visits.{done, pass, visit}
use Rattle.elf_search.specs.declared.order.Order.{Order}

-- Tests of membership.

pub or_left : (a b : Bool) → a ≡ true → (a || b) ≡ true
or_left true b h = refl
or_left false b h = cc

or_right : (a b : Bool) → b ≡ true → (a || b) ≡ true
or_right true b h = refl
or_right false b h = h

or_false_left : (a b : Bool) → (a || b) ≡ false → a ≡ false
or_false_left true b h = cc
or_false_left false b h = refl

or_false_right : (a b : Bool) → (a || b) ≡ false → b ≡ false
or_false_right true b h = cc
or_false_right false b h = h

or_of_false : (a b : Bool) → a ≡ false → (a || b) ≡ b
or_of_false true b h = cc
or_of_false false b h = refl

pub marked_head : (k : ℕ) (ks : List ℕ) → is_marked (k ∷ ks) k ≡ true
marked_head k ks = or_left _ _ (eq-eqb k k refl)

pub marked_tail : (j k : ℕ) (ks : List ℕ) → is_marked ks j ≡ true → is_marked (k ∷ ks) j ≡ true
marked_tail j k ks h = or_right _ _ h

eqb_no : (a b : ℕ) → (a ≡ b → ⊥) → (t : Bool) → eqb a b ≡ t → eqb a b ≡ false
eqb_no a b differ true is = absurd (differ (eqb-true a b is))
eqb_no a b differ false is = is

marked_other : (j k : ℕ) (ks : List ℕ) → (j ≡ k → ⊥) → is_marked (k ∷ ks) j ≡ is_marked ks j
marked_other j k ks differ = or_of_false _ _ (eqb_no j k differ (eqb j k) refl)

apart : (ks : List ℕ) (j k : ℕ) → is_marked ks j ≡ true → is_marked ks k ≡ false → j ≡ k → ⊥
apart ks j k has lacks same = both_ways _ lacks (subst (λ i. is_marked ks i ≡ true) same has)

-- Elements that differ are as many as they can be.

all_differ : (k : ℕ) (ks : List ℕ) → is_marked ks k ≡ false → AllByRecursion (λ y. eqb k y ≡ false) ks
all_differ k [] h = tt
all_differ k (y ∷ ks) h = (or_false_left _ _ h, all_differ k ks (or_false_right (eqb k y) _ h))

distinct_of : (ks : List ℕ) → Differ ks → IsDistinct eqb ks
unfolding IsDistinct
distinct_of [] h = tt
distinct_of (k ∷ ks) h = (all_differ k ks h.0, distinct_of ks h.1)

few_marked : (ks : List ℕ) (n : ℕ) → Differ ks → ((k : ℕ) → is_marked ks k ≡ true → k < n) → length ks ≤ n
few_marked ks n differ below = length-le_from_distinct_below ks n (distinct_of ks differ) below

-- What is left of a visit.

module _ (E : ℕ → List ℕ) (N : ℕ) where
  -- the edges of an object that are not yet gone over
  abbrev pub rest_of : List ℕ → ℕ → List ℕ
  rest_of C k = drop (get_or C k 0) (E k)

  -- the rest of a visit of the object on top, and of those below it
  pub data Resume (C : List ℕ) : ℕ → List ℕ → List ℕ → List ℕ → List ℕ → List ℕ → Type 0 where
    last : (top : ℕ) (m w m1 w1 w2 : List ℕ) → Visits E N (rest_of C top) m w m1 w1 → w2 ≡ w1 ++ top ∷ [] → Resume C top [] m w m1 w2
    back : (top f : ℕ) (fs m w m1 w1 m2 w2 : List ℕ) → Visits E N (rest_of C top) m w m1 w1 → Resume C f fs m1 (w1 ++ top ∷ []) m2 w2
        → Resume C top (f ∷ fs) m w m2 w2

  rest_same : (C C' : List ℕ) (k : ℕ) → get_or C' k 0 ≡ get_or C k 0 → rest_of C' k ≡ rest_of C k
  rest_same C C' k h = ap (λ i. drop i (E k)) h

  resume_other : (C C' : List ℕ) (f : ℕ) (fs m w m2 w2 : List ℕ) → ((k : ℕ) → is_marked (f ∷ fs) k ≡ true → get_or C' k 0 ≡ get_or C k 0)
      → Resume C' f fs m w m2 w2 → Resume C f fs m w m2 w2
  resume_other C C' f fs m w m2 w2 same (last _ _ _ _ w1 _ v e) =
      last f m w m2 w1 w2 (subst (λ xs. Visits E N xs m w m2 w1) (rest_same C C' f (same f (marked_head f []))) v) e
  resume_other C C' f fs m w m2 w2 same (back _ g gs _ _ m1 w1 _ _ v r) =
      back f g gs m w m1 w1 m2 w2 (subst (λ xs. Visits E N xs m w m1 w1) (rest_same C C' f (same f (marked_head f (g ∷ gs)))) v)
      (resume_other C C' g gs m1 (w1 ++ f ∷ []) m2 w2 (λ k h. same k (marked_tail k f (g ∷ gs) h)) r)

  resume_prefix : (C C' : List ℕ) (top : ℕ) (fs m w ma wa m2 w2 : List ℕ) → ((k : ℕ) → is_marked fs k ≡ true → get_or C' k 0 ≡ get_or C k 0)
      → ((m1 w1 : List ℕ) → Visits E N (rest_of C' top) ma wa m1 w1 → Visits E N (rest_of C top) m w m1 w1)
      → Resume C' top fs ma wa m2 w2 → Resume C top fs m w m2 w2
  resume_prefix C C' top fs m w ma wa m2 w2 same before (last _ _ _ _ w1 _ v e) = last top m w m2 w1 w2 (before m2 w1 v) e
  resume_prefix C C' top fs m w ma wa m2 w2 same before (back _ g gs _ _ m1 w1 _ _ v r) =
      back top g gs m w m1 w1 m2 w2 (before m1 w1 v) (resume_other C C' g gs m1 (w1 ++ top ∷ []) m2 w2 same r)

  rest_next : (C C' : List ℕ) (top : ℕ) → get_or C top 0 < length (E top) → get_or C' top 0 ≡ get_or C top 0 + 1
      → rest_of C top ≡ get_or (E top) (get_or C top 0) 0 ∷ rest_of C' top
  rest_next C C' top h next = rw (next, add-one) (drop-cons (E top) (get_or C top 0) 0 h)

  -- an edge to an object that is passed
  resume_pass : (C C' : List ℕ) (top : ℕ) (fs m w m2 w2 : List ℕ) → get_or C top 0 < length (E top) → get_or C' top 0 ≡ get_or C top 0 + 1
      → ((k : ℕ) → is_marked fs k ≡ true → get_or C' k 0 ≡ get_or C k 0)
      → (N ≤ get_or (E top) (get_or C top 0) 0) ⊎ (is_marked m (get_or (E top) (get_or C top 0) 0) ≡ true)
      → Resume C' top fs m w m2 w2 → Resume C top fs m w m2 w2
  resume_pass C C' top fs m w m2 w2 h next same passed r =
      resume_prefix C C' top fs m w m w m2 w2 same
      (λ m1 w1 v. subst (λ xs. Visits E N xs m w m1 w1) (sym (rest_next C C' top h next)) (pass _ _ m w m1 w1 passed v)) r

  -- an edge to an object that is visited
  resume_visit : (C C' : List ℕ) (top e : ℕ) (fs m w m2 w2 : List ℕ) → get_or C top 0 < length (E top) → get_or C' top 0 ≡ get_or C top 0 + 1
      → ((k : ℕ) → is_marked fs k ≡ true → get_or C' k 0 ≡ get_or C k 0)
      → e ≡ get_or (E top) (get_or C top 0) 0 → get_or C' e 0 ≡ 0 → e < N → is_marked m e ≡ false
      → Resume C' e (top ∷ fs) (e ∷ m) w m2 w2 → Resume C top fs m w m2 w2
  resume_visit C C' top e fs m w m2 w2 h next same at zero' inside fresh (back _ _ _ _ _ m1 w1 _ _ v r) =
      resume_prefix C C' top fs m w m1 (w1 ++ e ∷ []) m2 w2 same
      (λ m3 w3 v3. subst (λ xs. Visits E N xs m w m3 w3) (sym (rest_next C C' top h next ∙ ap (λ i. i ∷ rest_of C' top) (sym at)))
      (visit e _ m w m1 w1 m3 w3 inside fresh (subst (λ i. Visits E N (drop i (E e)) (e ∷ m) w m1 w1) zero' v) v3)) r

  rest_none : (C : List ℕ) (top : ℕ) → length (E top) ≤ get_or C top 0 → rest_of C top ≡ []
  rest_none C top h = drop_all (get_or C top 0) (E top) h

  resume_back : (C : List ℕ) (top f : ℕ) (fs m w m2 w2 : List ℕ) → length (E top) ≤ get_or C top 0
      → Resume C f fs m (w ++ top ∷ []) m2 w2 → Resume C top (f ∷ fs) m w m2 w2
  resume_back C top f fs m w m2 w2 h r = back top f fs m w m w m2 w2 (subst (λ xs. Visits E N xs m w m w) (sym (rest_none C top h)) (done m w)) r

  resume_last : (C : List ℕ) (top : ℕ) (m w : List ℕ) → length (E top) ≤ get_or C top 0 → Resume C top [] m w m (w ++ top ∷ [])
  resume_last C top m w h = last top m w m w (w ++ top ∷ []) (subst (λ xs. Visits E N xs m w m w) (sym (rest_none C top h)) (done m w)) refl

  resume_first : (C : List ℕ) (root : ℕ) (m0 w0 m2 w2 : List ℕ) → get_or C root 0 ≡ 0 → root < N → is_marked m0 root ≡ false
      → Resume C root [] (root ∷ m0) w0 m2 w2 → Continues E N root m0 w0 m2 w2
  resume_first C root m0 w0 m2 w2 zero' inside fresh (last _ _ _ _ w1 _ v e) = λ ks m3 w3 rest.
      visit root ks m0 w0 m2 w1 m3 w3 inside fresh (subst (λ i. Visits E N (drop i (E root)) (root ∷ m0) w0 m2 w1) zero' v)
      (subst (λ w. Visits E N ks m2 w m3 w3) e rest)

-- The objects below the one on top, over their words.

abbrev pub Chain : List ℕ → ℕ → List ℕ → Type 0
Chain P top [] = Unit {0}
Chain P top (f ∷ fs) = (get_or P top 0 ≡ f) × Chain P f fs

chain_other : (P P' : List ℕ) (top : ℕ) (fs : List ℕ) → ((k : ℕ) → is_marked (top ∷ fs) k ≡ true → get_or P' k 0 ≡ get_or P k 0) → Chain P top fs → Chain P' top fs
chain_other P P' top [] same c = tt
chain_other P P' top (f ∷ fs) same c =
    (same top (marked_head top (f ∷ fs)) ∙ c.0, chain_other P P' f fs (λ k h. same k (marked_tail k top (f ∷ fs) h)) c.1)

-- the state of a visit of `root`, from the marked objects m0 and the written ones w0 on
pub record IsVisit (E : ℕ → List ℕ) (N root : ℕ) (m0 w0 : List ℕ) (top n depth : ℕ) (P C W : List ℕ) : Type 0 where
  pub marked : List ℕ
  pub frames : List ℕ
  pub resume : (m2 w2 : List ℕ) → Resume E N C top frames marked (take n W) m2 w2 → Continues E N root m0 w0 m2 w2
  pub marks : HasMarks N C marked
  pub differ : Differ marked
  pub below : (k : ℕ) → is_marked marked k ≡ true → k < N
  pub chain : Chain P top frames
  pub stack : Differ (top ∷ frames)
  pub on : (k : ℕ) → is_marked (top ∷ frames) k ≡ true → is_marked marked k ≡ true
  pub depth_is : depth ≡ length frames
  pub number : length marked ≡ n + depth + 2

-- Steps by cases.

not_of : (b : Bool) → b ≡ false → not b ≡ true
not_of true h = cc
not_of false h = refl

not_true : (b : Bool) → b ≡ true → not b ≡ false
not_true true h = refl
not_true false h = cc

and_left : (a b : Bool) → (a && b) ≡ true → a ≡ true
and_left true b h = refl
and_left false b h = cc

and_right : (a b : Bool) → (a && b) ≡ true → b ≡ true
and_right true b h = h
and_right false b h = cc

and_rest : (a b : Bool) → a ≡ true → (a && b) ≡ false → b ≡ false
and_rest true b h is = is
and_rest false b h is = cc

not_less : (k n : ℕ) → n ≤ k → (less : Bool) → nat_lt k n ≡ less → nat_lt k n ≡ false
not_less k n b true is = let c : k < n = ltb-true k n is in absurd (omega arith)
not_less k n b false is = is

head_below : (N root : ℕ) (m : List ℕ) → root < N → ((k : ℕ) → is_marked m k ≡ true → k < N) → (k : ℕ) → is_marked (root ∷ m) k ≡ true → (same : Bool) → eqb k root ≡ same → k < N
head_below N root m inside below k on true is = let e : k ≡ root = eqb-true k root is in omega arith
head_below N root m inside below k on false is = below k (sym (or_of_false _ _ is) ∙ on)

only_head : (root : ℕ) (m : List ℕ) (k : ℕ) → is_marked (root ∷ []) k ≡ true → (same : Bool) → eqb k root ≡ same → is_marked (root ∷ m) k ≡ true
only_head root m k on true is = or_left _ _ is
only_head root m k on false is = absurd (both_ways _ (or_of_false (eqb k root) false is) on)

head_on : (e : ℕ) (fs m : List ℕ) → ((k : ℕ) → is_marked fs k ≡ true → is_marked m k ≡ true) → (k : ℕ) → is_marked (e ∷ fs) k ≡ true → (same : Bool) → eqb k e ≡ same → is_marked (e ∷ m) k ≡ true
head_on e fs m on k h true is = or_left _ _ is
head_on e fs m on k h false is = or_right _ _ (on k (sym (or_of_false _ _ is) ∙ h))

unmarked_of : (m fs : List ℕ) (e : ℕ) → ((k : ℕ) → is_marked fs k ≡ true → is_marked m k ≡ true) → is_marked m e ≡ false → (b : Bool) → is_marked fs e ≡ b → is_marked fs e ≡ false
unmarked_of m fs e on fresh true is = absurd (both_ways _ fresh (on e is))
unmarked_of m fs e on fresh false is = is

passed_of : (N : ℕ) (C m : List ℕ) (e : ℕ) → HasMarks N C m → (inside : Bool) → nat_lt e N ≡ inside → (nat_lt e N && get_or C e 0 == 4294967295) ≡ false
    → (N ≤ e) ⊎ (is_marked m e ≡ true)
passed_of N C m e marks true is out = inr (marks e (ltb-true e N is) ∙ not_of _ (and_rest _ _ is out))
passed_of N C m e marks false is out = inl (ltb-false e N is)

-- a word that is not `NO_OBJECT` keeps a marked object marked
marks_set : (N : ℕ) (C m : List ℕ) (top v : ℕ) → top < length C → v < 4294967295 → is_marked m top ≡ true → HasMarks N C m
    → (k : ℕ) → k < N → (same : Bool) → (k == top) ≡ same → is_marked m k ≡ not (get_or (set C top v) k 0 == 4294967295)
marks_set N C m top v room few on marks k b true is =
    let e : k ≡ top = eqb-true k top is in
    rw (e, get_or-set_same C top v 0 room) (on ∙ sym (not_of (v == 4294967295) (eqb_no v 4294967295 (λ same. absurd (omega arith)) (v == 4294967295) refl)))
marks_set N C m top v room few on marks k b false is =
    let differ : k ≢ top = eqb-false k top is in
    rw (get_or-set_other C top k v 0 differ) (marks k b)

marks_new : (N : ℕ) (C m : List ℕ) (e : ℕ) → e < length C → HasMarks N C m
    → (k : ℕ) → k < N → (same : Bool) → (k == e) ≡ same → is_marked (e ∷ m) k ≡ not (get_or (set C e 0) k 0 == 4294967295)
marks_new N C m e room marks k b true is =
    let at : k ≡ e = eqb-true k e is in
    rw (at, get_or-set_same C e 0 0 room) (or_left _ _ (eq-eqb e e refl))
marks_new N C m e room marks k b false is =
    let differ : k ≢ e = eqb-false k e is in
    rw (get_or-set_other C e k 0 0 differ) (marked_other k e m differ ∙ marks k b)

-- a visit begins
pub visit_begins : (E : ℕ → List ℕ) (N root : ℕ) (m0 : List ℕ) (n : ℕ) (P C W : List ℕ) → root < N → root < length C → get_or C root 0 ≡ 4294967295
    → IsBetween N C m0 n → IsVisit E N root m0 (take n W) root n 0 P (set C root 0) W
visit_begins E N root m0 n P C W inside room at state =
    let fresh : is_marked m0 root ≡ false = state.marks root inside ∙ not_true (get_or C root 0 == 4294967295) (eq-eqb _ _ at) in
    record {
      marked = root ∷ m0;
      frames = [];
      resume = λ m2 w2 r. resume_first E N (set C root 0) root m0 (take n W) m2 w2 (get_or-set_same C root 0 0 room) inside fresh r;
      marks = λ k b. marks_new N C m0 root room state.marks k b (k == root) refl;
      differ = (fresh, state.differ);
      below = λ k h. head_below N root m0 inside state.below k h (eqb k root) refl;
      chain = tt;
      stack = (refl, tt);
      on = λ k h. only_head root m0 k h (eqb k root) refl;
      depth_is = refl;
      number = let count = state.size in omega arith;
    }

-- a number that is written fits
pub visit_room : (E : ℕ → List ℕ) (N root : ℕ) (m0 w0 : List ℕ) (top n depth : ℕ) (P C W : List ℕ) → IsVisit E N root m0 w0 top n depth P C W → n + depth + 2 ≤ N
visit_room E N root m0 w0 top n depth P C W v = let few = few_marked v.marked N v.differ v.below in omega (arith, few, v.number)

pub visit_top : (E : ℕ → List ℕ) (N root : ℕ) (m0 w0 : List ℕ) (top n depth : ℕ) (P C W : List ℕ) → IsVisit E N root m0 w0 top n depth P C W → top < N
visit_top E N root m0 w0 top n depth P C W v = v.below top (v.on top (marked_head top v.frames))

-- an edge is passed
pub visit_passes : (E : ℕ → List ℕ) (N root : ℕ) (m0 w0 : List ℕ) (top n depth : ℕ) (P C W : List ℕ) → top < length C
    → get_or C top 0 < length (E top) → get_or C top 0 + 1 < 4294967295
    → (nat_lt (get_or (E top) (get_or C top 0) 0) N && get_or (set C top (get_or C top 0 + 1)) (get_or (E top) (get_or C top 0) 0) 0 == 4294967295) ≡ false
    → IsVisit E N root m0 w0 top n depth P C W → IsVisit E N root m0 w0 top n depth P (set C top (get_or C top 0 + 1)) W
visit_passes E N root m0 w0 top n depth P C W room h few out v =
    let marks : HasMarks N (set C top (get_or C top 0 + 1)) v.marked = λ k b. marks_set N C v.marked top (get_or C top 0 + 1) room few (v.on top (marked_head top v.frames)) v.marks k b (k == top) refl in
    record {
      marked = v.marked;
      frames = v.frames;
      resume = λ m2 w2 r. v.resume m2 w2 (resume_pass E N C (set C top (get_or C top 0 + 1)) top v.frames v.marked (take n W) m2 w2 h
          (get_or-set_same C top (get_or C top 0 + 1) 0 room)
          (λ k on. get_or-set_other C top k (get_or C top 0 + 1) 0 (apart v.frames k top on v.stack.0))
          (passed_of N (set C top (get_or C top 0 + 1)) v.marked (get_or (E top) (get_or C top 0) 0) marks (nat_lt (get_or (E top) (get_or C top 0) 0) N) refl out) r);
      marks = marks;
      differ = v.differ;
      below = v.below;
      chain = v.chain;
      stack = v.stack;
      on = v.on;
      depth_is = v.depth_is;
      number = v.number;
    }

-- an object is visited from the one on top
pub visit_pushes : (E : ℕ → List ℕ) (N root : ℕ) (m0 w0 : List ℕ) (top n depth : ℕ) (P C W : List ℕ) (e : ℕ) → top < length C → e < length C → e < length P
    → e ≡ get_or (E top) (get_or C top 0) 0 → get_or C top 0 < length (E top) → get_or C top 0 + 1 < 4294967295
    → (nat_lt e N && get_or (set C top (get_or C top 0 + 1)) e 0 == 4294967295) ≡ true
    → IsVisit E N root m0 w0 top n depth P C W → IsVisit E N root m0 w0 e n (depth + 1) (set P e top) (set (set C top (get_or C top 0 + 1)) e 0) W
visit_pushes E N root m0 w0 top n depth P C W e room eroom proom at h few new v =
    let C1 = set C top (get_or C top 0 + 1) in
    let inside : e < N = ltb-true e N (and_left _ _ new) in
    let marks : HasMarks N (set C top (get_or C top 0 + 1)) v.marked = λ k b. marks_set N C v.marked top (get_or C top 0 + 1) room few (v.on top (marked_head top v.frames)) v.marks k b (k == top) refl in
    let fresh : is_marked v.marked e ≡ false = marks e inside ∙ not_true _ (and_right _ _ new) in
    let length_is : length (set C top (get_or C top 0 + 1)) ≡ length C = length-set C top (get_or C top 0 + 1) in
    let eroom1 : e < length (set C top (get_or C top 0 + 1)) = omega (arith, length_is) in
    let off : (k : ℕ) → is_marked (top ∷ v.frames) k ≡ true → k ≡ e → ⊥ = λ k on. apart v.marked k e (v.on k on) fresh in
    record {
      marked = e ∷ v.marked;
      frames = top ∷ v.frames;
      resume = λ m2 w2 r. v.resume m2 w2 (resume_visit E N C (set (set C top (get_or C top 0 + 1)) e 0) top e v.frames v.marked (take n W) m2 w2 h
          (get_or-set_other (set C top (get_or C top 0 + 1)) e top 0 0 (off top (marked_head top v.frames)) ∙ get_or-set_same C top (get_or C top 0 + 1) 0 room)
          (λ k on. get_or-set_other (set C top (get_or C top 0 + 1)) e k 0 0 (off k (marked_tail k top v.frames on))
          ∙ get_or-set_other C top k (get_or C top 0 + 1) 0 (apart v.frames k top on v.stack.0))
          at (get_or-set_same (set C top (get_or C top 0 + 1)) e 0 0 eroom1) inside fresh r);
      marks = λ k b. marks_new N (set C top (get_or C top 0 + 1)) v.marked e eroom1 marks k b (k == e) refl;
      differ = (fresh, v.differ);
      below = λ k on. head_below N e v.marked inside v.below k on (eqb k e) refl;
      chain = (get_or-set_same P e top 0 proom, chain_other P (set P e top) top v.frames (λ k on. get_or-set_other P e k top 0 (off k on)) v.chain);
      stack = (unmarked_of v.marked (top ∷ v.frames) e v.on fresh (is_marked (top ∷ v.frames) e) refl, v.stack);
      on = λ k on. head_on e (top ∷ v.frames) v.marked v.on k on (eqb k e) refl;
      depth_is = let d = v.depth_is in omega arith;
      number = let d = v.number in omega arith;
    }

pops_by : (E : ℕ → List ℕ) (N root : ℕ) (m0 w0 : List ℕ) (top n depth : ℕ) (P C W : List ℕ) → n < length W → 0 < depth → length (E top) ≤ get_or C top 0
    → (marked frames : List ℕ) → ((m2 w2 : List ℕ) → Resume E N C top frames marked (take n W) m2 w2 → Continues E N root m0 w0 m2 w2)
    → HasMarks N C marked → Differ marked → ((k : ℕ) → is_marked marked k ≡ true → k < N) → Chain P top frames → Differ (top ∷ frames)
    → ((k : ℕ) → is_marked (top ∷ frames) k ≡ true → is_marked marked k ≡ true) → depth ≡ length frames → length marked ≡ n + depth + 2
    → IsVisit E N root m0 w0 (get_or P top 0) (n + 1) (depth - 1) P C (set W n top)
pops_by E N root m0 w0 top n depth P C W room deep h marked [] resume marks differ below chain stack on depth_is number = absurd (omega arith)
pops_by E N root m0 w0 top n depth P C W room deep h marked (f ∷ fs) resume marks differ below chain stack on depth_is number =
    subst (λ i. IsVisit E N root m0 w0 i (n + 1) (depth - 1) P C (set W n top)) (sym chain.0) (record {
      marked = marked;
      frames = fs;
      resume = λ m2 w2 r. resume m2 w2 (resume_back E N C top f fs marked (take n W) m2 w2 h
          (subst (λ w. Resume E N C f fs marked w m2 w2) (take_more_set W n top room) r));
      marks = marks;
      differ = differ;
      below = below;
      chain = chain.1;
      stack = stack.1;
      on = λ k has. on k (marked_tail k top (f ∷ fs) has);
      depth_is = omega arith;
      number = omega arith;
    })

ends_by : (E : ℕ → List ℕ) (N root : ℕ) (m0 w0 : List ℕ) (top n depth : ℕ) (P C W : List ℕ) → n < length W → depth ≡ 0 → length (E top) ≤ get_or C top 0
    → (marked frames : List ℕ) → ((m2 w2 : List ℕ) → Resume E N C top frames marked (take n W) m2 w2 → Continues E N root m0 w0 m2 w2)
    → HasMarks N C marked → Differ marked → ((k : ℕ) → is_marked marked k ≡ true → k < N) → depth ≡ length frames → length marked ≡ n + depth + 2
    → (m : List ℕ) × IsBetween N C m (n + 1) × Continues E N root m0 w0 m (take (n + 1) (set W n top))
ends_by E N root m0 w0 top n depth P C W room flat h marked [] resume marks differ below depth_is number = (
  marked,
  record { marks = marks; differ = differ; below = below; size = omega arith },
  subst (λ w. Continues E N root m0 w0 marked w) (sym (take_more_set W n top room)) (resume marked (take n W ++ top ∷ []) (resume_last E N C top marked (take n W) h)),
)
ends_by E N root m0 w0 top n depth P C W room flat h marked (f ∷ fs) resume marks differ below depth_is number = absurd (omega arith)

-- the object on top is written, and the one below it is gone on with
pub visit_pops : (E : ℕ → List ℕ) (N root : ℕ) (m0 w0 : List ℕ) (top n depth : ℕ) (P C W : List ℕ) → n < length W → 0 < depth → length (E top) ≤ get_or C top 0
    → IsVisit E N root m0 w0 top n depth P C W → IsVisit E N root m0 w0 (get_or P top 0) (n + 1) (depth - 1) P C (set W n top)
visit_pops E N root m0 w0 top n depth P C W room deep h v =
    pops_by E N root m0 w0 top n depth P C W room deep h v.marked v.frames v.resume v.marks v.differ v.below v.chain v.stack v.on v.depth_is v.number

-- the object on top is written, and the visit ends
pub visit_ends : (E : ℕ → List ℕ) (N root : ℕ) (m0 w0 : List ℕ) (top n depth : ℕ) (P C W : List ℕ) → n < length W → depth ≡ 0 → length (E top) ≤ get_or C top 0
    → IsVisit E N root m0 w0 top n depth P C W
    → (m : List ℕ) × IsBetween N C m (n + 1) × Continues E N root m0 w0 m (take (n + 1) (set W n top))
visit_ends E N root m0 w0 top n depth P C W room flat h v =
    ends_by E N root m0 w0 top n depth P C W room flat h v.marked v.frames v.resume v.marks v.differ v.below v.depth_is v.number

-- Each turn of a visit makes this smaller: an edge is gone over, or an object is begun or written.
pub turn_less : (u a b r s : ℕ) → b < a → r ≤ u → (u + 1) * b + r < (u + 1) * a + s
turn_less u a b r s less few =
    let more : b + 1 ≤ a = omega arith in
    let most : (u + 1) * (b + 1) ≤ (u + 1) * a = mul-le-mul_left (u + 1) more in omega arith

-- Visits of a list.

pub back_here : (before : ℕ → ℕ) (N n j k : ℕ) → n ≡ j + 1 → k < N → back_from before N n k ≡ k ∷ back_from before N j (before k)
back_here before N n j k e b = let less : nat_lt k N ≡ true = lt-ltb k N b in rw (e, add-one) (rw less refl)

pub back_none : (before : ℕ → ℕ) (N n k : ℕ) → N ≤ k → back_from before N n k ≡ []
back_none before N zero k b = refl
back_none before N (suc n) k b = rw (not_less k N b (nat_lt k N) refl) refl

pub back_end : (before : ℕ → ℕ) (N n k : ℕ) → n ≡ 0 → back_from before N n k ≡ []
back_end before N n k e = rw e refl

-- the state of a visit, with its bounds
pub visit_state : (E : ℕ → List ℕ) (N root begun : ℕ) (c w : List ℕ) (top n depth : ℕ) (P C W m : List ℕ) → IsBetween N c m begun
    → ((m0 : List ℕ) → IsBetween N c m0 begun → IsVisit E N root m0 (take begun w) top n depth P C W)
    → ((m0 : List ℕ) → IsBetween N c m0 begun → IsVisit E N root m0 (take begun w) top n depth P C W) × (top < N) × (n + depth + 2 ≤ N)
visit_state E N root begun c w top n depth P C W m state visits =
    (visits, visit_top E N root m (take begun w) top n depth P C W (visits m state), visit_room E N root m (take begun w) top n depth P C W (visits m state))

-- an edge is gone over
pub turn_pass : (u a most top : ℕ) (C : List ℕ) → top < length C → get_or C top 0 < most
    → (u + 1) * a + (most - get_or (set C top (get_or C top 0 + 1)) top 0) < (u + 1) * a + (most - get_or C top 0)
turn_pass u a most top C room h = rw (get_or-set_same C top (get_or C top 0 + 1) 0 room) (omega arith)

-- an object that is marked is passed
pub visit_none : (E : ℕ → List ℕ) (N root n : ℕ) (m0 C W : List ℕ) → root < N → (get_or C root 0 ≡ 4294967295 → ⊥) → IsBetween N C m0 n
    → (m : List ℕ) × IsBetween N C m n × Continues E N root m0 (take n W) m (take n W)
visit_none E N root n m0 C W inside differ state = (
  m0,
  state,
  λ ks m3 w3 rest. pass root ks m0 (take n W) m3 w3
      (inr (state.marks root inside ∙ not_of (get_or C root 0 == 4294967295) (eqb_no (get_or C root 0) 4294967295 differ (get_or C root 0 == 4294967295) refl))) rest,
)

-- a list is gone through from its last object
pub list_begins : (E : ℕ → List ℕ) (before : ℕ → ℕ) (N n k first : ℕ) (m W m2 w2 : List ℕ) → k ≡ first
    → Visits E N (back_from before N (n - 0) k) m (take 0 W) m2 w2 → Visits E N (back_from before N n first) m [] m2 w2
list_begins E before N n k first m W m2 w2 at v =
    let e : n - 0 ≡ n = omega arith in
    subst (λ i. Visits E N (back_from before N n i) m [] m2 w2) at (subst (λ i. Visits E N (back_from before N i k) m [] m2 w2) e v)

-- the next object of the list is gone to
pub list_goes : (E : ℕ → List ℕ) (before : ℕ → ℕ) (N t k next : ℕ) (m w m1 w1 : List ℕ) (Goal : List ℕ → List ℕ → Type 0) → t < N → k < N → next ≡ before k
    → ((m2 w2 : List ℕ) → Visits E N (back_from before N (N - t) k) m w m2 w2 → Goal m2 w2) → Continues E N k m w m1 w1
    → (m2 w2 : List ℕ) → Visits E N (back_from before N (N - (t + 1)) next) m1 w1 m2 w2 → Goal m2 w2
list_goes E before N t k next m w m1 w1 Goal h b at goal continues m2 w2 v =
    let e : N - t ≡ (N - (t + 1)) + 1 = omega arith in
    goal m2 w2 (subst (λ xs. Visits E N xs m w m2 w2) (sym (back_here before N (N - t) (N - (t + 1)) k e b))
    (continues (back_from before N (N - (t + 1)) (before k)) m2 w2 (subst (λ i. Visits E N (back_from before N (N - (t + 1)) i) m1 w1 m2 w2) at v)))

-- the list ends
pub list_ends : (E : ℕ → List ℕ) (before : ℕ → ℕ) (N n k : ℕ) (m w : List ℕ) → (n ≡ 0) ⊎ (N ≤ k) → Visits E N (back_from before N n k) m w m w
list_ends E before N n k m w (inl e) = subst (λ xs. Visits E N xs m w m w) (sym (back_end before N n k e)) (done m w)
list_ends E before N n k m w (inr h) = subst (λ xs. Visits E N xs m w m w) (sym (back_none before N n k h)) (done m w)

program_below : (N k : ℕ) → 0 < N → is_marked (0 ∷ []) k ≡ true → (same : Bool) → eqb k 0 ≡ same → k < N
program_below N k some on true is = let e : k ≡ 0 = eqb-true k 0 is in omega arith
program_below N k some on false is = absurd (both_ways _ (or_of_false (eqb k 0) false is) on)

-- the program alone is marked
pub program_marked : (N : ℕ) (C : List ℕ) → 0 < N → N ≤ length C → ((k : ℕ) → k < length C → get_or C k 0 ≡ 4294967295) → IsBetween N (set C 0 0) (0 ∷ []) 0
program_marked N C some room clear = record {
  marks = λ k b. marks_new N C [] 0 (omega arith) (λ j c. sym (not_true (get_or C j 0 == 4294967295) (eq-eqb _ _ (clear j (omega arith))))) k b (k == 0) refl;
  differ = (refl, tt);
  below = λ k on. program_below N k some on (eqb k 0) refl;
  size = refl;
}

-- a number that is new is that of an object
pub new_inside : (N e : ℕ) (b : Bool) → (nat_lt e N && b) ≡ true → e < N
new_inside N e b h = ltb-true e N (and_left _ _ h)

-- fewer objects are written than there are
pub between_room : (N : ℕ) (C m : List ℕ) (n : ℕ) → IsBetween N C m n → n < N
between_room N C m n state = let few = few_marked m N state.differ state.below in let size = state.size in omega arith

-- the words begin with those that are written
pub starts_front : (order : Order) (n : ℕ) (front rest : List ℕ) → n ≤ length front → Starts order (take n front) → Starts order (take n (front ++ rest))
starts_front order n front rest h s = subst (λ xs. Starts order xs) (sym (take-append-le n front rest h)) s
