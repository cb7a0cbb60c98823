-- Two lists of parts in order, merged: which parts match, and that each is there once.
use Rattle.std.proofs.Common.{◌≡◌, ℕ, ◌+◌, ◌-◌, ◌<◌, ◌≤◌, ◌==◌, ◌&&◌, Bool, true, false, List, [], ◌∷◌, ◌++◌, Option, None, Some, Ordering, Less, Equal, Greater, nat_cmp, is_eq, is_lt, length, get_or, take, cond, refl, ap, sym, subst, ◌∙◌, inl, inr, ◌⊎◌, IsPermutation, IsSorted, nat_eq, arith}
use Rattle.std.specs.Cmp.{IsStrictWeakOrder, IsTotalOrder, unsigned_ties}
use Rattle.std.specs.Cmp.Lexicographic.{slice_cmp, texts_ties}
use Rattle.std.specs.List.{All, count_by, flat_map, slice_get, sum_by}
use lib.Pointwise.{pointwise}
use Rattle.std.specs.Ordering.{ordering_reverse, ordering_then}
use Rattle.std.proofs.lemmas.Bool.{cases_Bool, cases_lt, cases_order, false≢true, true≢false}
use Rattle.std.proofs.lemmas.Cmp.{alike_right, back_total, nat_cmp_total, nat_list_cmp_total, on_total, then_total, tied_back, tied_itself}
use Rattle.std.proofs.lemmas.List.{append-nil, flat_map_more, length_push, take_all, take_more, take-take}
use Rattle.std.proofs.lemmas.List.Elements.{All-append, All-cons, All-nil}
use Rattle.std.proofs.lemmas.List.Sorted.{ranks_by, sorted_far, sum_by-IsPermutation}
use Rattle.std.proofs.lemmas.List.Sums.{sum_by-append, sum_by-cons, sum_by-le-sum_by, sum_by-take-le, sum_by_more}
use Rattle.std.proofs.lemmas.Option.{get_or_from_slice_get, none-some, same_Some, slice_get-get_or, slice_get_cases, slice_get_within}
use Rattle.elf_addresses.specs.Differences.{AreDifferences, AreMerged, IsChange, all_sizes, change_of, change_order, distance, first_of, growth, have_one_name, name_order, new_size, news_of, old_size, olds_of, part_order, shown, shrinkage}
use Rattle.elf_addresses.specs.declared.difference.Change.{Change}
use Rattle.elf_addresses.specs.declared.difference.Change.TheVariants.{Both, Gone, New}
use Rattle.elf_addresses.specs.declared.difference.SizedPart.{SizedPart}

-- The orders are total.

pub name_total : IsTotalOrder name_order
name_total = then_total (on_total (λ (part : SizedPart). part.kind) nat_cmp_total) (on_total (λ (part : SizedPart). part.name.now) nat_list_cmp_total)

pub part_total : IsTotalOrder part_order
part_total = then_total name_total (on_total (λ (part : SizedPart). part.place) nat_cmp_total)

pub change_total : IsTotalOrder change_order
change_total = then_total (back_total (on_total distance nat_cmp_total)) (on_total shown part_total)

pub part_weak : IsStrictWeakOrder (λ (x : SizedPart) (y : SizedPart). is_lt (part_order x y))
part_weak = ranks_by part_total (λ (part : SizedPart). part)

pub change_weak : IsStrictWeakOrder (λ (x : Change) (y : Change). is_lt (change_order x y))
change_weak = ranks_by change_total (λ (change : Change). change)

-- Two parts have one name exactly if neither comes first.

both_equal : (r s : Ordering) → (is_eq r && is_eq s) ≡ is_eq (ordering_then r s)
both_equal Less s = refl
both_equal Equal s = refl
both_equal Greater s = refl

same_name : (p q : SizedPart) → have_one_name p q ≡ is_eq (name_order p q)
same_name p q =
    ap (λ (b : Bool). b && pointwise nat_eq p.name.now q.name.now) (unsigned_ties p.kind q.kind)
    ∙ ap (λ (b : Bool). is_eq (nat_cmp p.kind q.kind) && b) (texts_ties p.name.now q.name.now)
    ∙ both_equal (nat_cmp p.kind q.kind) (slice_cmp nat_cmp p.name.now q.name.now)

is_equal : (r : Ordering) → is_eq r ≡ true → r ≡ Equal
is_equal Less h = absurd (false≢true h)
is_equal Equal h = refl
is_equal Greater h = absurd (false≢true h)

equal_is : (r : Ordering) → r ≡ Equal → is_eq r ≡ true
equal_is r h = ap is_eq h

named : (p q : SizedPart) → name_order p q ≡ Equal → have_one_name p q ≡ true
named p q h = same_name p q ∙ equal_is (name_order p q) h

tied : (p q : SizedPart) → have_one_name p q ≡ true → name_order p q ≡ Equal
tied p q h = is_equal (name_order p q) (sym (same_name p q) ∙ h)

less_not_equal : {A : Type 0} (r : Ordering) → r ≡ Less → r ≡ Equal → A
less_not_equal r less equal = absurd (true≢false (sym (ap is_lt less) ∙ ap is_lt equal))

-- parts in order by name and place are in order by name
name_up : (r s : Ordering) → is_lt (ordering_then r s) ≡ false → is_lt r ≡ false
name_up Less s h = h
name_up Equal s h = refl
name_up Greater s h = refl

-- a part that comes before one comes before those after it
after : (o : Ordering) (K p q : SizedPart) → name_order q p ≡ o → is_lt o ≡ false → name_order K p ≡ Less → name_order K q ≡ Less
after Less K p q is h less = absurd (true≢false h)
after Equal K p q is h less = sym (alike_right name_total p q K (tied_back name_total q p is)) ∙ less
after Greater K p q is h less = name_total.trans K p q less (name_total.antisymm p q ∙ ap ordering_reverse is)

module _ (list : List SizedPart) (up : IsSorted part_order list) where
  -- parts at two places
  pub later : (K p q : SizedPart) (i j : ℕ) → i ≤ j → slice_get list i ≡ Some p → slice_get list j ≡ Some q → name_order K p ≡ Less → name_order K q ≡ Less
  later K p q i j up_to here there less =
      let far = sorted_far (λ (x : SizedPart) (y : SizedPart). is_lt (part_order x y)) part_weak list up i j p up_to (slice_get_within list j q there) in
      let first : get_or list i p ≡ p = get_or_from_slice_get list i p p here in
      let second : get_or list j p ≡ q = get_or_from_slice_get list j q p there in
      let not_before : is_lt (part_order q p) ≡ false = subst (λ x. is_lt (part_order x p) ≡ false) second (subst (λ x. is_lt (part_order (get_or list j p) x) ≡ false) first far) in
      after (name_order q p) K p q refl (name_up (name_order q p) (nat_cmp q.place p.place) not_before) less

-- The number of parts of one name.

abbrev pub rank_of : SizedPart → ℕ → List SizedPart → ℕ
rank_of K n list = count_by (have_one_name K) (take n list)

one_more : (K p : SizedPart) (list : List SizedPart) (n : ℕ) → slice_get list n ≡ Some p → rank_of K (n + 1) list ≡ rank_of K n list + cond (have_one_name K p) 1 0
one_more K p list n is =
    sum_by_more (λ (x : SizedPart). cond (have_one_name K x) 1 0) list n p (slice_get_within list n p is)
    ∙ ap (λ (x : SizedPart). rank_of K n list + cond (have_one_name K x) 1 0) (get_or_from_slice_get list n p p is)

one_more_named : (K p : SizedPart) (list : List SizedPart) (n : ℕ) → slice_get list n ≡ Some p → have_one_name K p ≡ true → rank_of K (n + 1) list ≡ rank_of K n list + 1
one_more_named K p list n is same = one_more K p list n is ∙ ap (λ (b : Bool). rank_of K n list + cond b 1 0) same

bit_le : (b : Bool) → cond b 1 0 ≤ 1
bit_le true = omega arith
bit_le false = omega arith

-- the number doesn't depend on which of the parts of a name is asked for
same_ranks : (p q : SizedPart) (list : List SizedPart) → name_order p q ≡ Equal → count_by (have_one_name p) list ≡ count_by (have_one_name q) list
same_ranks p q list equal =
    let each : (x : SizedPart) → have_one_name p x ≡ have_one_name q x = λ x. same_name p x ∙ ap is_eq (name_total.congr p q x equal) ∙ sym (same_name q x) in
    let one = sum_by-le-sum_by (λ (x : SizedPart). cond (have_one_name p x) 1 0) (λ (x : SizedPart). cond (have_one_name q x) 1 0) list (λ x. rw (each x) (omega arith)) in
    let other = sum_by-le-sum_by (λ (x : SizedPart). cond (have_one_name q x) 1 0) (λ (x : SizedPart). cond (have_one_name p x) 1 0) list (λ x. rw (each x) (omega arith)) in
    omega (arith, one, other)

-- What is known of two lists of which some parts are merged: if more parts of a name are merged of the one, the next part
-- of the other has a later name.

abbrev pub Leads : List SizedPart → List SizedPart → ℕ → ℕ → Type 0
Leads A B a b = (K q : SizedPart) → rank_of K b B < rank_of K a A → slice_get B b ≡ Some q → name_order K q ≡ Less

-- the next part of A has no match: its name is before that of the next part of B
abbrev pub IsBefore : List SizedPart → ℕ → SizedPart → Type 0
IsBefore B b p = (q : SizedPart) → slice_get B b ≡ Some q → name_order p q ≡ Less

module _ (A B : List SizedPart) (a b : ℕ) where
  pub gone_leads : (p : SizedPart) → slice_get A a ≡ Some p → IsBefore B b p → Leads A B a b → Leads A B (a + 1) b
  gone_leads p is before leads = λ K q less at.
      let more = one_more K p A a is in
      elim (cases_Bool (have_one_name K p)) [
        | inl same ↦ name_total.congr K p q (tied K p same) ∙ before q at
        | inr other ↦ (
            let equal : rank_of K (a + 1) A ≡ rank_of K a A + 0 = more ∙ ap (λ (t : Bool). rank_of K a A + cond t 1 0) other in
            leads K q (omega (arith, less, equal)) at)
      ]

  pub gone_follows : IsSorted part_order A → (p : SizedPart) → slice_get A a ≡ Some p → Leads B A b a → Leads B A b (a + 1)
  gone_follows up p is follows = λ K q less at.
      let more = one_more K p A a is in
      later A up K p q a (a + 1) (omega arith) is at (follows K p (omega (arith, less, more)) is)

  pub both_leads : IsSorted part_order B → (p q : SizedPart) → slice_get A a ≡ Some p → slice_get B b ≡ Some q → name_order p q ≡ Equal → Leads A B a b → Leads A B (a + 1) (b + 1)
  both_leads up p q is other equal leads = λ K next less at.
      let more = one_more K p A a is in
      let more' = one_more K q B b other in
      let same : have_one_name K p ≡ have_one_name K q = same_name K p ∙ ap is_eq (alike_right name_total p q K equal) ∙ sym (same_name K q) in
      let one = ap {B = ℕ} (λ (t : Bool). cond t 1 0) same in
      later B up K q next b (b + 1) (omega arith) other at (leads K q (omega (arith, less, more, more', one)) other)

  pub both_ranks : (p q : SizedPart) → slice_get A a ≡ Some p → slice_get B b ≡ Some q → name_order p q ≡ Equal → Leads A B a b → Leads B A b a → rank_of p a A ≡ rank_of q b B
  both_ranks p q is other equal leads follows =
      let same = same_ranks p q (take b B) equal in
      elim (cases_order (rank_of p a A) (rank_of p b B)) [
        | inl equal_ranks ↦ equal_ranks ∙ same
        | inr (inl less) ↦ less_not_equal (name_order p p) (follows p p less is) (tied_itself name_total p)
        | inr (inr more) ↦ less_not_equal (name_order p q) (leads p q more other) equal
      ]

  -- no part of B has the name of the next part of A and as many parts of that name before it
  pub none_matches : IsSorted part_order B → (p : SizedPart) → slice_get A a ≡ Some p → IsBefore B b p → Leads B A b a
      → (j : ℕ) (q : SizedPart) → slice_get B j ≡ Some q → name_order p q ≡ Equal → rank_of p a A ≡ rank_of q j B → ⊥
  none_matches up p is before follows j q at equal ranks =
      let same = same_ranks p q (take j B) equal in
      elim (cases_lt j b) [
        | inl less ↦ (
            let more = one_more_named p q B j at (named p q equal) in
            let most = sum_by-take-le (λ (x : SizedPart). cond (have_one_name p x) 1 0) (take b B) (j + 1) in
            let taken : rank_of p (j + 1) B ≡ count_by (have_one_name p) (take (j + 1) (take b B)) = ap (count_by (have_one_name p)) (sym (take-take (j + 1) b B (omega (arith, less)))) in
            less_not_equal (name_order p p) (follows p p (omega (arith, ranks, same, more, most, taken)) is) (tied_itself name_total p))
        | inr past ↦ (
            let within = slice_get_within B j q at in
            let next = slice_get-get_or B b q (omega (arith, within, past)) in
            less_not_equal (name_order p q) (later B up p (get_or B b q) q b j past next at (before (get_or B b q) next)) equal)
      ]

-- The merged changes so far.

pub record Merged (A B : List SizedPart) (a b : ℕ) (done : List Change) : Type 0 where
  pub each : All (IsChange A B) done
  pub olds : flat_map olds_of done ≡ take a A
  pub news : flat_map news_of done ≡ take b B
  pub leads : Leads A B a b
  pub follows : Leads B A b a
  pub within : a ≤ length A
  pub news_within : b ≤ length B
  pub count : length done ≤ a + b

nothing_less : {X : Type 0} (A B : List SizedPart) (K : SizedPart) → rank_of K 0 B < rank_of K 0 A → X
nothing_less A B K less =
    let none : rank_of K 0 A ≡ 0 = refl in
    absurd (omega (arith, less, none))

pub none_merged : (A B : List SizedPart) → Merged A B 0 0 []
none_merged A B = record {
  each = All-nil (IsChange A B);
  olds = refl;
  news = refl;
  leads = λ K q less at. nothing_less A B K less;
  follows = λ K q less at. nothing_less B A K less;
  within = omega arith;
  news_within = omega arith;
  count = omega arith;
}

one_change : {X : Type 0} (f : Change → List X) (done : List Change) (change : Change) → flat_map f (done ++ change ∷ []) ≡ flat_map f done ++ f change
one_change f done change = sym (flat_map_more f [] done change)

module _ (A B : List SizedPart) (up : IsSorted part_order A) (up' : IsSorted part_order B) (a b : ℕ) (done : List Change) (so_far : Merged A B a b done) where
  taken : (list : List SizedPart) (n : ℕ) (p : SizedPart) → slice_get list n ≡ Some p → take n list ++ p ∷ [] ≡ take (n + 1) list
  taken list n p is = ap (λ x. take n list ++ x ∷ []) (sym (get_or_from_slice_get list n p p is)) ∙ sym (take_more list n p (slice_get_within list n p is))

  counted : (change : Change) (n : ℕ) → a + b + 1 ≤ n → length (done ++ change ∷ []) ≤ n
  counted change n enough = let all = length_push done change in let was = so_far.count in omega (arith, all, was, enough)

  gone_step : (p : SizedPart) → slice_get A a ≡ Some p → IsBefore B b p → Merged A B (a + 1) b (done ++ Gone p ∷ [])
  gone_step p is before = record {
    each = All-append (IsChange A B) done (Gone p ∷ []) so_far.each (All-cons (IsChange A B) (Gone p) [] (
      a,
      is,
      λ j match.
          let old_is : p ≡ match.old = same_Some p match.old (sym is ∙ match.old_is) in
          none_matches A B a b up' p is before so_far.follows j match.new match.new_is
          (ap (λ x. name_order x match.new) old_is ∙ tied match.old match.new match.one_name)
          (ap (λ x. rank_of x a A) old_is ∙ match.one_rank),
    ) (All-nil (IsChange A B)));
    olds = one_change olds_of done (Gone p) ∙ ap (λ l. l ++ p ∷ []) so_far.olds ∙ taken A a p is;
    news = one_change news_of done (Gone p) ∙ append-nil (flat_map news_of done) ∙ so_far.news;
    leads = gone_leads A B a b p is before so_far.leads;
    follows = gone_follows A B a b up p is so_far.follows;
    within = let less = slice_get_within A a p is in omega (arith, less);
    news_within = so_far.news_within;
    count = counted (Gone p) (a + 1 + b) (omega arith);
  }

  new_step : (q : SizedPart) → slice_get B b ≡ Some q → IsBefore A a q → Merged A B a (b + 1) (done ++ New q ∷ [])
  new_step q is before = record {
    each = All-append (IsChange A B) done (New q ∷ []) so_far.each (All-cons (IsChange A B) (New q) [] (
      b,
      is,
      λ i match.
          let new_is : q ≡ match.new = same_Some q match.new (sym is ∙ match.new_is) in
          none_matches B A b a up q is before so_far.leads i match.old match.old_is
          (ap (λ x. name_order x match.old) new_is ∙ tied_back name_total match.old match.new (tied match.old match.new match.one_name))
          (ap (λ x. rank_of x b B) new_is ∙ sym match.one_rank),
    ) (All-nil (IsChange A B)));
    olds = one_change olds_of done (New q) ∙ append-nil (flat_map olds_of done) ∙ so_far.olds;
    news = one_change news_of done (New q) ∙ ap (λ l. l ++ q ∷ []) so_far.news ∙ taken B b q is;
    leads = gone_follows B A b a up' q is so_far.leads;
    follows = gone_leads B A b a q is before so_far.follows;
    within = so_far.within;
    news_within = let less = slice_get_within B b q is in omega (arith, less);
    count = counted (New q) (a + (b + 1)) (omega arith);
  }

  both_step : (p q : SizedPart) → slice_get A a ≡ Some p → slice_get B b ≡ Some q → name_order p q ≡ Equal → Merged A B (a + 1) (b + 1) (done ++ Both p q ∷ [])
  both_step p q is other equal = record {
    each = All-append (IsChange A B) done (Both p q ∷ []) so_far.each (All-cons (IsChange A B) (Both p q) [] (
      a,
      b,
      is,
      other,
      record {
        old = p;
        new = q;
        old_is = is;
        new_is = other;
        one_name = named p q equal;
        one_rank = both_ranks A B a b p q is other equal so_far.leads so_far.follows;
      },
    ) (All-nil (IsChange A B)));
    olds = one_change olds_of done (Both p q) ∙ ap (λ l. l ++ p ∷ []) so_far.olds ∙ taken A a p is;
    news = one_change news_of done (Both p q) ∙ ap (λ l. l ++ q ∷ []) so_far.news ∙ taken B b q other;
    leads = both_leads A B a b up' p q is other equal so_far.leads;
    follows = both_leads B A b a up q p other is (tied_back name_total p q equal) so_far.follows;
    within = let less = slice_get_within A a p is in omega (arith, less);
    news_within = let less = slice_get_within B b q other in omega (arith, less);
    count = counted (Both p q) (a + 1 + (b + 1)) (omega arith);
  }

  abbrev Step : Change → Type 0
  Step change = Merged A B (a + length (olds_of change)) (b + length (news_of change)) (done ++ change ∷ [])

  plus_none : (n : ℕ) → n ≡ n + 0
  plus_none n = omega arith

  two_step : (p q : SizedPart) (r : Ordering) → slice_get A a ≡ Some p → slice_get B b ≡ Some q → name_order p q ≡ r → Step (first_of r p q)
  two_step p q Less is other order = subst (λ n. Merged A B (a + 1) n (done ++ Gone p ∷ [])) (plus_none b)
      (gone_step p is (λ x at. subst (λ y. name_order p y ≡ Less) (same_Some q x (sym other ∙ at)) order))
  two_step p q Equal is other order = both_step p q is other order
  two_step p q Greater is other order = subst (λ n. Merged A B n (b + 1) (done ++ New q ∷ [])) (plus_none a)
      (new_step q other (λ x at. subst (λ y. name_order q y ≡ Less) (same_Some p x (sym is ∙ at)) (name_total.antisymm q p ∙ ap ordering_reverse order)))

  step_at : (x y : Option SizedPart) (change : Change) → slice_get A a ≡ x → slice_get B b ≡ y → change_of x y ≡ Some change → Step change
  step_at None None change is other found = absurd (none-some change found)
  step_at (Some p) None change is other found = subst Step (same_Some (Gone p) change found) (subst (λ n. Merged A B (a + 1) n (done ++ Gone p ∷ [])) (plus_none b)
      (gone_step p is (λ x at. absurd (none-some x (sym other ∙ at)))))
  step_at None (Some q) change is other found = subst Step (same_Some (New q) change found) (subst (λ n. Merged A B n (b + 1) (done ++ New q ∷ [])) (plus_none a)
      (new_step q other (λ x at. absurd (none-some x (sym is ∙ at)))))
  step_at (Some p) (Some q) change is other found = subst Step (same_Some (first_of (name_order p q) p q) change found) (two_step p q (name_order p q) is other refl)

  -- one more change
  pub merged_step : (change : Change) → change_of (slice_get A a) (slice_get B b) ≡ Some change → Step change
  merged_step change found = step_at (slice_get A a) (slice_get B b) change refl refl found

  room_at : (x y : Option SizedPart) (change : Change) → slice_get A a ≡ x → slice_get B b ≡ y → change_of x y ≡ Some change → a + b < length A + length B
  room_at None None change is other found = absurd (none-some change found)
  room_at (Some p) y change is other found = let less = slice_get_within A a p is in let most = so_far.news_within in omega (arith, less, most)
  room_at None (Some q) change is other found = let less = slice_get_within B b q other in let most = so_far.within in omega (arith, less, most)

  -- there is room for it
  pub merged_room : (change : Change) → change_of (slice_get A a) (slice_get B b) ≡ Some change → length done < length A + length B
  merged_room change found = let room = room_at (slice_get A a) (slice_get B b) change refl refl found in let was = so_far.count in omega (arith, room, was)

  past : (list : List SizedPart) (n : ℕ) → slice_get list n ≡ None → length list ≤ n
  past list n none = elim (slice_get_cases list n).1 [
    | inl (x, less, some, is) ↦ absurd (none-some x (sym none ∙ some))
    | inr (more, is) ↦ more
  ]

  end_at : (x y : Option SizedPart) → slice_get A a ≡ x → slice_get B b ≡ y → change_of x y ≡ None → AreMerged A B done
  end_at None None is other found = record {
    each = so_far.each;
    each_old = so_far.olds ∙ take_all a A (past A a is);
    each_new = so_far.news ∙ take_all b B (past B b other);
  }
  end_at (Some p) None is other found = absurd (none-some (Gone p) (sym found))
  end_at None (Some q) is other found = absurd (none-some (New q) (sym found))
  end_at (Some p) (Some q) is other found = absurd (none-some (first_of (name_order p q) p q) (sym found))

  -- all are merged
  pub merged_end : change_of (slice_get A a) (slice_get B b) ≡ None → AreMerged A B done
  merged_end found = end_at (slice_get A a) (slice_get B b) refl refl found

pub some_parts : (change : Change) → 1 ≤ length (olds_of change) + length (news_of change)
some_parts (Gone old) = omega arith
some_parts (New new) = omega arith
some_parts (Both old new) = omega arith

-- The sums of changes.

sum_of_parts : (f : Change → List SizedPart) (size : Change → ℕ) → ((change : Change) → all_sizes (f change) ≡ size change) → (changes : List Change) → all_sizes (flat_map f changes) ≡ sum_by size changes
sum_of_parts f size each [] = refl
sum_of_parts f size each (change ∷ changes) =
    sum_by-append (λ (part : SizedPart). part.size) (f change) (flat_map f changes)
    ∙ ap (λ n. n + all_sizes (flat_map f changes)) (each change)
    ∙ ap (λ n. size change + n) (sum_of_parts f size each changes)
    ∙ sym (sum_by-cons size change changes)

one_part : (part : SizedPart) → all_sizes (part ∷ []) ≡ part.size
one_part part = sum_by-cons (λ (x : SizedPart). x.size) part [] ∙ plus_nothing part.size
  where
    plus_nothing : (n : ℕ) → n + 0 ≡ n
    plus_nothing n = omega arith

old_sizes : (change : Change) → all_sizes (olds_of change) ≡ old_size change
old_sizes (Gone old) = one_part old
old_sizes (New new) = refl
old_sizes (Both old new) = one_part old

new_sizes : (change : Change) → all_sizes (news_of change) ≡ new_size change
new_sizes (Gone old) = refl
new_sizes (New new) = one_part new
new_sizes (Both old new) = one_part new

differences_sum : (changes : List Change) → sum_by growth changes + sum_by old_size changes ≡ sum_by shrinkage changes + sum_by new_size changes
differences_sum [] = refl
differences_sum (change ∷ changes) =
    let grown = sum_by-cons growth change changes in
    let shrunk = sum_by-cons shrinkage change changes in
    let old = sum_by-cons old_size change changes in
    let new = sum_by-cons new_size change changes in
    let rest = differences_sum changes in
    omega (arith, grown, shrunk, old, new, rest)

-- the changes in another order
pub are_differences : (old new olds news : List SizedPart) (merged changes : List Change) → IsPermutation old olds → IsPermutation new news → IsSorted part_order olds → IsSorted part_order news
    → AreMerged olds news merged → IsPermutation merged changes → IsSorted change_order changes → AreDifferences old new changes
are_differences old new olds news merged changes olds_moved news_moved olds_sorted news_sorted are moved sorted =
    let old_sum : sum_by old_size changes ≡ all_sizes old =
    sum_by-IsPermutation old_size merged changes moved ∙ sym (sum_of_parts olds_of old_size old_sizes merged)
    ∙ ap all_sizes are.each_old ∙ sum_by-IsPermutation (λ (part : SizedPart). part.size) old olds olds_moved in
    let new_sum : sum_by new_size changes ≡ all_sizes new =
    sum_by-IsPermutation new_size merged changes moved ∙ sym (sum_of_parts news_of new_size new_sizes merged)
    ∙ ap all_sizes are.each_new ∙ sum_by-IsPermutation (λ (part : SizedPart). part.size) new news news_moved in
    record {
      olds = olds;
      news = news;
      olds_moved = olds_moved;
      news_moved = news_moved;
      olds_sorted = olds_sorted;
      news_sorted = news_sorted;
      merged = merged;
      are_merged = are;
      moved = moved;
      old_sum = old_sum;
      new_sum = new_sum;
      difference = let both = differences_sum changes in omega (arith, both, old_sum, new_sum);
      greatest_first = sorted;
    }
