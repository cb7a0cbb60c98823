-- Answers of look-ups, stored in a slice one after the other.
use Rattle.std.proofs.Common.{◌≡◌, ◌<◌, ◌≤◌, ◌+◌, ℕ, ◌⊎◌, ⊎_elim, inl, inr, List, length, Some, Result, Ok, Err, MatchResult, refl, sym, ap, subst, ◌∙◌, arith}
use Rattle.std.proofs.lemmas.Bool.{cases_order}
use Rattle.std.proofs.lemmas.List.{length-set}
use Rattle.std.proofs.lemmas.Option.{slice_get_within}
use Rattle.std.specs.Borrow.{Bor}
use Rattle.std.specs.Prelude.{slice_get, slice_set}
use Rattle.elf_base.specs.declared.error.ElfError.{ElfError}
use Rattle.elf_base.specs.declared.error.ElfError.TheVariants.{TextUtf8}
use Rattle.xmas_elf.specs.Ranges.{range_of}
use Rattle.elf_c.specs.LookUps.{AreAnswered, IfUtf8, IsForRange, IsNameFound, answered}
use Rattle.elf_c.specs.declared.look_ups.LookUp.{LookUp}
use Rattle.elf_c.specs.declared.look_ups.Answer.{Answer}
use Rattle.elf_c.specs.declared.names.Range.{Range}
use Rattle.elf_c.specs.declared.status.AnyError.{AnyError}
use Rattle.elf_c.specs.declared.status.AnyError.TheVariants.{Elf}
use Rattle.elf_c.proofs.Batches.{put_elsewhere, put_there}

ok_is_no_error : {A : Type 0} (value : A) (why : AnyError) → Ok value ≡ Err why → ⊥
ok_is_no_error value why same = cc

-- two errors of the same result are equal
same_failure : {A : Type 0} (one other : AnyError) (answer : Result A AnyError) → answer ≡ Err one → answer ≡ Err other → one ≡ other
same_failure one other answer is also = cc

again : {A B : Type 0} (one other : AnyError) (found : Result A AnyError) (answer : Result B AnyError) → found ≡ Err one → found ≡ Err other → answer ≡ Err one → answer ≡ Err other
again one other found answer is also says = says ∙ ap (λ r. Err r) (same_failure one other found is also)

-- if a name was found, the result satisfies P for it; otherwise the result is the error
named_by : {A : Type 0} (P : List ℕ → Result A AnyError → Type 0) (name : List ℕ) (found : Result (Bor (List ℕ)) AnyError) (answer : Result A AnyError) → IfUtf8 IsNameFound name found → MatchResult found (λ text. P text.now answer) (λ why. answer ≡ Err why) → IfUtf8 P name answer
named_by P name (Ok text) answer is says = (λ utf8. subst (λ n. P n answer) (is.0 utf8) says, λ not. absurd (ok_is_no_error text (Elf TextUtf8) (is.1 not)))
named_by P name (Err why) answer is says = (λ utf8. elim (is.0 utf8) [ ], λ not. again why (Elf TextUtf8) (Err why) answer refl (is.1 not) says)

pub named : {A : Type 0} (P : List ℕ → Result A AnyError → Type 0) (names : List ℕ) (range : Range) (found : Result (Bor (List ℕ)) AnyError) (answer : Result A AnyError) → IsForRange (IfUtf8 IsNameFound) names range found → MatchResult found (λ text. P text.now answer) (λ why. answer ≡ Err why) → IsForRange (IfUtf8 P) names range answer
named {A} P names range found answer = by_range (range_of names range.offset range.size)
  where
    failed : (error : ElfError) (result : Result (Bor (List ℕ)) AnyError) → result ≡ Err (Elf error) → MatchResult result (λ text. P text.now answer) (λ why. answer ≡ Err why) → answer ≡ Err (Elf error)
    failed error (Ok text) same says = absurd (ok_is_no_error text (Elf error) same)
    failed error (Err why) same says = again why (Elf error) (Err why) answer refl same says

    by_range : (bytes : Result (List ℕ) ElfError) → MatchResult bytes (λ name. IfUtf8 IsNameFound name found) (λ error. found ≡ Err (Elf error)) → MatchResult found (λ text. P text.now answer) (λ why. answer ≡ Err why) → MatchResult bytes (λ name. IfUtf8 P name answer) (λ error. answer ≡ Err (Elf error))
    by_range (Ok name) is says = named_by P name found answer is says
    by_range (Err error) is says = failed error found is says

-- the answers below `place` are stored, and the other items are unchanged
pub record AreSoFar (P : List ℕ → Result LookUp AnyError → Type 0) (names : List ℕ) (ranges : List Range) (old : List Answer) (place : ℕ) (new : List Answer) : Type 0 where
  pub long : length new ≡ length old
  pub each : (k : ℕ) (range : Range) → slice_get ranges k ≡ Some range → k < place → (answer : Result LookUp AnyError) × IsForRange P names range answer × (slice_get new k ≡ Some (answered answer))
  pub rest : (k : ℕ) → place ≤ k → slice_get new k ≡ slice_get old k

pub none_yet : (P : List ℕ → Result LookUp AnyError → Type 0) (names : List ℕ) (ranges : List Range) (old : List Answer) → AreSoFar P names ranges old 0 old
none_yet P names ranges old = record { long = refl; each = λ k range at below. absurd (omega (arith, below)); rest = λ k above. refl }

-- after one more answer is stored, the answers below the next place are stored
pub one_more : (P : List ℕ → Result LookUp AnyError → Type 0) (names : List ℕ) (ranges : List Range) (old : List Answer) (place : ℕ) (new : List Answer) (range : Range) (answer : Result LookUp AnyError) (put : Answer) → place < length new → slice_get ranges place ≡ Some range → IsForRange P names range answer → put ≡ answered answer → AreSoFar P names ranges old place new → AreSoFar P names ranges old (place + 1) (slice_set new place put)
one_more P names ranges old place new range answer put below at is says so_far = subst (λ x. AreSoFar P names ranges old (place + 1) (slice_set new place x)) (sym says) (record {
  long = length-set new place (answered answer) ∙ so_far.long;
  each = each;
  rest = λ k above. put_elsewhere new place k (answered answer) (λ same. absurd (omega (arith, above, same))) ∙ so_far.rest k (omega (arith, above));
})
  where
    same_range : (one other : Range) → Some one ≡ Some other → one ≡ other
    same_range one other same = cc

    by_order : (k : ℕ) (one : Range) → slice_get ranges k ≡ Some one → ((k < place) ⊎ (k ≡ place)) → (found : Result LookUp AnyError) × IsForRange P names one found × (slice_get (slice_set new place (answered answer)) k ≡ Some (answered found))
    by_order k one here (inl before) =
        let earlier = so_far.each k one here before in
        (earlier.0, earlier.1, put_elsewhere new place k (answered answer) (λ same. absurd (omega (arith, before, same))) ∙ earlier.2)
    by_order k one here (inr same) =
        let is_range : range ≡ one = same_range range one (sym at ∙ ap (λ i. slice_get ranges i) (sym same) ∙ here) in (
          answer,
          subst (λ r. IsForRange P names r answer) is_range is,
          ap (λ i. slice_get (slice_set new place (answered answer)) i) same ∙ put_there new place (answered answer) below,
        )

    order : (k : ℕ) → k < place + 1 → (k < place) ⊎ (k ≡ place)
    order k here = ⊎_elim (λ same. inr same) (λ apart. ⊎_elim (λ before. inl before) (λ behind. absurd (omega (arith, here, behind))) apart) (cases_order k place)

    each : (k : ℕ) (one : Range) → slice_get ranges k ≡ Some one → k < place + 1 → (found : Result LookUp AnyError) × IsForRange P names one found × (slice_get (slice_set new place (answered answer)) k ≡ Some (answered found))
    each k one here under = by_order k one here (order k under)

-- all answers are stored, for the ranges that have room in the slice
pub all_answered : (P : List ℕ → Result LookUp AnyError → Type 0) (names : List ℕ) (ranges : List Range) (old : List Answer) (count : ℕ) (new : List Answer) → ((k : ℕ) → k < length ranges → k < length old → k < count) → count ≤ length ranges → AreSoFar P names ranges old count new → AreAnswered P names ranges old new
all_answered P names ranges old count new whole within so_far = record {
  long = so_far.long;
  each = λ k range at below. so_far.each k range at (whole k (slice_get_within ranges k range at) below);
  rest = λ k above. so_far.rest k (omega (arith, within, above));
}

-- a property of each answer implies any property that follows from it
pub answered_so : (P Q : List ℕ → Result LookUp AnyError → Type 0) (names : List ℕ) (ranges : List Range) (old new : List Answer) → ((name : List ℕ) (answer : Result LookUp AnyError) → P name answer → Q name answer) → AreAnswered P names ranges old new → AreAnswered Q names ranges old new
answered_so P Q names ranges old new to is = record {
  long = is.long;
  each = λ k range at below. let one = is.each k range at below in (one.0, by_range range one.0 (range_of names range.offset range.size) one.1, one.2);
  rest = is.rest;
}
  where
    by_range : (range : Range) (answer : Result LookUp AnyError) (bytes : Result (List ℕ) ElfError) → MatchResult bytes (λ name. P name answer) (λ error. answer ≡ Err (Elf error)) → MatchResult bytes (λ name. Q name answer) (λ error. answer ≡ Err (Elf error))
    by_range range answer (Ok name) is = to name answer is
    by_range range answer (Err error) is = is
