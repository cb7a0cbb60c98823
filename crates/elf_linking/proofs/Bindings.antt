-- The symbol that the objects of a scope give, in other words: for a version whose name lies elsewhere, and by the lists
-- of symbols.
use Rattle.std.proofs.Common.{◌≡◌, ◌<◌, ℕ, inl, inr, Bool, List, length, slice_get, Option, Some, None, Result, Ok, Err, IsOk, IsOkAnd, IsSomeAnd, MatchOption, MatchResult, refl, sym, ap, subst, ◌∙◌, arith}
use Rattle.std.proofs.lemmas.Option.{slice_get_cases, slice_get_within}
use Rattle.std.specs.Prelude.{option_map}
use Rattle.elf_linking.specs.DynamicObject.{object_dynamic_symbols, object_view}
use Rattle.elf_linking.specs.DynamicView.{is_symbolic, view_entries}
use Rattle.elf_linking.specs.Find.{FindsRight, IsFound}
use Rattle.elf_linking.specs.Scope.{IsBoundFor, BindsRightFor, AreGood, BindsReference, BindsRight, GivesAt, HasNamedSymbol, IsBound, IsBoundBy, IsFirstGiven, IsProtectedBound, IsReferenceBound, asked, asked_of, asked_parts, at_home, elsewhere, fails, failed, undefined, unfound, unread, wanted_parts}
use Rattle.elf_linking.specs.VersionTables.{result_map}
use Rattle.elf_linking.specs.declared.error.LinkError.{LinkError}
use Rattle.elf_linking.specs.declared.error.LinkError.TheVariants.{ObjectIndex}
use Rattle.elf_linking.specs.declared.find.Use as uses
use Rattle.elf_linking.specs.declared.find.Use.TheVariants.{Defined}
use Rattle.elf_linking.specs.declared.find.Wanted.{Wanted}
use Rattle.elf_linking.specs.declared.object.DynamicObject.{DynamicObject}
use Rattle.elf_linking.specs.declared.references.Reference.{Reference}
use Rattle.elf_linking.specs.declared.scope.Bound.{Bound}
use Rattle.elf_linking.specs.declared.scope.asking.Asked.{Asked}
use Rattle.elf_linking.specs.declared.scope.asking.Asked.TheVariants.{Look, Own}
use Rattle.elf_linking.proofs.Finds.{found_right}
use Rattle.elf_linking.proofs.Questions.{HasNameFor, asked_read, found_alone}
use Rattle.elf_linking.proofs.Scopes.{bound_so, match_some}
use Rattle.xmas_elf.specs.Symbol.{SymbolFields}

-- what a reference to a protected symbol gets, by what look-ups find, in other words
pub protected_so : {E : Type 0} (Finds Others : uses.Use → Result (Option (Bound E)) LinkError → Type 0) (own : Bound E) (purpose : uses.Use) → ((purpose : uses.Use) (answer : Result (Option (Bound E)) LinkError) → Finds purpose answer → Others purpose answer) → (answer : Result (Option (Bound E)) LinkError) → IsProtectedBound Finds own purpose answer → IsProtectedBound Others own purpose answer
protected_so Finds Others own purpose so _ (unfound none) = unfound (so purpose (Ok None) none)
protected_so Finds Others own purpose so _ (elsewhere found defined some there differs) = elsewhere found defined (so purpose (Ok (Some found)) some) (so Defined (Ok (Some defined)) there) differs
protected_so Finds Others own purpose so _ (at_home found defined some here same) = at_home found defined (so purpose (Ok (Some found)) some) (so Defined (Ok defined) here) same
protected_so Finds Others own purpose so _ (unread error is) = unread error (so purpose (Err error) is)
protected_so Finds Others own purpose so _ (undefined found error some is) = undefined found error (so purpose (Ok (Some found)) some) (so Defined (Err error) is)

-- what a reference asks for, in other words
pub answers_so : {E : Type 0} (Finds Others : List ℕ → Wanted → uses.Use → Result (Option (Bound E)) LinkError → Type 0) (from index : ℕ) (question : Asked E) → ((name : List ℕ) (wanted : Wanted) (purpose : uses.Use) (answer : Result (Option (Bound E)) LinkError) → Finds name wanted purpose answer → Others name wanted purpose answer) → (answer : Result (Option (Bound E)) LinkError) → IsBoundFor Finds from index question answer → IsBoundFor Others from index question answer
answers_so Finds Others from index (Own symbol) so answer is = is
answers_so Finds Others from index (Look name wanted purpose None) so answer finds = so name.now wanted purpose answer finds
answers_so Finds Others from index (Look name wanted purpose (Some own)) so answer binds =
    protected_so (Finds name.now wanted) (Others name.now wanted) (record { object = from; index = index; symbol = own }) purpose (so name.now wanted) answer binds

within : {A : Type 0} (items : List A) (i : ℕ) → i < length items → (item : A) × (slice_get items i ≡ Some item)
within items i below = elim (slice_get_cases items i).1 [ inl (e, in_list, is, got) ↦ (e, is) | inr (past, none) ↦ absurd (omega arith) ]

-- a result that is no error
ok_only : {A : Type 0} (P : Result A LinkError → Type 0) (answer : Result A LinkError) → ((error : LinkError) → P (Err error) → ⊥) → P answer → IsOkAnd answer (λ item. P (Ok item))
ok_only P (Ok item) never is = is
ok_only P (Err error) never is = never error is

module _ {E : Type 0} {r : _} (fields : E → SymbolFields) (objects : List (DynamicObject E r)) (from : ℕ) where
  -- a look-up for a version, wherever its name lies
  pub bound_alone : (name : List ℕ) (wanted : Wanted) (purpose : uses.Use) (answer : Result (Option (Bound E)) LinkError) → IsBound fields objects from name wanted purpose answer → IsBound fields objects from name (wanted_parts wanted) purpose answer
  bound_alone name wanted purpose answer bound =
      bound_so IsFound IsFound fields objects name wanted (wanted_parts wanted) purpose (λ i file there. found_alone file name purpose wanted) from answer bound

  pub answers_alone : (index : ℕ) (question : Asked E) (answer : Result (Option (Bound E)) LinkError) → IsBoundFor (IsBound fields objects from) from index question answer → IsBoundFor (IsBound fields objects from) from index (asked_parts question) answer
  answers_alone index (Own symbol) answer is = is
  answers_alone index (Look name wanted purpose None) answer finds = bound_alone name.now wanted purpose answer finds
  answers_alone index (Look name wanted purpose (Some own)) answer binds =
      protected_so (IsBound fields objects from name.now wanted) (IsBound fields objects from name.now (wanted_parts wanted)) (record { object = from; index = index; symbol = own }) purpose (bound_alone name.now wanted) answer binds

  -- in good objects
  module _ (good : AreGood fields objects) (below : from < length objects) where
    right_bound : (name : List ℕ) (wanted : Wanted) (purpose : uses.Use) (answer : Result (Option (Bound E)) LinkError) → IsBound fields objects from name wanted purpose answer → IsBoundBy FindsRight fields objects from name wanted purpose answer
    right_bound name wanted purpose answer bound =
        bound_so IsFound FindsRight fields objects name wanted wanted purpose (λ i file there. found_right file name wanted purpose (good i file there).0 (good i file there).1) from answer bound

    never_at : (name : List ℕ) (wanted : Wanted) (purpose : uses.Use) (i : ℕ) (error : LinkError) → GivesAt FindsRight fields objects name wanted purpose i (Err error) → ⊥
    never_at name wanted purpose i error (asked file _ not there (fails _ right)) = right

    never_first : (name : List ℕ) (wanted : Wanted) (purpose : uses.Use) (symbolic : Bool) (error : LinkError) → IsFirstGiven (GivesAt FindsRight fields objects name wanted purpose) (length objects) symbolic from (Err error) → ⊥
    never_first name wanted purpose symbolic error (failed index _ under none there) = never_at name wanted purpose index error there

    -- a look-up is no error
    never_bound : (name : List ℕ) (wanted : Wanted) (purpose : uses.Use) (error : LinkError) → IsBoundBy FindsRight fields objects from name wanted purpose (Err error) → ⊥
    never_bound name wanted purpose error first =
        let (asking, there) = within objects from below in
        never_first name wanted purpose (is_symbolic (view_entries (object_view asking))) error (match_some _ _ _ _ there first)

    pub bound_right : (name : List ℕ) (wanted : Wanted) (purpose : uses.Use) (answer : Result (Option (Bound E)) LinkError) → IsBound fields objects from name wanted purpose answer → BindsRight fields objects from name wanted purpose answer
    bound_right name wanted purpose answer bound =
        ok_only (IsBoundBy FindsRight fields objects from name wanted purpose) answer (never_bound name wanted purpose) (right_bound name wanted purpose answer bound)

    no_error : (index : ℕ) (question : Asked E) (error : LinkError) → IsBoundFor (IsBoundBy FindsRight fields objects from) from index question (Err error) → ⊥
    no_error index (Own symbol) error is = cc
    no_error index (Look name wanted purpose None) error never = never_bound name.now wanted purpose error never
    no_error index (Look name wanted purpose (Some own)) error (unread _ never) = never_bound name.now wanted purpose error never
    no_error index (Look name wanted purpose (Some own)) error (undefined found _ some never) = never_bound name.now wanted Defined error never

    -- nor is what a reference asks for
    pub asked_right : (index : ℕ) (question : Asked E) (answer : Result (Option (Bound E)) LinkError) → IsBoundFor (IsBound fields objects from) from index question answer → BindsRightFor fields objects from index question answer
    asked_right index question answer answers =
        ok_only (IsBoundFor (IsBoundBy FindsRight fields objects from) from index question) answer (no_error index question)
        (answers_so (IsBound fields objects from) (IsBoundBy FindsRight fields objects from) from index question right_bound answer answers)

  -- the result of what was said that a reference to a symbol asks for
  abbrev Answered : (List ℕ → Wanted → uses.Use → Result (Option (Bound E)) LinkError → Type 0) → ℕ → Result (Asked E) LinkError → Result (Option (Bound E)) LinkError → Type 0
  Answered Binds index said result = MatchResult said (λ question. IsBoundFor Binds from index question result) (λ error. result ≡ Err error)

  -- a reference, in good objects
  pub reference_right : (reference : Reference) → AreGood fields objects → HasNamedSymbol fields objects from reference → (answer : Result (Option (Bound E)) LinkError) → IsReferenceBound fields objects from reference answer → BindsReference fields objects from reference answer
  reference_right reference good named answer bound = by_object (slice_get objects from) refl named bound
    where
      by_question : (below : from < length objects) (said : Result (Asked E) LinkError) → IsOk said → Answered (IsBound fields objects from) reference.symbol said answer → IsOkAnd answer (λ found. Answered (IsBoundBy FindsRight fields objects from) reference.symbol said (Ok found))
      by_question below (Ok question) ok answers = asked_right good below reference.symbol question answer answers
      by_question below (Err error) ok is = absurd (cc)

      by_object : (there : Option (DynamicObject E r)) → slice_get objects from ≡ there → IsSomeAnd there (λ asking. HasNameFor fields asking reference) → MatchOption there (answer ≡ Err ObjectIndex) (λ asking. Answered (IsBound fields objects from) reference.symbol (asked_of fields asking reference) answer)
          → IsOkAnd answer (λ found. MatchOption there (Ok found ≡ Err ObjectIndex) (λ asking. Answered (IsBoundBy FindsRight fields objects from) reference.symbol (asked_of fields asking reference) (Ok found)))
      by_object None is named bound = absurd named
      by_object (Some asking) is named bound =
          let readable = (good from (object_dynamic_symbols fields asking) (ap (option_map (object_dynamic_symbols fields)) is)).1 in
          by_question (slice_get_within _ _ _ is) (asked_of fields asking reference) (asked_read fields asking reference readable named) bound

-- what is said of a result that is known by another
module _ {A B : Type 0} (make : A → B) (P : B → Type 0) (N : LinkError → Type 0) (read : Result A LinkError) (said : Result B LinkError) (same : result_map make read ≡ said) where
  pub ok_match : (item : A) → read ≡ Ok item → P (make item) → MatchResult said P N
  ok_match item is holds = subst (λ s. MatchResult s P N) (sym (ap (result_map make) is) ∙ same) holds

  pub err_match : (error : LinkError) → read ≡ Err error → N error → MatchResult said P N
  err_match error is holds = subst (λ s. MatchResult s P N) (sym (ap (result_map make) is) ∙ same) holds
