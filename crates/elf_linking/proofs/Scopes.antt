-- The first object that gives a symbol or an error, object by object; and what an object gives, by what a search in it
-- finds.
use Rattle.std.proofs.Common.{◌≡◌, ◌<◌, ℕ, ◌⊎◌, inl, inr, Bool, true, false, List, Option, Some, None, Result, Ok, Err, MatchOption, length, slice_get, refl, sym, ap, subst, ◌∙◌, if◌then◌else◌}
use Rattle.std.proofs.lemmas.Bool.{cases_eq}
use Rattle.std.proofs.lemmas.Option.{slice_get-get_or}
use Rattle.std.specs.Borrow.{Bor}
use Rattle.std.specs.Slice.{IsItemAt}
use Rattle.elf_linking.specs.DynamicObject.{object_view}
use Rattle.elf_linking.specs.DynamicView.{is_symbolic, view_entries}
use Rattle.elf_linking.specs.Find.{DynamicSymbols}
use Rattle.elf_linking.specs.Scope.{Gives, GivesAt, IsBoundBy, IsFirstGiven, NoneGivenBefore, asked, fails, given, is_passed_over, lacks, nowhere, passed_over, failed, serves, serves_none, symbols_at}
use Rattle.elf_linking.specs.Serves.{if_serving, serves_others}
use Rattle.elf_linking.specs.VersionTables.{result_map}
use Rattle.elf_linking.specs.declared.error.LinkError.{LinkError}
use Rattle.elf_linking.specs.declared.find.Use as uses
use Rattle.elf_linking.specs.declared.find.Wanted.{Wanted}
use Rattle.elf_linking.specs.declared.object.DynamicObject.{DynamicObject}
use Rattle.elf_linking.specs.declared.scope.Bound.{Bound}
use Rattle.xmas_elf.specs.Symbol.{SymbolFields}

-- what an object gives, as it is returned
abbrev pub at_object : {E : Type 0} → ℕ → Result (Option (ℕ × E)) LinkError → Result (Option (Bound E)) LinkError
at_object index (Ok None) = Ok None
at_object index (Ok (Some found)) = Ok (Some (record { object = index; index = found.0; symbol = found.1 }))
at_object index (Err error) = Err error

module _ {E : Type 0} (Gives : ℕ → Result (Option (ℕ × E)) LinkError → Type 0) (count from : ℕ) where
  -- the object at an index, before which none gives a symbol or an error
  module _ (symbolic : Bool) (index : ℕ) (below : index < count) (none : NoneGivenBefore Gives symbolic from index) (result : Result (Option (ℕ × E)) LinkError) (gives : Gives index result) where
    pub first_some : (at : ℕ × E) → result ≡ Ok (Some at) → IsFirstGiven Gives count symbolic from (at_object index (Ok (Some at)))
    first_some at is = given _ below none (subst (Gives index) is gives)

    pub first_error : (error : LinkError) → result ≡ Err error → IsFirstGiven Gives count symbolic from (Err error)
    first_error error is = failed index error below none (subst (Gives index) is gives)

  -- no object comes before one that is asked first
  pub none_before : NoneGivenBefore Gives true from from
  none_before i before = absurd (before.0 refl)

  -- one that gives nothing changes nothing: the first by index is the first
  module _ (gives : Gives from (Ok None)) where
    before_all : (index : ℕ) → NoneGivenBefore Gives false from index → NoneGivenBefore Gives true from index
    before_all index none i (differs, less) = go (cases_eq i from)
      where
        go : (i ≡ from) ⊎ (i ≡ from → ⊥) → Gives i (Ok None)
        go (inl is) = subst (λ i. Gives i (Ok None)) (sym is) gives
        go (inr other) = none i (less other)

    pub after_own : (answer : Result (Option (Bound E)) LinkError) → IsFirstGiven Gives count false from answer → IsFirstGiven Gives count true from answer
    after_own _ (given bound below none there) = given bound below (before_all bound.object none) there
    after_own _ (nowhere none) = nowhere none
    after_own _ (failed index error below none there) = failed index error below (before_all index none) there

-- if what one object gives is what it gives in other words, so is what the first gives
pub first_so : {E : Type 0} (Gives Others : ℕ → Result (Option (ℕ × E)) LinkError → Type 0) (count : ℕ) (symbolic : Bool) (from : ℕ) → ((i : ℕ) (answer : Result (Option (ℕ × E)) LinkError) → Gives i answer → Others i answer) → (answer : Result (Option (Bound E)) LinkError) → IsFirstGiven Gives count symbolic from answer → IsFirstGiven Others count symbolic from answer
first_so Gives Others count symbolic from so _ (given bound below none there) = given bound below (λ i before. so i (Ok None) (none i before)) (so bound.object _ there)
first_so Gives Others count symbolic from so _ (nowhere none) = nowhere (λ i below. so i (Ok None) (none i below))
first_so Gives Others count symbolic from so _ (failed index error below none there) = failed index error below (λ i before. so i (Ok None) (none i before)) (so index (Err error) there)

-- what an object gives, by the one thing that a search in it finds
module _ {E : Type 0} (Finds : DynamicSymbols E → Result (Option (ℕ × E)) LinkError → Type 0) (file : DynamicSymbols E) where
  by_found : (at : ℕ × E) (serving : Bool) → serves_others (file.symbols.fields at.1) ≡ serving → Finds file (Ok (Some at)) → Gives Finds file (Ok (if serving then Some at else None))
  by_found at true is finds = serves at finds is
  by_found at false is finds = serves_none at finds is

  gives_found : (found : Result (Option (ℕ × E)) LinkError) → Finds file found → Gives Finds file (result_map (if_serving file.symbols.fields) found)
  gives_found (Ok None) finds = lacks finds
  gives_found (Ok (Some at)) finds = by_found at (serves_others (file.symbols.fields at.1)) refl finds
  gives_found (Err error) finds = fails error finds

-- what the object at an index gives
module _ {E : Type 0} {r : _} (Finds : DynamicSymbols E → List ℕ → Wanted → uses.Use → Result (Option (ℕ × E)) LinkError → Type 0) (fields : E → SymbolFields) (objects : List (DynamicObject E r)) (name : List ℕ) (wanted : Wanted) (purpose : uses.Use) (index : ℕ) where
  -- nothing, if it is passed over
  pub over : is_passed_over purpose index ≡ true → GivesAt Finds fields objects name wanted purpose index (Ok None)
  over is = passed_over is

  -- otherwise what a search finds, if that serves
  pub gives_at : is_passed_over purpose index ≡ false → (file : DynamicSymbols E) → symbols_at fields objects index ≡ Some file → (found answer : Result (Option (ℕ × E)) LinkError) → answer ≡ result_map (if_serving file.symbols.fields) found → Finds file name wanted purpose found → GivesAt Finds fields objects name wanted purpose index answer
  gives_at not file there found answer is finds = asked file answer not there (subst (Gives (λ one. Finds one name wanted purpose) file) (sym is) (gives_found (λ one. Finds one name wanted purpose) file found finds))

-- the item of a slice that was lent
pub item_is : {X : Type 0} (xs : List X) (i : ℕ) (lent : Option (Bor X)) (x : Bor X) → IsItemAt xs i lent → lent ≡ Some x → slice_get xs i ≡ Some x.now
item_is xs i lent x item is = let at = subst (IsItemAt xs i) is item in slice_get-get_or xs i x.now at.3.0 ∙ ap (λ y. Some y) (sym at.1)

-- what is said of an option that is there
pub some_match : {A : Type 0} (N : Type 0) (P : A → Type 0) (o : Option A) (x : A) → o ≡ Some x → P x → MatchOption o N P
some_match N P o x is p = subst (λ o. MatchOption o N P) (sym is) p

pub match_some : {A : Type 0} (N : Type 0) (P : A → Type 0) (o : Option A) (x : A) → o ≡ Some x → MatchOption o N P → P x
match_some N P o x is m = subst (λ o. MatchOption o N P) is m

pub match_so : {A : Type 0} (N : Type 0) (P Q : A → Type 0) (o : Option A) → ((x : A) → P x → Q x) → MatchOption o N P → MatchOption o N Q
match_so N P Q None so m = m
match_so N P Q (Some x) so m = so x m

-- if a search in a file is one in other words, so is what the objects give
module _ {E : Type 0} {r : _} (Finds Others : DynamicSymbols E → List ℕ → Wanted → uses.Use → Result (Option (ℕ × E)) LinkError → Type 0) (fields : E → SymbolFields) (objects : List (DynamicObject E r)) (name : List ℕ) (wanted other : Wanted) (purpose : uses.Use) (so : (i : ℕ) (file : DynamicSymbols E) → symbols_at fields objects i ≡ Some file → (answer : Result (Option (ℕ × E)) LinkError) → Finds file name wanted purpose answer → Others file name other purpose answer) where
  gives_other : (file : DynamicSymbols E) → ((answer : Result (Option (ℕ × E)) LinkError) → Finds file name wanted purpose answer → Others file name other purpose answer) → (answer : Result (Option (ℕ × E)) LinkError) → Gives (λ one. Finds one name wanted purpose) file answer → Gives (λ one. Others one name other purpose) file answer
  gives_other file here _ (serves at finds is) = serves at (here (Ok (Some at)) finds) is
  gives_other file here _ (serves_none at finds is) = serves_none at (here (Ok (Some at)) finds) is
  gives_other file here _ (lacks finds) = lacks (here (Ok None) finds)
  gives_other file here _ (fails error finds) = fails error (here (Err error) finds)

  gives_so : (i : ℕ) (answer : Result (Option (ℕ × E)) LinkError) → GivesAt Finds fields objects name wanted purpose i answer → GivesAt Others fields objects name other purpose i answer
  gives_so i _ (passed_over is) = passed_over is
  gives_so i _ (asked file answer not there gives) = asked file answer not there (gives_other file (so i file there) answer gives)

  pub bound_so : (from : ℕ) (answer : Result (Option (Bound E)) LinkError) → IsBoundBy Finds fields objects from name wanted purpose answer → IsBoundBy Others fields objects from name other purpose answer
  bound_so from answer first = match_so _ _ _ (slice_get objects from) (λ asking is. first_so (GivesAt Finds fields objects name wanted purpose) (GivesAt Others fields objects name other purpose) (length objects) (is_symbolic (view_entries (object_view asking))) from gives_so answer is) first
