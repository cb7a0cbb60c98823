-- For callers of `Scope`: the symbol that a look-up or a reference gets is the only one.
use Rattle.std.proofs.Common.{◌≡◌, ◌≢◌, ◌<◌, ℕ, ◌⊎◌, inl, inr, ◌==◌, Bool, true, false, List, length, Option, Some, None, Result, Ok, Err, MatchOption, MatchResult, slice_get, refl, sym, ap, subst, ◌∙◌, if◌then◌else◌}
use Rattle.std.proofs.lemmas.Bool.{cases_eq, cases_order, eq-eqb, ne_eqb}
use Rattle.std.specs.Prelude.{IfSome}
use Rattle.elf_linking.specs.DynamicObject.{object_view}
use Rattle.elf_linking.specs.DynamicView.{is_symbolic, view_entries}
use Rattle.elf_linking.specs.Find.{DynamicSymbols, IsFound}
use Rattle.elf_linking.specs.Scope.{IsBoundFor, ComesBefore, Gives, GivesAt, IsBound, IsFirstGiven, IsProtectedBound, IsReferenceBound, NoneGivenBefore, asked, asked_of, at_home, elsewhere, fails, given, lacks, nowhere, passed_over, failed, serves, serves_none, undefined, unfound, unread}
use Rattle.elf_linking.specs.Serves.{if_serving}
use Rattle.elf_linking.specs.VersionTables.{result_map}
use Rattle.elf_linking.specs.declared.error.LinkError.{LinkError}
use Rattle.elf_linking.specs.declared.error.LinkError.TheVariants.{ObjectIndex}
use Rattle.elf_linking.specs.declared.find.Use as uses
use Rattle.elf_linking.specs.declared.find.Use.TheVariants.{Defined}
use Rattle.elf_linking.specs.declared.find.Wanted.{Wanted}
use Rattle.elf_linking.specs.declared.object.DynamicObject.{DynamicObject}
use Rattle.elf_linking.specs.declared.references.Reference.{Reference}
use Rattle.elf_linking.specs.declared.scope.Bound.{Bound}
use Rattle.elf_linking.specs.declared.scope.asking.Asked.{Asked}
use Rattle.elf_linking.specs.declared.scope.asking.Asked.TheVariants.{Look, Own}
use Rattle.elf_linking.proofs.Finds.{found_once}
use Rattle.elf_linking.proofs.Scopes.{at_object}
use Rattle.xmas_elf.specs.Symbol.{SymbolFields}

-- what an object gives, if a search in it has only one result
module _ {E : Type 0} (Finds : DynamicSymbols E → Result (Option (ℕ × E)) LinkError → Type 0) (once : (file : DynamicSymbols E) (a b : Result (Option (ℕ × E)) LinkError) → Finds file a → Finds file b → a ≡ b) where
  found_of : (file : DynamicSymbols E) (answer : Result (Option (ℕ × E)) LinkError) → Gives Finds file answer → (found : Result (Option (ℕ × E)) LinkError) × Finds file found × (answer ≡ result_map (if_serving file.symbols.fields) found)
  found_of file _ (serves at finds is) = (Ok (Some at), finds, sym (ap (λ b. Ok (if b then Some at else None)) is))
  found_of file _ (serves_none at finds is) = (Ok (Some at), finds, sym (ap (λ b. Ok (if b then Some at else None)) is))
  found_of file _ (lacks finds) = (Ok None, finds, refl)
  found_of file _ (fails error finds) = (Err error, finds, refl)

  gives_once : (file : DynamicSymbols E) (a b : Result (Option (ℕ × E)) LinkError) → Gives Finds file a → Gives Finds file b → a ≡ b
  gives_once file a b one other =
      let (found, finds, is) = found_of file a one in
      let (found', finds', is') = found_of file b other in
      is ∙ ap (result_map (if_serving file.symbols.fields)) (once file found found' finds finds') ∙ sym is'

at_once : {E : Type 0} {r : _} (fields : E → SymbolFields) (objects : List (DynamicObject E r)) (name : List ℕ) (wanted : Wanted) (purpose : uses.Use) (i : ℕ) (a b : Result (Option (ℕ × E)) LinkError) → GivesAt IsFound fields objects name wanted purpose i a → GivesAt IsFound fields objects name wanted purpose i b → a ≡ b
at_once fields objects name wanted purpose i _ _ (passed_over is) (passed_over is') = refl
at_once fields objects name wanted purpose i _ _ (passed_over is) (asked file b not there gives) = absurd (cc)
at_once fields objects name wanted purpose i _ _ (asked file a not there gives) (passed_over is) = absurd (cc)
at_once fields objects name wanted purpose i _ _ (asked file a not there gives) (asked file' b not' there' gives') =
    let same : file' ≡ file = cc in
    gives_once (λ one. IsFound one name wanted purpose) (λ one. found_once one name wanted purpose) file a b gives (subst (λ f. Gives (λ one. IsFound one name wanted purpose) f b) same gives')

-- what the first object gives, if each gives only one answer
module _ {E : Type 0} (AtIndex : ℕ → Result (Option (ℕ × E)) LinkError → Type 0) (once : (i : ℕ) (a b : Result (Option (ℕ × E)) LinkError) → AtIndex i a → AtIndex i b → a ≡ b) (count : ℕ) (symbolic : Bool) (from : ℕ) where
  -- of two objects one is asked before the other
  order_of : (own : Bool) (i j : ℕ) → (i ≡ j) ⊎ (ComesBefore own from i j ⊎ ComesBefore own from j i)
  order_of false i j = cases_order i j
  order_of true i j = go (cases_order i j) (cases_eq i from) (cases_eq j from)
    where
      go : (i ≡ j) ⊎ ((i < j) ⊎ (j < i)) → (i ≡ from) ⊎ (i ≡ from → ⊥) → (j ≡ from) ⊎ (j ≡ from → ⊥) → (i ≡ j) ⊎ (ComesBefore true from i j ⊎ ComesBefore true from j i)
      go (inl same) one other = inl same
      go (inr differs) (inl is) (inl is') = inl (is ∙ sym is')
      go (inr differs) (inl is) (inr other) = inr (inl (other, λ never. absurd (never is)))
      go (inr differs) (inr other) (inl is) = inr (inr (other, λ never. absurd (never is)))
      go (inr (inl less)) (inr one) (inr other) = inr (inl (other, λ _. less))
      go (inr (inr more)) (inr one) (inr other) = inr (inr (one, λ _. more))

  -- two that give a symbol or an error, and before which none does, are one
  same_first : (i j : ℕ) (a b : Result (Option (ℕ × E)) LinkError) → AtIndex i a → AtIndex j b → a ≢ Ok None → b ≢ Ok None → NoneGivenBefore AtIndex symbolic from i → NoneGivenBefore AtIndex symbolic from j → at_object i a ≡ at_object j b
  same_first i j a b gives gives' some some' none none' = go (order_of symbolic i j)
    where
      go : (i ≡ j) ⊎ (ComesBefore symbolic from i j ⊎ ComesBefore symbolic from j i) → at_object i a ≡ at_object j b
      go (inl same) = ap (λ k. at_object k a) same ∙ ap (at_object j) (once j a b (subst (λ k. AtIndex k a) same gives) gives')
      go (inr (inl before)) = absurd (some (once i a (Ok None) gives (none' i before)))
      go (inr (inr before)) = absurd (some' (once j b (Ok None) gives' (none j before)))

  -- one that does isn't passed by
  never_none : (i : ℕ) (a : Result (Option (ℕ × E)) LinkError) → AtIndex i a → a ≢ Ok None → AtIndex i (Ok None) → ⊥
  never_none i a gives some none = some (once i a (Ok None) gives none)

  pub first_once : (a b : Result (Option (Bound E)) LinkError) → IsFirstGiven AtIndex count symbolic from a → IsFirstGiven AtIndex count symbolic from b → a ≡ b
  first_once _ _ (given x below none gives) (given y below' none' gives') = same_first x.object y.object (Ok (Some (x.index, x.symbol))) (Ok (Some (y.index, y.symbol))) gives gives' (λ same. cc) (λ same. cc) none none'
  first_once _ _ (given x below none gives) (nowhere all) = absurd (never_none x.object _ gives (λ same. cc) (all x.object below))
  first_once _ _ (given x below none gives) (failed j error below' none' gives') = same_first x.object j (Ok (Some (x.index, x.symbol))) (Err error) gives gives' (λ same. cc) (λ same. cc) none none'
  first_once _ _ (nowhere all) (given y below' none' gives') = absurd (never_none y.object _ gives' (λ same. cc) (all y.object below'))
  first_once _ _ (nowhere all) (nowhere all') = refl
  first_once _ _ (nowhere all) (failed j error below' none' gives') = absurd (never_none j _ gives' (λ same. cc) (all j below'))
  first_once _ _ (failed i error below none gives) (given y below' none' gives') = same_first i y.object (Err error) (Ok (Some (y.index, y.symbol))) gives gives' (λ same. cc) (λ same. cc) none none'
  first_once _ _ (failed i error below none gives) (nowhere all) = absurd (never_none i _ gives (λ same. cc) (all i below))
  first_once _ _ (failed i error below none gives) (failed j other below' none' gives') = same_first i j (Err error) (Err other) gives gives' (λ same. cc) (λ same. cc) none none'

-- what a reference to a protected symbol gets, if each look-up has only one result
module _ {E : Type 0} (Finds : uses.Use → Result (Option (Bound E)) LinkError → Type 0) (own : Bound E) (purpose : uses.Use) (once : (purpose : uses.Use) (a b : Result (Option (Bound E)) LinkError) → Finds purpose a → Finds purpose b → a ≡ b) where
  -- the symbol, by what the two look-ups find
  abbrev chosen : Bound E → Option (Bound E) → Bound E
  chosen found None = found
  chosen found (Some defined) = if defined.object == own.object then found else own

  chosen_elsewhere : (found defined : Bound E) → defined.object ≢ own.object → chosen found (Some defined) ≡ own
  chosen_elsewhere found defined differs = ap (λ b. if b then found else own) (ne_eqb defined.object own.object differs)

  chosen_home : (found : Bound E) (defined : Option (Bound E)) → IfSome defined (λ at. at.object ≡ own.object) → chosen found defined ≡ found
  chosen_home found None home = refl
  chosen_home found (Some defined) home = ap (λ b. if b then found else own) (eq-eqb defined.object own.object home)

  -- the result of the second look-up
  abbrev by_defined : Bound E → Result (Option (Bound E)) LinkError → Result (Option (Bound E)) LinkError
  by_defined found (Ok defined) = Ok (Some (chosen found defined))
  by_defined found (Err error) = Err error

  none_only : Finds purpose (Ok None) → (b : Result (Option (Bound E)) LinkError) → IsProtectedBound Finds own purpose b → b ≡ Ok None
  none_only none _ (unfound none') = refl
  none_only none _ (elsewhere found defined some there differs) = absurd (let never = once purpose (Ok None) (Ok (Some found)) none some in cc)
  none_only none _ (at_home found defined some here same) = absurd (let never = once purpose (Ok None) (Ok (Some found)) none some in cc)
  none_only none _ (unread error is) = absurd (let never = once purpose (Ok None) (Err error) none is in cc)
  none_only none _ (undefined found error some is) = absurd (let never = once purpose (Ok None) (Ok (Some found)) none some in cc)

  error_only : (error : LinkError) → Finds purpose (Err error) → (b : Result (Option (Bound E)) LinkError) → IsProtectedBound Finds own purpose b → b ≡ Err error
  error_only error is _ (unfound none) = absurd (let never = once purpose (Err error) (Ok None) is none in cc)
  error_only error is _ (elsewhere found defined some there differs) = absurd (let never = once purpose (Err error) (Ok (Some found)) is some in cc)
  error_only error is _ (at_home found defined some here same) = absurd (let never = once purpose (Err error) (Ok (Some found)) is some in cc)
  error_only error is _ (unread other is') = once purpose (Err other) (Err error) is' is
  error_only error is _ (undefined found other some is') = absurd (let never = once purpose (Err error) (Ok (Some found)) is some in cc)

  same_found : (found other : Bound E) → Finds purpose (Ok (Some found)) → Finds purpose (Ok (Some other)) → other ≡ found
  same_found found other some some' = let same = once purpose (Ok (Some found)) (Ok (Some other)) some some' in cc

  found_only : (found : Bound E) (second : Result (Option (Bound E)) LinkError) → Finds purpose (Ok (Some found)) → Finds Defined second → (b : Result (Option (Bound E)) LinkError) → IsProtectedBound Finds own purpose b → b ≡ by_defined found second
  found_only found second some there _ (unfound none) = absurd (let never = once purpose (Ok (Some found)) (Ok None) some none in cc)
  found_only found second some there _ (elsewhere other defined some' there' differs) =
      ap (λ b. Ok (Some b)) (sym (chosen_elsewhere found defined differs)) ∙ ap (by_defined found) (once Defined (Ok (Some defined)) second there' there)
  found_only found second some there _ (at_home other defined some' here same) =
      ap (λ b. Ok (Some b)) (same_found found other some some' ∙ sym (chosen_home found defined same)) ∙ ap (by_defined found) (once Defined (Ok defined) second here there)
  found_only found second some there _ (unread error is) = absurd (let never = once purpose (Ok (Some found)) (Err error) some is in cc)
  found_only found second some there _ (undefined other error some' is) = ap (by_defined found) (once Defined (Err error) second is there)

  pub protected_once : (a b : Result (Option (Bound E)) LinkError) → IsProtectedBound Finds own purpose a → IsProtectedBound Finds own purpose b → a ≡ b
  protected_once _ b (unfound none) other = sym (none_only none b other)
  protected_once _ b (elsewhere found defined some there differs) other =
      ap (λ at. Ok (Some at)) (sym (chosen_elsewhere found defined differs)) ∙ sym (found_only found (Ok (Some defined)) some there b other)
  protected_once _ b (at_home found defined some here same) other =
      ap (λ at. Ok (Some at)) (sym (chosen_home found defined same)) ∙ sym (found_only found (Ok defined) some here b other)
  protected_once _ b (unread error is) other = sym (error_only error is b other)
  protected_once _ b (undefined found error some is) other = sym (found_only found (Err error) some is b other)

module _ {E : Type 0} {r : _} (fields : E → SymbolFields) (objects : List (DynamicObject E r)) (from : ℕ) where
  -- a look-up
  pub bound_once : (name : List ℕ) (wanted : Wanted) (purpose : uses.Use) (a b : Result (Option (Bound E)) LinkError) → IsBound fields objects from name wanted purpose a → IsBound fields objects from name wanted purpose b → a ≡ b
  bound_once name wanted purpose a b = by_object (slice_get objects from)
    where
      by_object : (there : Option (DynamicObject E r)) → MatchOption there (a ≡ Err ObjectIndex) (λ asking. IsFirstGiven (GivesAt IsFound fields objects name wanted purpose) (length objects) (is_symbolic (view_entries (object_view asking))) from a) → MatchOption there (b ≡ Err ObjectIndex) (λ asking. IsFirstGiven (GivesAt IsFound fields objects name wanted purpose) (length objects) (is_symbolic (view_entries (object_view asking))) from b) → a ≡ b
      by_object None one other = one ∙ sym other
      by_object (Some asking) one other =
          first_once (GivesAt IsFound fields objects name wanted purpose) (at_once fields objects name wanted purpose) (length objects) (is_symbolic (view_entries (object_view asking))) from a b one other

  -- what a reference asks for
  pub asked_once : (index : ℕ) (question : Asked E) (a b : Result (Option (Bound E)) LinkError) → IsBoundFor (IsBound fields objects from) from index question a → IsBoundFor (IsBound fields objects from) from index question b → a ≡ b
  asked_once index (Own symbol) a b one other = one ∙ sym other
  asked_once index (Look name wanted purpose None) a b one other = bound_once name.now wanted purpose a b one other
  asked_once index (Look name wanted purpose (Some own)) a b one other =
      protected_once (IsBound fields objects from name.now wanted) (record { object = from; index = index; symbol = own }) purpose (bound_once name.now wanted) a b one other

  -- a reference
  pub reference_once : (reference : Reference) (a b : Result (Option (Bound E)) LinkError) → IsReferenceBound fields objects from reference a → IsReferenceBound fields objects from reference b → a ≡ b
  reference_once reference a b = by_object (slice_get objects from)
    where
      by_question : (said : Result (Asked E) LinkError) → MatchResult said (λ question. IsBoundFor (IsBound fields objects from) from reference.symbol question a) (λ error. a ≡ Err error) → MatchResult said (λ question. IsBoundFor (IsBound fields objects from) from reference.symbol question b) (λ error. b ≡ Err error) → a ≡ b
      by_question (Ok question) one other = asked_once reference.symbol question a b one other
      by_question (Err error) one other = one ∙ sym other

      by_object : (there : Option (DynamicObject E r)) → MatchOption there (a ≡ Err ObjectIndex) (λ asking. MatchResult (asked_of fields asking reference) (λ question. IsBoundFor (IsBound fields objects from) from reference.symbol question a) (λ error. a ≡ Err error)) → MatchOption there (b ≡ Err ObjectIndex) (λ asking. MatchResult (asked_of fields asking reference) (λ question. IsBoundFor (IsBound fields objects from) from reference.symbol question b) (λ error. b ≡ Err error)) → a ≡ b
      by_object None one other = one ∙ sym other
      by_object (Some asking) one other = by_question (asked_of fields asking reference) one other
