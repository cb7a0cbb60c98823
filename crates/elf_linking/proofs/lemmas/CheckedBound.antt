-- For callers of `Scope`: the symbol that a reference gets in a scope of objects whose checks passed, by their exports.
use Rattle.std.proofs.Common.{◌≡◌, ◌≢◌, ◌<◌, ◌≤◌, ℕ, zero, suc, ◌+◌, ◌⊎◌, inl, inr, ◌==◌, Bool, true, false, List, length, map, Option, Some, None, Result, Ok, Err, IsOk, MatchOption, MatchResult, slice_get, refl, sym, ap, subst, ◌∙◌, if◌then◌else◌, add-one, arith}
use Rattle.std.proofs.lemmas.Bool.{cases_eq, eq-eqb, ne_eqb}
use Rattle.std.proofs.lemmas.Option.{slice_get-map, slice_get_within}
use Rattle.std.proofs.lemmas.List.{length-map}
use Rattle.std.specs.Option.{option_or}
use Rattle.std.specs.Prelude.{option_and_then, option_map}
use Rattle.std.specs.Result.{result_ok}
use Rattle.elf_base.specs.FirstError.{and_then}
use Rattle.elf_base.specs.Table.{table_items}
use Rattle.elf_linking.specs.AnyTable.{IsCheckBy, IsGoodBy}
use Rattle.elf_linking.specs.Checked.{AreChecked, found_fields, found_in, found_parts}
use Rattle.elf_linking.specs.CheckedScope.{asked_in, bound_fields, bound_for, bound_in, first_given, given_at, looked_up, protected_bound, serving}
use Rattle.elf_linking.specs.DynamicObject.{object_dynamic_symbols, object_records, object_view}
use Rattle.elf_linking.specs.DynamicView.{is_symbolic, view_entries}
use Rattle.elf_linking.specs.Exports.{ObjectParts, SymbolParts, exports_of, object_parts, symbol_parts}
use Rattle.elf_linking.specs.Find.{AreReadable, DynamicSymbols, IsFound}
use Rattle.elf_linking.specs.Scope.{IsBoundFor, AreGood, Gives, GivesAt, IsBound, IsFirstGiven, IsProtectedBound, IsReferenceBound, asked, asked_of, at_home, elsewhere, given, is_passed_over, lacks, nowhere, passed_over, serves, serves_none, unfound}
use Rattle.elf_linking.specs.Serves.{if_serving, serves_others}
use Rattle.elf_linking.specs.VersionTables.{result_map}
use Rattle.elf_linking.specs.Versions.{versions_error}
use Rattle.elf_linking.specs.declared.error.LinkError.{LinkError}
use Rattle.elf_linking.specs.declared.error.LinkError.TheVariants.{ObjectIndex}
use Rattle.elf_linking.specs.declared.find.Use as uses
use Rattle.elf_linking.specs.declared.find.Use.TheVariants.{Defined}
use Rattle.elf_linking.specs.declared.find.Wanted.{Wanted}
use Rattle.elf_linking.specs.declared.object.DynamicObject.{DynamicObject}
use Rattle.elf_linking.specs.declared.references.Reference.{Reference}
use Rattle.elf_linking.specs.declared.scope.Bound.{Bound}
use Rattle.elf_linking.specs.declared.scope.asking.Asked.{Asked}
use Rattle.elf_linking.specs.declared.scope.asking.Asked.TheVariants.{Look, Own}
use Rattle.elf_linking.proofs.CheckedScopes.{Given, first_from, from_first, none_here, none_left, some_here}
use Rattle.elf_linking.proofs.ExportAsks.{asked_own, own_fields}
use Rattle.elf_linking.proofs.ExportChains.{get_symbol}
use Rattle.elf_linking.proofs.ExportFinds.{found_plain}
use Rattle.elf_linking.proofs.VersionChecks.{error_read}
use Rattle.elf_linking.proofs.lemmas.Newest.{good_by}
use Rattle.xmas_elf.specs.Symbol.{SymbolFields}

-- a symbol of an object, as the symbol of a scope
abbrev symbol_of : {E : Type 0} → (E → SymbolFields) → ℕ → ℕ × E → Bound SymbolFields
symbol_of fields place at = record { object = place; index = at.0; symbol = fields at.1 }

-- what an object gives, by what is found in it
module _ {E : Type 0} (fields : E → SymbolFields) (place : ℕ) where
  same_serving : (at : ℕ × E) (symbol : SymbolParts) → at.0 ≡ symbol.index → fields at.1 ≡ symbol.fields → (serving : Bool)
      → option_map (symbol_of fields place) (if serving then Some at else None)
      ≡ option_map (λ (symbol : SymbolParts). record { object = place; index = symbol.index; symbol = symbol.fields }) (if serving then Some symbol else None)
  same_serving at symbol index fields_are true = rw (index, fields_are) refl
  same_serving at symbol index fields_are false = refl

  given_of : (found : Option (ℕ × E)) (other : Option SymbolParts) → found_fields fields found ≡ found_parts other
      → option_map (symbol_of fields place) (if_serving fields found)
      ≡ option_map (λ (symbol : SymbolParts). record { object = place; index = symbol.index; symbol = symbol.fields }) (serving other)
  given_of None None is = refl
  given_of None (Some symbol) is = absurd (cc)
  given_of (Some at) None is = absurd (cc)
  given_of (Some at) (Some symbol) is =
      let both : ◌≡◌ {A = ℕ × SymbolFields} (at.0, fields at.1) (symbol.index, symbol.fields) = cc in
      let same : fields at.1 ≡ symbol.fields = ap (λ p. p.1) both in
      same_serving at symbol (ap (λ p. p.0) both) same (serves_others (fields at.1))
      ∙ ap (λ (f : SymbolFields). option_map (λ (symbol : SymbolParts). record { object = place; index = symbol.index; symbol = symbol.fields }) (if serves_others f then Some symbol else None)) same

module _ {E : Type 0} {r : _} (fields : E → SymbolFields) (objects : List (DynamicObject E r)) (good : AreGood fields objects) where
  abbrev parts : List ObjectParts
  parts = map (object_parts fields) objects

  -- What the objects of the scope give.
  module _ (name : List ℕ) (wanted : Wanted) (purpose : uses.Use) where
    abbrev GivenIs : ℕ → Option (ℕ × E) → Type 0
    GivenIs place answer = option_map (symbol_of fields place) answer ≡ Given name wanted purpose parts place

    -- what the object gives, where it is not passed over
    by_object : (place : ℕ) (object : DynamicObject E r) → slice_get objects place ≡ Some object → is_passed_over purpose place ≡ false
        → (found : Option (ℕ × E)) → IsFound (object_dynamic_symbols fields object) name wanted purpose (Ok found) → GivenIs place (if_serving fields found)
    by_object place object at not_over found finds =
        let file : DynamicSymbols E = object_dynamic_symbols fields object in
        let readable = (good place file (ap (option_map (object_dynamic_symbols fields)) at)).1 in
        let there : slice_get parts place ≡ Some (object_parts fields object) = slice_get-map (object_parts fields) objects place ∙ ap (option_map (object_parts fields)) at in
        given_of fields place found (found_in name wanted purpose (exports_of file)) (found_plain file readable name wanted purpose found finds)
        ∙ sym (ap (option_and_then (given_at name wanted purpose place)) there ∙ rw not_over refl)

    by_gives : (place : ℕ) (object : DynamicObject E r) → slice_get objects place ≡ Some object → is_passed_over purpose place ≡ false
        → (result : Result (Option (ℕ × E)) LinkError) (answer : Option (ℕ × E)) → result ≡ Ok answer
        → Gives (λ file. IsFound file name wanted purpose) (object_dynamic_symbols fields object) result → GivenIs place answer
    by_gives place object at not_over _ answer is (serves one finds serving) =
        let same : Some one ≡ answer = cc in
        subst (GivenIs place) (ap (λ b. if b then Some one else None) serving ∙ same) (by_object place object at not_over (Some one) finds)
    by_gives place object at not_over _ answer is (serves_none one finds serving) =
        let same : None ≡ answer = cc in
        subst (GivenIs place) (ap (λ b. if b then Some one else None) serving ∙ same) (by_object place object at not_over (Some one) finds)
    by_gives place object at not_over _ answer is (lacks finds) =
        let same : None ≡ answer = cc in
        subst (GivenIs place) same (by_object place object at not_over None finds)
    by_gives place object at not_over _ answer is _ = absurd (cc)

    over : (place : ℕ) → is_passed_over purpose place ≡ true → (object : Option ObjectParts) → None ≡ option_and_then (given_at name wanted purpose place) object
    over place is None = refl
    over place is (Some object) = rw is refl

    given_is : (place : ℕ) (result : Result (Option (ℕ × E)) LinkError) (answer : Option (ℕ × E)) → result ≡ Ok answer
        → GivesAt IsFound fields objects name wanted purpose place result → GivenIs place answer
    given_is place _ answer is (passed_over passed) =
        let same : None ≡ answer = cc in
        subst (GivenIs place) same (over place passed (slice_get parts place))
    given_is place _ answer is (asked file result not_over there gives) = by_place (slice_get objects place) refl there
      where
        by_place : (object : Option (DynamicObject E r)) → slice_get objects place ≡ object → option_map (object_dynamic_symbols fields) object ≡ Some file → GivenIs place answer
        by_place None at same = absurd (cc)
        by_place (Some object) at same =
            let file_is : object_dynamic_symbols fields object ≡ file = cc in
            by_gives place object at not_over result answer is (subst (λ f. Gives (λ file. IsFound file name wanted purpose) f result) (sym file_is) gives)

    skip : (n : ℕ) → n ≤ length parts → ((i : ℕ) → i < n → Given name wanted purpose parts i ≡ None)
        → first_from name wanted purpose parts 0 ≡ first_from name wanted purpose parts n
    skip zero within none = refl
    skip (suc n) within none =
        skip n (omega (arith, within)) (λ i below. none i (omega (arith, below)))
        ∙ none_here name wanted purpose parts n (omega (arith, within)) (none n (omega arith)) ∙ rw add-one refl

    -- the objects that come before one give nothing
    abbrev NoneFirst : ℕ → Type 0
    NoneFirst n = (i : ℕ) → i < n → Given name wanted purpose parts i ≡ None

    nowhere_is : NoneFirst (length parts) → first_given name wanted purpose 0 parts ≡ None
    nowhere_is none = sym (from_first name wanted purpose parts) ∙ skip (length parts) (omega arith) none
        ∙ none_left name wanted purpose parts (length parts) (omega arith)

    some_is : (n : ℕ) (bound : Bound SymbolFields) → n < length parts → NoneFirst n → Given name wanted purpose parts n ≡ Some bound
        → first_given name wanted purpose 0 parts ≡ Some bound
    some_is n bound below none gives = sym (from_first name wanted purpose parts) ∙ skip n (omega (arith, below)) none
        ∙ some_here name wanted purpose parts n bound below gives

    module _ (from : ℕ) where
      abbrev FirstIs : Bool → Option (Bound E) → Type 0
      FirstIs symbolic found = bound_fields fields found
          ≡ option_or (if symbolic then Given name wanted purpose parts from else None) (first_given name wanted purpose 0 parts)

      same_count : length parts ≡ length objects
      same_count = length-map objects (object_parts fields)

      gives : (i : ℕ) (answer : Option (ℕ × E)) → GivesAt IsFound fields objects name wanted purpose i (Ok answer) → GivenIs i answer
      gives i answer finds = given_is i (Ok answer) answer refl finds

      first_is : (symbolic : Bool) (result : Result (Option (Bound E)) LinkError) (found : Option (Bound E)) → result ≡ Ok found → from < length objects
          → IsFirstGiven (GivesAt IsFound fields objects name wanted purpose) (length objects) symbolic from result → FirstIs symbolic found
      first_is false _ found is within (given bound below none there) =
          let same : Some bound ≡ found = cc in
          subst (FirstIs false) same (sym (some_is bound.object (symbol_of fields bound.object (bound.index, bound.symbol)) (omega (arith, below, same_count))
          (λ i before. sym (gives i None (none i before))) (sym (gives bound.object (Some (bound.index, bound.symbol)) there))))
      first_is false _ found is within (nowhere none) =
          let same : None ≡ found = cc in
          subst (FirstIs false) same (sym (nowhere_is (λ i before. sym (gives i None (none i (omega (arith, before, same_count)))))))
      first_is true _ found is within (given bound below none there) = by_own (cases_eq bound.object from)
        where
          found_is : Given name wanted purpose parts bound.object ≡ Some (symbol_of fields bound.object (bound.index, bound.symbol))
          found_is = sym (gives bound.object (Some (bound.index, bound.symbol)) there)

          by_own : (bound.object ≡ from) ⊎ (bound.object ≡ from → ⊥) → FirstIs true found
          by_own (inl own) =
              let same : Some bound ≡ found = cc in
              let given_own : Given name wanted purpose parts from ≡ Some (symbol_of fields bound.object (bound.index, bound.symbol)) =
              subst (λ i. Given name wanted purpose parts i ≡ Some (symbol_of fields bound.object (bound.index, bound.symbol))) own found_is in
              subst (FirstIs true) same (sym (ap (λ o. option_or o (first_given name wanted purpose 0 parts)) given_own))
          by_own (inr other) =
              let same : Some bound ≡ found = cc in
              let none_own : Given name wanted purpose parts from ≡ None = sym (gives from None (none from (other, λ never. absurd (never refl)))) in
              let first = some_is bound.object (symbol_of fields bound.object (bound.index, bound.symbol)) (omega (arith, below, same_count))
              (λ i before. sym (gives i None (none i (other, λ _. before)))) found_is in
              subst (FirstIs true) same (sym (ap (λ o. option_or o (first_given name wanted purpose 0 parts)) none_own ∙ first))
      first_is true _ found is within (nowhere none) =
          let same : None ≡ found = cc in
          let none_own : Given name wanted purpose parts from ≡ None = sym (gives from None (none from within)) in
          subst (FirstIs true) same (sym (ap (λ o. option_or o (first_given name wanted purpose 0 parts)) none_own
          ∙ nowhere_is (λ i before. sym (gives i None (none i (omega (arith, before, same_count)))))))
      first_is symbolic _ found is within _ = absurd (cc)

      looked_is : (found : Option (Bound E)) → IsBound fields objects from name wanted purpose (Ok found) → bound_fields fields found ≡ looked_up parts from name wanted purpose
      looked_is found is = by_asking (slice_get objects from) refl is
        where
          by_asking : (asking : Option (DynamicObject E r)) → slice_get objects from ≡ asking
              → MatchOption asking (Ok found ≡ Err ObjectIndex) (λ asking. IsFirstGiven (GivesAt IsFound fields objects name wanted purpose) (length objects) (is_symbolic (view_entries asking.view)) from (Ok found))
              → bound_fields fields found ≡ looked_up parts from name wanted purpose
          by_asking None at bound = absurd (cc)
          by_asking (Some asking) at bound =
              let there : slice_get parts from ≡ Some (object_parts fields asking) = slice_get-map (object_parts fields) objects from ∙ ap (option_map (object_parts fields)) at in
              let first = first_is (is_symbolic (view_entries (object_view asking))) (Ok found) found refl (slice_get_within objects from asking at) bound in
              rw there (rw there at first)

  -- The symbol that a reference gets.

  module _ (from : ℕ) (name : List ℕ) (wanted : Wanted) where
    looked : (purpose : uses.Use) (found : Option (Bound E)) → IsBound fields objects from name wanted purpose (Ok found) → bound_fields fields found ≡ looked_up parts from name wanted purpose
    looked purpose found is = looked_is name wanted purpose from found is

    abbrev own_symbol : Bound E → Bound SymbolFields
    own_symbol own = record { object = own.object; index = own.index; symbol = fields own.symbol }

    protected_is : (own : Bound E) (purpose : uses.Use) (result : Result (Option (Bound E)) LinkError) (answer : Option (Bound E)) → result ≡ Ok answer
        → IsProtectedBound (IsBound fields objects from name wanted) own purpose result
        → bound_fields fields answer ≡ protected_bound (own_symbol own) (looked_up parts from name wanted Defined) (looked_up parts from name wanted purpose)
    protected_is own purpose _ answer is (unfound none) =
        let same : None ≡ answer = cc in
        rw (← same, ← looked purpose None none) refl
    protected_is own purpose _ answer is (elsewhere found defined one other differs) =
        let same : Some own ≡ answer = cc in
        rw (← same, ← looked purpose (Some found) one, ← looked Defined (Some defined) other, ne_eqb defined.object own.object differs) refl
    protected_is own purpose _ answer is (at_home found None one other at) =
        let same : Some found ≡ answer = cc in
        rw (← same, ← looked purpose (Some found) one, ← looked Defined None other) refl
    protected_is own purpose _ answer is (at_home found (Some defined) one other at) =
        let same : Some found ≡ answer = cc in
        rw (← same, ← looked purpose (Some found) one, ← looked Defined (Some defined) other, eq-eqb defined.object own.object at) refl
    protected_is own purpose _ answer is _ = absurd (cc)

  module _ (from : ℕ) (reference : Reference) (answer : Option (Bound E)) where
    by_question : (question : Asked E) → IsBoundFor (IsBound fields objects from) from reference.symbol question (Ok answer)
        → bound_fields fields answer ≡ bound_for parts from reference.symbol (own_fields fields question)
    by_question (Own symbol) is = let same : answer ≡ Some (record { object = from; index = reference.symbol; symbol = symbol }) = cc in rw same refl
    by_question (Look name wanted purpose None) is = looked from name.now wanted purpose answer is
    by_question (Look name wanted purpose (Some own)) is =
        protected_is from name.now wanted (record { object = from; index = reference.symbol; symbol = own }) purpose (Ok answer) answer refl is

    pub reference_is : IsReferenceBound fields objects from reference (Ok answer) → bound_fields fields answer ≡ bound_in parts from reference
    reference_is bound = by_asking (slice_get objects from) refl bound
      where
        by_asking : (asking : Option (DynamicObject E r)) → slice_get objects from ≡ asking
            → MatchOption asking (Ok answer ≡ Err ObjectIndex) (λ asking. MatchResult (asked_of fields asking reference)
            (λ question. IsBoundFor (IsBound fields objects from) from reference.symbol question (Ok answer)) (λ error. Ok answer ≡ Err error))
            → bound_fields fields answer ≡ bound_in parts from reference
        by_asking None at is = absurd (cc)
        by_asking (Some asking) at is = by_asked (asked_of fields asking reference) refl is
          where
            there : slice_get parts from ≡ Some (object_parts fields asking)
            there = slice_get-map (object_parts fields) objects from ∙ ap (option_map (object_parts fields)) at

            readable : AreReadable (object_dynamic_symbols fields asking)
            readable = (good from (object_dynamic_symbols fields asking) (ap (option_map (object_dynamic_symbols fields)) at)).1

            by_asked : (said : Result (Asked E) LinkError) → asked_of fields asking reference ≡ said
                → MatchResult said (λ question. IsBoundFor (IsBound fields objects from) from reference.symbol question (Ok answer)) (λ error. Ok answer ≡ Err error)
                → bound_fields fields answer ≡ bound_in parts from reference
            by_asked (Err error) said answers = absurd (cc)
            by_asked (Ok question) said answers =
                let asks : Some (own_fields fields question) ≡ asked_in (object_parts fields asking) reference
                = ap (λ a. result_ok (result_map (own_fields fields) a)) (sym said) ∙ asked_own fields asking readable reference in
                by_question question answers ∙ rw (there, ← asks) refl

-- the symbols of an object by their indices
pub own_symbols : {E : Type 0} → {r : _} (fields : E → SymbolFields) (object : DynamicObject E r) (i : ℕ)
    → slice_get (object_parts fields object).symbols i ≡ option_map (symbol_parts (object_dynamic_symbols fields object) i) (slice_get (table_items (object_records object)) i)
own_symbols fields object i = get_symbol (object_dynamic_symbols fields object) i

-- an object passed its checks
pub passed_good : {E : Type 0} (file : DynamicSymbols E) → AreChecked file (Ok tt) → IsGoodBy file.table file.symbols × AreReadable file
passed_good file checked = by_table checked.table_result checked.table_checked checked.result_is
  where
    by_table : (table : Result (Unit {0}) LinkError) → IsCheckBy file.table file.symbols table
        → Ok tt ≡ and_then table (λ _. versions_error file.versions (length file.symbols.items)) → IsGoodBy file.table file.symbols × AreReadable file
    by_table (Err error) good is = absurd (cc)
    by_table (Ok done) good is =
        let law = error_read file.versions (length file.symbols.items) (versions_error file.versions (length file.symbols.items)) refl in
        (good_by file.table file.symbols good, law.0 (subst (λ r. IsOk r) is refl))
