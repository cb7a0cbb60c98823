-- The first reference of a program to a name, and the symbol that it gets of objects that are good.
use Rattle.std.proofs.Common.{◌≡◌, ◌<◌, ℕ, zero, suc, false, List, [], ◌∷◌, Option, Some, None, Result, Ok, Err, IsOk, IsOkAnd, IsSomeAnd, IfSome, MatchOption, MatchResult, length, slice_get, refl, sym, subst}
use Rattle.std.specs.List.{AllWithin, HoldsAt}
use Rattle.elf_linking.specs.AnyTable.{IsGoodBy}
use Rattle.std.specs.Prelude.{ok_or}
use Rattle.elf_base.specs.FirstError.{and_then}
use Rattle.elf_base.specs.Table.{table_items}
use Rattle.elf_linking.specs.DynamicObject.{object_dynamic_symbols, object_file, object_name_bytes, object_records, object_strings, object_view}
use Rattle.elf_linking.specs.DynamicView.{bytes_in_strings, view_entries}
use Rattle.elf_linking.specs.Find.{AreReadable, DynamicSymbols}
use Rattle.elf_linking.specs.References.{references_of}
use Rattle.elf_linking.specs.Scope.{AreGood, BindsReference, HasNamedSymbol, binds_to_itself}
use Rattle.elf_linking.specs.declared.error.LinkError.{LinkError}
use Rattle.elf_linking.specs.declared.error.LinkError.TheVariants.{SymbolIndex}
use Rattle.elf_linking.specs.declared.object.DynamicObject.{DynamicObject}
use Rattle.elf_linking.specs.declared.references.Reference.{Reference}
use Rattle.elf_linking.specs.declared.scope.Bound.{Bound}
use Rattle.linking_callers.specs.SecondFile.{FindsReference, IsChecked, IsLoaded, IsSecond, IsTo, is_of_second, passed}
use Rattle.xmas_elf.specs.First.{FindsFirst}
use Rattle.xmas_elf.specs.Symbol.{SymbolFields}

-- what `find` of std returns is the first item with a property
pub first_found : {A : Type 0} (P : A → Type 0) (items : List A) (found : Option A) → MatchOption found (AllWithin (λ item. ¬ P item) items 0 (length items)) (λ x. P x × (i : ℕ) × (i < length items) × HoldsAt (λ item. item ≡ x) items i × AllWithin (λ item. ¬ P item) items 0 i) → FindsFirst P items found
first_found P items None none = none
first_found P items (Some x) is = (is.0, (is.1, is.2, is.3, is.4))

module _ {E : Type 0} {r : _} (fields : E → SymbolFields) (program : DynamicObject E r) (name : List ℕ) where
  -- what is found in the list of references
  pub reference_found : (items : List Reference) (found : Option Reference) → references_of (object_file program) (view_entries (object_view program)) ≡ Ok items → FindsFirst (IsTo fields program name) items found → FindsReference fields program name (Ok found)
  reference_found items found is finds = subst (λ (answer : Result (List Reference) LinkError). MatchResult answer (λ references. IsOkAnd {E = LinkError} (Ok found) (FindsFirst (IsTo fields program name) references)) (λ error. Ok found ≡ Err error)) (sym is) finds

  -- a reference that was found is to a symbol with the name
  found_is : (reference : Reference) (references : Result (List Reference) LinkError) → MatchResult references (λ references. IsOkAnd {E = LinkError} (Ok (Some reference)) (FindsFirst (IsTo fields program name) references)) (λ error. Ok (Some reference) ≡ Err error) → IsTo fields program name reference
  found_is reference (Ok references) finds = finds.0
  found_is reference (Err error) is = absurd cc

  -- so there is such a symbol, whose name can be read
  has_symbol : (strings : List ℕ) (symbol : Option E) (read : Result (List ℕ) LinkError) → and_then (ok_or symbol SymbolIndex) (λ e. bytes_in_strings (Ok strings) (fields e).name) ≡ Ok name → IsOk read → IsSomeAnd symbol (λ e. binds_to_itself (fields e) ≡ false → IsOk read)
  has_symbol strings None read is ok = absurd (cc)
  has_symbol strings (Some e) read is ok = λ looked. ok

  pub named : (objects : List (DynamicObject E r)) (reference : Reference) → slice_get objects 0 ≡ Some program → FindsReference fields program name (Ok (Some reference)) → HasNamedSymbol fields objects 0 reference
  named objects reference first finds =
      let is = found_is reference (references_of (object_file program) (view_entries (object_view program))) finds in
      subst (λ object. IsSomeAnd object (λ asking. IsSomeAnd (slice_get (table_items (object_records asking)) reference.symbol) (λ symbol. binds_to_itself (fields symbol) ≡ false → IsOk (object_name_bytes fields asking reference.symbol)))) (sym first)
      (has_symbol (object_strings program).now (slice_get (table_items (object_records program)) reference.symbol) (object_name_bytes fields program reference.symbol) is (subst (λ text. IsOk text) (sym is) refl))

  module _ (objects : List (DynamicObject E r)) where
    -- the answer, by what is found
    pub second_bound : (reference : Reference) (bound : Option (Bound E)) → FindsReference fields program name (Ok (Some reference)) → BindsReference fields objects 0 reference (Ok bound) → IsSecond fields objects program name (Ok (is_of_second bound))
    second_bound reference bound finds binds = (Ok (Some reference), finds, (bound, binds, refl))

    pub second_none : FindsReference fields program name (Ok None) → IsSecond fields objects program name (Ok false)
    second_none finds = (Ok None, finds, refl)

    pub second_error : (error : LinkError) → FindsReference fields program name (Err error) → IsSecond fields objects program name (Err error)
    second_error error finds = (Err error, finds, refl)

-- look-ups in an object find what they must, and its versions can be read
abbrev pub IsGood : {E : Type 0} → DynamicSymbols E → Type 0
IsGood file = IsGoodBy file.table file.symbols × AreReadable file

module _ {E : Type 0} {r : _} (fields : E → SymbolFields) where
  checked_good : (read : Result (DynamicObject E r) LinkError) (object : DynamicObject E r) → IsChecked fields read (Ok object) → IsGood (object_dynamic_symbols fields object)
  checked_good read object (passed _ good readable) = (good, readable)

  pub loaded_good : (class size : ℕ) (bytes : List ℕ) (object : DynamicObject E r) → IsLoaded fields class size bytes (Ok object) → IsGood (object_dynamic_symbols fields object)
  loaded_good class size bytes object loaded = checked_good loaded.0 object loaded.2

  good_more : (object : DynamicObject E r) (objects : List (DynamicObject E r)) → IsGood (object_dynamic_symbols fields object) → AreGood fields objects → AreGood fields (object ∷ objects)
  good_more object objects good rest zero file is = subst (λ file. IfSome file IsGood) is good
  good_more object objects good rest (suc i) file is = rest i file is

  -- three loaded objects are good
  pub three_good : (one two three : DynamicObject E r) → IsGood (object_dynamic_symbols fields one) → IsGood (object_dynamic_symbols fields two) → IsGood (object_dynamic_symbols fields three) → AreGood fields (one ∷ two ∷ three ∷ [])
  three_good one two three good-one good-two good-three = good_more one (two ∷ three ∷ []) good-one (good_more two (three ∷ []) good-two (good_more three [] good-three (λ i file is. absurd cc)))
