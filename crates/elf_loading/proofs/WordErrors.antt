-- Which relocation has an error.
use Rattle.std.proofs.Common.{◌≡◌, ℕ, Bool, false, List, Some, Result, Ok, Err, sym, ap, ◌∙◌, subst, refl}
use Rattle.std.specs.Borrow.{Bor}
use Rattle.std.specs.Prelude.{IfErr, MatchResult, slice_get}
use Rattle.std.proofs.lemmas.List.Elements.{All-weaker}
use Rattle.std.proofs.lemmas.Option.{same_Some}
use Rattle.elf_base.specs.FileHeader.{file_order}
use Rattle.elf_linking.specs.DynamicObject.{object_file, object_view}
use Rattle.elf_linking.specs.DynamicView.{view_entries}
use Rattle.elf_linking.specs.declared.error.LinkError.TheVariants.{ObjectIndex}
use Rattle.elf_loading.specs.Types.{Binding, DynamicObject, LoadError, Order, Place, Relocated, Relocation, TableLocation, WordError}
use Rattle.elf_loading.specs.ImageTables.{asks_for_text, tables_of}
use Rattle.elf_loading.specs.ImageWords.{IsBegun, checked_relocations}
use Rattle.elf_loading.specs.Plan.{plan_loads}
use Rattle.elf_loading.specs.Relocate.{is_wrong_size, sized_relocations, sources_of}
use Rattle.elf_loading.specs.WordErrors.{IsCheckError, IsFirstError, IsFirstUnchecked, IsFirstUnwritten, IsImageError, IsRelocationError, IsRelocationErrorIn, error_of_none}
use Rattle.elf_loading.specs.Words.{HasWord, binds_lazily}
use Rattle.elf_loading.specs.WordsLeft.{HasWordOf, own_relocations, relocations_left}
use Rattle.elf_loading.specs.declared.error.LoadError.TheVariants.{Link}
use Rattle.elf_loading.specs.declared.plan.LoadPlan.{LoadPlan}
use Rattle.elf_loading.specs.declared.relocate.Sources.{Sources}
use Rattle.elf_loading.specs.declared.words.Words.{Words}
use Rattle.elf_loading.proofs.ImageChecks.{both_at, has_word_same}
use Rattle.xmas_elf.specs.Symbol.{SymbolFields}

-- the same of items that have more
first_weaker : {E : Type 0} (Has More : Relocated E → Type 0) (Pass : List (Relocated E) → Type 0) (Fails : List (Relocated E) → Relocated E → LoadError → Type 0) (relocations : List Relocation) (found : WordError)
    → ((item : Relocated E) → Has item → More item) → IsFirstError Has Pass Fails relocations found → IsFirstError More Pass Fails relocations found
first_weaker Has More Pass Fails relocations found more first = record {
  items = first.items;
  item = first.item;
  rest = first.rest;
  are = first.are;
  have_words = All-weaker Has More more first.items first.have_words;
  has_word = more first.item first.has_word;
  pass = first.pass;
  fails = first.fails;
  index_is = first.index_is;
}

-- The check.

module _ {E : Type 0} {r : _} (size : ℕ) (fields : E → SymbolFields) (objects : List (DynamicObject E r)) (of : ℕ) (own : DynamicObject E r) (plan : LoadPlan) (bits : ℕ) where
  abbrev Says : WordError → Result (List Relocation) LoadError → Type 0
  Says found said = MatchResult said (λ relocations. IsFirstUnchecked (HasWord fields objects (object_file own) own of false) (plan_loads plan)
      (asks_for_text (view_entries (object_view own))) (tables_of size own) relocations found) (λ reason. found ≡ error_of_none reason)

  pub error_of_tables : (reason : LoadError) → checked_relocations size own plan bits ≡ Err reason → IsCheckError size fields objects of own plan bits (error_of_none reason)
  error_of_tables reason is = subst (Says (error_of_none reason)) (sym is) refl

  error_of_relocations : (relocations : List Relocation) → checked_relocations size own plan bits ≡ Ok relocations → (found : WordError)
      → IsFirstUnchecked (HasWord fields objects (object_file own) own of false) (plan_loads plan) (asks_for_text (view_entries (object_view own))) (tables_of size own) relocations found
      → IsCheckError size fields objects of own plan bits found
  error_of_relocations relocations is found first = subst (Says found) (sym is) first

  -- the error is that of the object and the plan at the index
  pub image_error : (plans : List LoadPlan) → slice_get objects of ≡ Some own → slice_get plans of ≡ Some plan → {T : Type 0} → (result : Result T WordError)
      → IfErr result (IsCheckError size fields objects of own plan bits) → IfErr result (IsImageError size fields objects plans of bits)
  image_error plans own_is plan_is (Ok value) is = tt
  image_error plans own_is plan_is (Err found) is = both_at objects plans of (found ≡ error_of_none (Link ObjectIndex)) (λ own plan. IsCheckError size fields objects of own plan bits found) own plan own_is plan_is is

module _ {E : Type 0} {r : _} (size : ℕ) (fields : E → SymbolFields) (objects : Bor (List (DynamicObject E r))) (of : ℕ) (own : DynamicObject E r) (plan : LoadPlan) (bits : ℕ) (own_is : slice_get objects.now of ≡ Some own) where
  pub error_of_words : (words : Words E r) (text : Bool) (tables : List TableLocation) (result : Result (Unit {0}) WordError)
      → IsBegun size objects of own plan bits words → text ≡ asks_for_text (view_entries (object_view own)) → tables ≡ tables_of size own
      → IfErr result (IsFirstUnchecked (HasWordOf fields words) (plan_loads plan) text tables (relocations_left words)) → IfErr result (IsCheckError size fields objects.now of own plan bits)
  error_of_words words text tables (Ok done) begun text_is tables_are is = tt
  error_of_words words text tables (Err found) begun text_is tables_are is =
      let own_same : words.own.now ≡ own = same_Some _ _ (sym begun.words_are.own_is ∙ own_is) in
      let file_same : words.file ≡ object_file own = begun.words_are.file_is ∙ ap object_file own_same in
      let Has = HasWord fields objects.now (object_file own) own of false in
      let first : IsFirstUnchecked Has (plan_loads plan) text tables (relocations_left words) found = first_weaker (HasWordOf fields words) Has _ _ (relocations_left words) found
      (λ item has. has_word_same fields item _ _ _ _ _ _ _ _ _ _ (ap (λ o. o.now) begun.words_are.objects_are) file_same own_same begun.words_are.index_is begun.words_are.lazy_is has) is in
      error_of_relocations size fields objects.now of own plan bits (relocations_left words) begun.relocations_are found
      (subst (λ t. IsFirstUnchecked Has (plan_loads plan) (asks_for_text (view_entries (object_view own))) t (relocations_left words) found) tables_are
      (subst (λ t. IsFirstUnchecked Has (plan_loads plan) t tables (relocations_left words) found) text_is first))

-- The relocation.

module _ {E : Type 0} {r : _} (fields : E → SymbolFields) (sources : Sources E r) (own : DynamicObject E r) (plan : LoadPlan) (lazy : Bool) (len : ℕ) where
  abbrev Tells : WordError → Result (List Relocation) LoadError → Type 0
  Tells found said = MatchResult said (λ relocations. IsFirstUnwritten fields sources own lazy len relocations found) (λ reason. found ≡ error_of_none reason)

  pub error_of_sizes : (reason : LoadError) → sized_relocations sources own plan len ≡ Err reason → IsRelocationError fields sources own plan lazy len (error_of_none reason)
  error_of_sizes reason is = subst (Tells (error_of_none reason)) (sym is) refl

  pub error_of_written : {T : Type 0} → (result : Result T WordError) (relocations : List Relocation) → is_wrong_size sources plan len ≡ false → own_relocations (Some own) ≡ Ok relocations
      → IfErr result (IsFirstUnwritten fields sources own lazy len relocations) → IfErr result (IsRelocationError fields sources own plan lazy len)
  error_of_written (Ok value) relocations right are is = tt
  error_of_written (Err found) relocations right are is =
      let sized : sized_relocations sources own plan len ≡ Ok relocations = rw (right, are) refl in
      subst (Tells found) (sym sized) is

module _ {E : Type 0} {r : _} (fields : E → SymbolFields) (objects : Bor (List (DynamicObject E r))) (plans : Bor (List LoadPlan)) (of : ℕ) (when : Binding) (places : Bor (List Place)) (images : Bor (List (Bor (List ℕ)))) (len : ℕ) (own : DynamicObject E r) (plan : LoadPlan) where
  -- the error is that of the object and the plan at the index
  pub relocation_error : {T : Type 0} → (result : Result T WordError) (lent : Bor (List (DynamicObject E r))) (order : Order) → lent ≡ objects → slice_get lent.now of ≡ Some own → slice_get plans.now of ≡ Some plan → order ≡ file_order (object_file own).header
      → IfErr result (IsRelocationError fields (record { objects = lent; plans = plans; of = of; order = order; places = places; images = images }) own plan (binds_lazily (view_entries (object_view own)) when) len)
      → IfErr result (IsRelocationErrorIn fields objects plans of when places images len)
  relocation_error (Ok value) lent order same there planned order_is is = tt
  relocation_error (Err found) lent order same there planned order_is is =
      let lazy = binds_lazily (view_entries (object_view own)) when in
      let here : slice_get objects.now of ≡ Some own = ap (λ (all : Bor (List (DynamicObject E r))). slice_get all.now of) (sym same) ∙ there in
      let one : IsRelocationError fields (record { objects = objects; plans = plans; of = of; order = order; places = places; images = images }) own plan lazy len found =
      subst (λ all. IsRelocationError fields (record { objects = all; plans = plans; of = of; order = order; places = places; images = images }) own plan lazy len found) same is in
      let other : IsRelocationError fields (sources_of objects plans of places images own) own plan lazy len found =
      subst (λ some. IsRelocationError fields (record { objects = objects; plans = plans; of = of; order = some; places = places; images = images }) own plan lazy len found) order_is one in
      both_at objects.now plans.now of (found ≡ error_of_none (Link ObjectIndex))
      (λ own plan. IsRelocationError fields (sources_of objects plans of places images own) own plan (binds_lazily (view_entries (object_view own)) when) len found) own plan here planned other
