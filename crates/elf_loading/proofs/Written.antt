-- The words that are written so far.
use Rattle.std.proofs.Common.{◌≡◌, ℕ, ◌+◌, ◌-◌, ◌^◌, ◌++◌, Bool, true, false, List, [], ◌∷◌, length, map, slice_index, Result, Ok, Err, if◌then◌else◌, cond, refl, sym, ap, ◌∙◌, subst, arith, append_assoc, append-nil, length-append, ◌==◌, ◌&&◌, not, Option, Some, None, MatchOption, MatchResult}
use Rattle.std.proofs.lemmas.Option.{slice_get-get_or}
use Rattle.std.specs.Borrow.{Bor}
use Rattle.std.specs.Slice.{IsItemAt}
use Rattle.std.specs.Prelude.{All, IsOk, ◌<◌, min, slice_get, IfErr, IfOk, IfSome}
use Rattle.std.specs.List.{count_by, find}
use Rattle.std.proofs.lemmas.List.{map-append}
use Rattle.std.proofs.lemmas.List.Elements.{All-append, All-cons, All-nil}
use Rattle.std.proofs.lemmas.List.Sums.{sum_by-append}
use Rattle.elf_base.specs.FirstError.{and_then, unless}
use Rattle.elf_base.specs.FileHeader.{file_order}
use Rattle.elf_loading.specs.Types.{Binding, DynamicObject, ElfFile, LoadError, Order, Place, Records, Relocated, Relocation, Word, Asked, Bound, LinkError, Reference, Row}
use Rattle.elf_linking.specs.DynamicObject.{object_file, object_view, object_records}
use Rattle.elf_linking.specs.DynamicView.{view_entries}
use Rattle.elf_linking.specs.declared.error.LinkError.TheVariants.{ObjectIndex}
use Rattle.elf_loading.specs.Relocate.{AreWordsFor, AreItemsWritten, IsRelocation, IsRelocationIn, IsWriting, all, has_no_number, is_copy_outside, is_outside, is_unresolved, is_wrong_size, lacks_number, relocated_byte, sized_relocations, some, sources_of, image_start, word_byte, write_item, write_word}
use Rattle.elf_loading.specs.WordErrors.{IsFirstUnwritten}
use Rattle.elf_loading.specs.Words.{HasWord, binds_lazily, IsBoundIf, formula_word, is_bound_at_once, is_later, needs_symbol, formula_has_symbol, word_of}
use Rattle.elf_loading.specs.WordsLeft.{HasWordOf, IsSame, relocation_of, own_relocations}
use Rattle.elf_loading.specs.declared.plan.LoadPlan.{LoadPlan}
use Rattle.elf_loading.specs.declared.relocate.Sources.{Sources}
use Rattle.elf_loading.specs.declared.words.Words.{Words}
use Rattle.elf_loading.proofs.ImageChecks.{both_at, has_word_same, one_more}
use Rattle.xmas_elf.specs.Symbol.{SymbolFields}
use Rattle.std.proofs.lemmas.Bool.{and_parts, eqb-true}
use Rattle.elf_base.specs.Table.{table_items}
use Rattle.elf_linking.specs.References.{file_machine}
use Rattle.elf_linking.specs.Scope.{IsBoundFor, IsBound, IsReferenceBound, asked_of, asked_with}
use Rattle.elf_linking.specs.RelocationTypes.{is_relative, relative_of, row_of}
use Rattle.elf_linking.specs.declared.find.Use.TheVariants.{Any}
use Rattle.elf_linking.specs.declared.references.types.TheConstants.{AARCH64, I386, X86_64}
use Rattle.elf_loading.specs.RelativeWords.{IsFirstWritten, IsItemWritten, IsWrittenSoFar, asks_as, relative_word}
use Rattle.elf_loading.specs.InOrder.{first_left}
use Rattle.elf_loading.specs.Values.{low}
use Rattle.elf_loading.specs.declared.value.Origin.TheVariants.{Base}
use Rattle.elf_loading.specs.declared.value.Value.TheVariants.{Sum}
use Rattle.elf_loading.specs.declared.error.LoadError.TheVariants as error
use Rattle.elf_linking.specs.declared.references.types.Formula.TheVariants as formulas

-- the words of more items
bytes_more : {E : Type 0} {r : _} (sources : Sources E r) (address : ℕ) (items more : List (Relocated E)) (old : ℕ)
    → relocated_byte sources address (items ++ more) old ≡ relocated_byte sources address more (relocated_byte sources address items old)
unfolding relocated_byte
bytes_more sources address [] more old = refl
bytes_more sources address (first ∷ items) more old = bytes_more sources address items more (word_byte sources address first.word old)

-- one word more
pub byte_more : {E : Type 0} {r : _} (sources : Sources E r) (address : ℕ) (items : List (Relocated E)) (item : Relocated E) (old : ℕ)
    → relocated_byte sources address (items ++ item ∷ []) old ≡ word_byte sources address item.word (relocated_byte sources address items old)
unfolding relocated_byte
byte_more sources address items item old = bytes_more sources address items (item ∷ []) old

no_byte : {E : Type 0} {r : _} (sources : Sources E r) (address old : ℕ) → old ≡ relocated_byte sources address [] old
unfolding relocated_byte
no_byte sources address old = refl

as_if : (b : Bool) → ◌≡◌ {A = ℕ} (cond b 1 0) (if b then 1 else 0)
as_if true = refl
as_if false = refl

count_more : {A : Type 0} (p : A → Bool) (items : List A) (item : A) (lacks : Bool) (count : ℕ) → p item ≡ lacks
    → count ≡ min (count_by p items) (2 ^ 64 - 1) → min (count + (if lacks then 1 else 0)) (2 ^ 64 - 1) ≡ min (count_by p (items ++ item ∷ [])) (2 ^ 64 - 1)
count_more p items item lacks count is counted =
    let sum : count_by p (items ++ item ∷ []) ≡ count_by p items + (0 + cond (p item) 1 0) = sum_by-append (λ x. cond (p x) 1 0) items (item ∷ []) in
    let one : ◌≡◌ {A = ℕ} (cond (p item) 1 0) (if lacks then 1 else 0) = ap (λ b. cond b 1 0) is ∙ as_if lacks in
    rw (sum, one) (omega (arith, counted))

-- a word that is written lacks a number as the call says
lacks_known : (word : Word) (unresolved outside copied lacks : Bool)
    → ◌≡◌ {A = Result Bool LoadError} (if unresolved then Err error.Unresolved else unless ((outside, error.WordAddress) ∷ (copied, error.CopySource) ∷ []) (has_no_number word.value)) (Ok lacks)
    → has_no_number word.value ≡ lacks
lacks_known word true outside copied lacks is = absurd (cc)
lacks_known word false true copied lacks is = absurd (cc)
lacks_known word false false true lacks is = absurd (cc)
lacks_known word false false false lacks is = cc

lacks_of : (known : Result Word LoadError) (unresolved : Bool) (outside copied : Word → Bool) (lacks : Bool)
    → and_then known (λ word. if unresolved then Err error.Unresolved else unless ((outside word, error.WordAddress) ∷ (copied word, error.CopySource) ∷ []) (has_no_number word.value)) ≡ Ok lacks
    → lacks_number known ≡ lacks
lacks_of (Err e) unresolved outside copied lacks is = absurd (cc)
lacks_of (Ok word) unresolved outside copied lacks is = lacks_known word unresolved (outside word) (copied word) lacks is

is_ok : {A E : Type 0} (result : Result A E) (value : A) → result ≡ Ok value → IsOk result
is_ok result value is = subst IsOk (sym is) refl

-- The iterator's object stays the same.

module _ {E : Type 0} {r : _} (objects : List (DynamicObject E r)) (own : DynamicObject E r) (of : ℕ) (lazy : Bool) where
  pub still_words : (words later : Words E r) → IsSame words later → AreWordsFor objects own of lazy words → AreWordsFor objects own of lazy later
  still_words words later same are = record {
    objects_are = ap (λ lent. lent.now) same.0 ∙ are.objects_are;
    own_is = same.2 ∙ are.own_is;
    file_is = same.1 ∙ are.file_is;
    index_is = same.3 ∙ are.index_is;
    lazy_is = same.4 ∙ are.lazy_is;
  }

  pub has_word : (fields : E → SymbolFields) (words : Words E r) (item : Relocated E) → AreWordsFor objects own of lazy words
      → HasWordOf fields words item
      → HasWord fields objects (object_file own) own of lazy item
  has_word fields words item are is = has_word_same fields item _ _ _ _ _ _ _ _ _ _ are.objects_are are.file_is are.own_is are.index_is are.lazy_is is

module _ {E : Type 0} {r : _} (fields : E → SymbolFields) (sources : Sources E r) (own : DynamicObject E r) (lazy : Bool) (relocations : List Relocation) (before : List ℕ) where
  abbrev worded : Relocated E → Type 0
  worded item = HasWord fields sources.objects.now (object_file own) own sources.of lazy item

  abbrev writable : Relocated E → Type 0
  writable item = IsOk (write_item fields sources own lazy (length before) item)

  abbrev pub SoFar : List Relocation → List ℕ → ℕ → ℕ → Type 0
  SoFar = IsWrittenSoFar fields sources own lazy relocations before

  pub none_written : (left : List Relocation) → left ≡ relocations → SoFar left before 0 0
  none_written left is = record {
    items = [];
    passed = omega arith;
    split = sym is;
    written = record {
      have_words = All-nil worded;
      can_be = All-nil writable;
      counted = omega arith;
      same_size = refl;
      bytes = λ i below. no_byte sources (image_start sources sources.of + i) (slice_index before i);
    };
  }

  module _ (left later : List Relocation) (item : Relocated E) (now : List ℕ) (count index : ℕ) (first : left ≡ item.relocation ∷ later) (so_far : SoFar left now count index) (is : HasWord fields sources.objects.now (object_file own) own sources.of lazy item) where
    -- after one more
    pub more_written : (next : ℕ) → next ≡ min (index + 1) (2 ^ 64 - 1) → (after : List ℕ) (lacks : Bool) → length after ≡ length now → Ok lacks ≡ write_item fields sources own lazy (length now) item
        → ((i : ℕ) → slice_index after i ≡ word_byte sources (image_start sources sources.of + i) item.word (slice_index now i))
        → SoFar later after (min (count + (if lacks then 1 else 0)) (2 ^ 64 - 1)) next
    more_written next next_is after lacks len can bytes =
        let written = so_far.written in
        let same : write_item fields sources own lazy (length before) item ≡ Ok lacks = ap (λ n. write_item fields sources own lazy n item) (sym written.same_size) ∙ sym can in
        let word_lacks : lacks_number item.word ≡ lacks = lacks_of item.word (is_unresolved fields own lazy item)
        (λ word. is_outside (image_start sources sources.of) (length before) word.address word.width) (λ word. is_copy_outside sources word.width word.value) lacks same in record {
          items = so_far.items ++ item ∷ [];
          passed = one_more so_far.items item index next so_far.passed next_is;
          split = so_far.split ∙ ap (λ rest. map relocation_of so_far.items ++ rest) first
              ∙ sym (append_assoc (map relocation_of so_far.items) (item.relocation ∷ []) later) ∙ ap (λ some. some ++ later) (sym (map-append relocation_of so_far.items (item ∷ [])));
          written = record {
            have_words = All-append worded so_far.items (item ∷ []) written.have_words (All-cons worded item [] is (All-nil worded));
            can_be = All-append writable so_far.items (item ∷ []) written.can_be (All-cons writable item [] (is_ok _ lacks same) (All-nil writable));
            counted = count_more (λ one. lacks_number one.word) so_far.items item lacks count word_lacks written.counted;
            same_size = len ∙ written.same_size;
            bytes = λ i below. bytes i ∙ ap (word_byte sources (image_start sources sources.of + i) item.word) (written.bytes i below)
                ∙ sym (byte_more sources (image_start sources sources.of + i) so_far.items item (slice_index before i));
          };
        }

    -- at one that can't be written
    pub one_failed : (after : List ℕ) (reason : LoadError) → Err reason ≡ write_item fields sources own lazy (length now) item → after ≡ now
        → IsWriting fields sources own lazy relocations before after (Err reason)
    one_failed after reason can same =
        let written = so_far.written in
        some so_far.items count item later reason (so_far.split ∙ ap (λ rest. map relocation_of so_far.items ++ rest) first)
        (subst (λ image. AreItemsWritten fields sources own lazy before image so_far.items count) (sym same) written) is
        (ap (λ n. write_item fields sources own lazy n item) (sym written.same_size) ∙ sym can) refl

    -- the error is that of the relocation after those so far
    pub first_unwritten : (reason : LoadError) → Err reason ≡ write_item fields sources own lazy (length now) item
        → IsFirstUnwritten fields sources own lazy (length before) relocations (record { error = reason; relocation = Some index })
    first_unwritten reason can = record {
      items = so_far.items;
      item = item;
      rest = later;
      are = so_far.split ∙ ap (λ rest. map relocation_of so_far.items ++ rest) first;
      have_words = so_far.written.have_words;
      has_word = is;
      pass = so_far.written.can_be;
      fails = ap (λ n. write_item fields sources own lazy n item) (sym so_far.written.same_size) ∙ sym can;
      index_is = ap (λ number. Some number) so_far.passed;
    }

  -- at the end
  pub all_written : (left : List Relocation) (after : List ℕ) (count index : ℕ) → left ≡ [] → SoFar left after count index → IsWriting fields sources own lazy relocations before after (Ok count)
  all_written left after count index end so_far =
      all so_far.items count (so_far.split ∙ ap (λ rest. map relocation_of so_far.items ++ rest) end ∙ append-nil _) so_far.written refl

-- The call.

-- the item of a slice that was lent
pub item_is : {X : Type 0} (xs : List X) (i : ℕ) (lent : Option (Bor X)) (x : Bor X) → IsItemAt xs i lent → lent ≡ Some x → slice_get xs i ≡ Some x.now
item_is xs i lent x item is = let at = subst (IsItemAt xs i) is item in slice_get-get_or xs i x.now at.3.0 ∙ ap (λ y. Some y) (sym at.1)

module _ {E : Type 0} {r : _} (fields : E → SymbolFields) (sources : Sources E r) (own : DynamicObject E r) (plan : LoadPlan) (lazy : Bool) (before after : List ℕ) where
  pub is_written : (result : Result ℕ LoadError) (relocations : List Relocation) → is_wrong_size sources plan (length before) ≡ false
      → own_relocations (Some own) ≡ Ok relocations → IsWriting fields sources own lazy relocations before after result
      → IsRelocation fields sources own plan lazy before after result
  is_written result relocations right are writing =
      let sized : sized_relocations sources own plan (length before) ≡ Ok relocations = rw (right, are) refl in
      subst (λ said. MatchResult said (λ all_of. IsWriting fields sources own lazy all_of before after result) (λ reason. (result ≡ Err reason) × (after ≡ before))) (sym sized) writing

module _ {E : Type 0} {r : _} (fields : E → SymbolFields) (objects : Bor (List (DynamicObject E r))) (plans : Bor (List LoadPlan)) (of : ℕ) (when : Binding) (places : Bor (List Place)) (images : Bor (List (Bor (List ℕ)))) (before after : List ℕ) (own : DynamicObject E r) (plan : LoadPlan) where
  abbrev of_order : Order → Sources E r
  of_order order = record { objects = objects; plans = plans; of = of; order = order; places = places; images = images }

  pub is_relocated : (result : Result ℕ LoadError) (lent : Bor (List (DynamicObject E r))) (order : Order) → lent ≡ objects → slice_get lent.now of ≡ Some own
      → slice_get plans.now of ≡ Some plan → order ≡ file_order (object_file own).header
      → IsRelocation fields (record { objects = lent; plans = plans; of = of; order = order; places = places; images = images }) own plan
      (binds_lazily (view_entries (object_view own)) when) before after result
      → IsRelocationIn fields objects plans of when places images before after result
  is_relocated result lent order same there planned order_is relocation =
      let lazy = binds_lazily (view_entries (object_view own)) when in
      let found : slice_get objects.now of ≡ Some own = ap (λ (all_of : Bor (List (DynamicObject E r))). slice_get all_of.now of) (sym same) ∙ there in
      let own_order = file_order (object_file own).header in
      let one : IsRelocation fields (record { objects = objects; plans = plans; of = of; order = order; places = places; images = images }) own plan lazy before after result =
      subst (λ all_of. IsRelocation fields (record { objects = all_of; plans = plans; of = of; order = order; places = places; images = images }) own plan lazy before after result) same relocation in
      let other : IsRelocation fields (of_order own_order) own plan lazy before after result =
      subst (λ some_order. IsRelocation fields (of_order some_order) own plan lazy before after result) order_is one in
      both_at objects.now plans.now of ((result ≡ Err (error.Link ObjectIndex)) × (after ≡ before))
      (λ own plan. IsRelocation fields (sources_of objects plans of places images own) own plan (binds_lazily (view_entries (object_view own)) when) before after result)
      own plan found planned other

-- Words that are written without a look-up.

-- Relocations of one symbol.

module _ {E : Type 0} {r : _} (fields : E → SymbolFields) (objects : List (DynamicObject E r)) (of : ℕ) (bound : Result (Option (Bound E)) LinkError) (one other : Reference) (symbol : one.symbol ≡ other.symbol) (kind : one.kind ≡ other.kind) where
  asked_same : (object : DynamicObject E r) (found : Option E) → asked_with fields object one found ≡ asked_with fields object other found
  asked_same object None = refl
  asked_same object (Some entry) = rw (symbol, kind) refl

  asks_same : (object : DynamicObject E r) → asked_of fields object one ≡ asked_of fields object other
  asks_same object = asked_same object (slice_get (table_items (object_records object)) one.symbol)
      ∙ ap (λ index. asked_with fields object other (slice_get (table_items (object_records object)) index)) symbol

  abbrev Answers : ℕ → Result (Asked E) LinkError → Type 0
  Answers index asked = MatchResult asked (λ question. IsBoundFor (IsBound fields objects of) of index question bound) (λ error. bound ≡ Err error)

  for_object : (found : Option (DynamicObject E r)) → MatchOption found (bound ≡ Err ObjectIndex) (λ asking. Answers one.symbol (asked_of fields asking one))
      → MatchOption found (bound ≡ Err ObjectIndex) (λ asking. Answers other.symbol (asked_of fields asking other))
  for_object None is = is
  for_object (Some asking) is = subst (λ index. Answers index (asked_of fields asking other)) symbol (subst (Answers one.symbol) (asks_same asking) is)

  bound_same : IsReferenceBound fields objects of one bound → IsReferenceBound fields objects of other bound
  bound_same is = for_object (slice_get objects of) is

  bound_same_if : (needs : Bool) → IsBoundIf needs fields objects of one bound → IsBoundIf needs fields objects of other bound
  bound_same_if true is = bound_same is
  bound_same_if false is = is

same_flag : (one other : Bool) → (if one then other else not other) ≡ true → one ≡ other
same_flag true other is = sym is
same_flag false false is = refl
same_flag false true is = absurd (cc)

module _ {E : Type 0} {r : _} (fields : E → SymbolFields) (file : ElfFile) (own : DynamicObject E r) (lazy : Bool) where
  -- whether a slot gets its symbol later, by what its relocation says of it
  abbrev later_by : Bool → Bool → ℕ → ℕ → Bool
  later_by slot in_place kind symbol =
      is_later fields file own lazy (record { reference = record { offset = 0; kind = kind; symbol = symbol; addend = 0 }; in_place = in_place; slot = slot })

  abbrev needs_by : Bool → ℕ → Bool
  needs_by later kind = not later && formula_has_symbol (row_of (file_machine file) kind).formula

  -- a relocation that asks as another gets its symbol
  pub bound_as : (objects : List (DynamicObject E r)) (of : ℕ) (bound : Result (Option (Bound E)) LinkError) (one other : Relocation)
      → asks_as one other ≡ true → IsBoundIf (needs_symbol (file_machine file) (is_later fields file own lazy one) one) fields objects of one.reference bound
      → IsBoundIf (needs_symbol (file_machine file) (is_later fields file own lazy other) other) fields objects of other.reference bound
  bound_as objects of bound one other same is =
      let (symbol_is, rest) = and_parts _ _ same in
      let (kind_is, flags_are) = and_parts _ _ rest in
      let (slot_is, place_is) = and_parts _ _ flags_are in
      let symbol : one.reference.symbol ≡ other.reference.symbol = eqb-true _ _ symbol_is in
      let kind : one.reference.kind ≡ other.reference.kind = eqb-true _ _ kind_is in
      let slot : one.slot ≡ other.slot = same_flag _ _ slot_is in
      let in_place : one.in_place ≡ other.in_place = same_flag _ _ place_is in
      let later : is_later fields file own lazy one ≡ is_later fields file own lazy other =
      ap (λ s. later_by s one.in_place one.reference.kind one.reference.symbol) slot ∙ ap (λ p. later_by other.slot p one.reference.kind one.reference.symbol) in_place
      ∙ ap (λ k. later_by other.slot other.in_place k one.reference.symbol) kind ∙ ap (later_by other.slot other.in_place other.reference.kind) symbol in
      let needs : needs_symbol (file_machine file) (is_later fields file own lazy one) one ≡ needs_symbol (file_machine file) (is_later fields file own lazy other) other =
      ap (λ l. needs_by l one.reference.kind) later ∙ ap (needs_by (is_later fields file own lazy other)) kind in
      subst (λ b. IsBoundIf b fields objects of other.reference bound) needs
      (bound_same_if fields objects of bound one.reference other.reference symbol kind (needs_symbol (file_machine file) (is_later fields file own lazy one) one) is)

-- Relative relocations.

record Facts (machine : ℕ) (relative : Row) : Type 0 where
  formula : (row_of machine relative.kind).formula ≡ Some formulas.Base
  width : (row_of machine relative.kind).width ≡ relative.width
  no_slot : (row_of machine relative.kind).slot ≡ false

module _ (machine : ℕ) (relative : Row) where
  facts_at : (m : ℕ) (one : Row) → machine ≡ m → Some one ≡ Some relative → Facts m one → Facts machine relative
  facts_at m one same is facts = let those : one ≡ relative = cc in subst (λ k. Facts k relative) (sym same) (subst (Facts m) those facts)

  by_machine : (one two three : Bool) → (machine == 62) ≡ one → (machine == 3) ≡ two → (machine == 183) ≡ three
      → find (λ (row : Row). is_relative row.formula) (if one then X86_64 else (if two then I386 else (if three then AARCH64 else []))) ≡ Some relative → Facts machine relative
  by_machine true two three a b c is =
      facts_at 62 (record { kind = 8; formula = Some formulas.Base; width = 8; use_ = Any; names = false; slot = false }) (eqb-true machine 62 a) is (record { formula = refl; width = refl; no_slot = refl })
  by_machine false true three a b c is =
      facts_at 3 (record { kind = 8; formula = Some formulas.Base; width = 4; use_ = Any; names = false; slot = false }) (eqb-true machine 3 b) is (record { formula = refl; width = refl; no_slot = refl })
  by_machine false false true a b c is =
      facts_at 183 (record { kind = 1027; formula = Some formulas.Base; width = 8; use_ = Any; names = false; slot = false }) (eqb-true machine 183 c) is (record { formula = refl; width = refl; no_slot = refl })
  by_machine false false false a b c is = absurd (cc)

  facts_of : relative_of machine ≡ Some relative → Facts machine relative
  facts_of is = by_machine (machine == 62) (machine == 3) (machine == 183) refl refl refl is

not_later : (lazy slot jump rest : Bool) → jump ≡ false → (lazy && (slot && (jump && rest))) ≡ false
not_later true true true rest is = absurd (cc)
not_later true true false rest is = refl
not_later true false jump rest is = refl
not_later false slot jump rest is = refl

abbrev word_with : ℕ → ℕ → Reference → Word
word_with of width reference = record { address = reference.offset; width = width; value = Sum (Base of) (low width reference.addend) }

record Parts (of : ℕ) (found : Option Row) (relocation : Relocation) (word : Word) : Type 0 where
  relative : Row
  there : found ≡ Some relative
  kind : relocation.reference.kind ≡ relative.kind
  in_record : relocation.in_place ≡ false
  word_is : word_with of relative.width relocation.reference ≡ word

parts_of : (of : ℕ) (found : Option Row) (relocation : Relocation) (word : Word) → relative_word of found relocation ≡ Some word → Parts of found relocation word
parts_of of None relocation word is = absurd (cc)
parts_of of (Some relative) relocation word is = by_tests (relocation.reference.kind == relative.kind) relocation.in_place refl refl is
  where
    by_tests : (same placed : Bool) → (relocation.reference.kind == relative.kind) ≡ same → relocation.in_place ≡ placed
        → (if same && not placed then Some (word_with of relative.width relocation.reference) else None) ≡ Some word → Parts of (Some relative) relocation word
    by_tests true false a b is = record { relative = relative; there = refl; kind = eqb-true _ _ a; in_record = b; word_is = cc }
    by_tests true true a b is = absurd (cc)
    by_tests false placed a b is = absurd (cc)

module _ {E : Type 0} {r : _} (fields : E → SymbolFields) (file : ElfFile) (own : DynamicObject E r) (of : ℕ) (lazy : Bool) (relocation : Relocation) (word : Word) (is : relative_word of (relative_of (file_machine file)) relocation ≡ Some word) where
  abbrev machine : ℕ
  machine = file_machine file

  abbrev item : Relocated E
  item = record { relocation = relocation; bound = Ok None; word = Ok word }

  parts : Parts of (relative_of machine) relocation word
  parts = parts_of of (relative_of machine) relocation word is

  facts : Facts machine parts.relative
  facts = facts_of machine parts.relative parts.there

  abbrev row : Row
  row = row_of machine relocation.reference.kind

  later_false : is_later fields file own lazy relocation ≡ false
  later_false = not_later lazy relocation.slot (row_of machine relocation.reference.kind).slot (not (is_bound_at_once fields file own relocation))
      (ap (λ kind. (row_of machine kind).slot) parts.kind ∙ facts.no_slot)

  formula_is : (row_of machine relocation.reference.kind).formula ≡ Some formulas.Base
  formula_is = ap (λ kind. (row_of machine kind).formula) parts.kind ∙ facts.formula

  pub relative_needs : needs_symbol machine (is_later fields file own lazy relocation) relocation ≡ false
  relative_needs = ap (λ later. needs_symbol machine later relocation) later_false ∙ ap formula_has_symbol formula_is

  width_is : (row_of machine relocation.reference.kind).width ≡ parts.relative.width
  width_is = ap (λ kind. (row_of machine kind).width) parts.kind ∙ facts.width

  pub relative_has : (objects : List (DynamicObject E r)) → HasWord fields objects file own of lazy item
  relative_has objects = (
    subst (λ b. IsBoundIf b fields objects of relocation.reference (Ok None)) (sym relative_needs) refl,
    sym (ap (λ later. word_of fields file own of later relocation (Ok None)) later_false
        ∙ ap (λ b. formula_word fields file own of b relocation.reference (Ok None) row.formula) parts.in_record
        ∙ ap (formula_word fields file own of false relocation.reference (Ok None)) formula_is
        ∙ ap (λ width. Ok (word_with of width relocation.reference)) width_is ∙ ap (λ one. Ok one) parts.word_is),
  )

module _ {E : Type 0} {r : _} (fields : E → SymbolFields) (own : DynamicObject E r) (of : ℕ) (lazy : Bool) (relocation : Relocation) (word : Word) (is : relative_word of (relative_of (file_machine (object_file own))) relocation ≡ Some word) where
  abbrev written_item : Relocated E
  written_item = record { relocation = relocation; bound = Ok None; word = Ok word }

  same_write : (sources : Sources E r) (len : ℕ) → write_item fields sources own lazy len written_item ≡ write_word sources len word
  same_write sources len = rw (relative_needs fields (object_file own) own of lazy relocation word is) refl

  pub relative_written : (sources : Sources E r) (before after : List ℕ) (result : Result Bool LoadError) → sources.of ≡ of → result ≡ write_word sources (length before) word
      → IfOk result (λ lacks. (i : ℕ) → slice_index after i ≡ word_byte sources (image_start sources sources.of + i) (Ok word) (slice_index before i))
      → IfErr result (λ error. after ≡ before) → IsItemWritten fields sources own lazy relocation before after result
  relative_written sources before after result same said bytes kept = record {
    item = written_item;
    relocation_is = refl;
    has_word = subst (λ index. HasWord fields sources.objects.now (object_file own) own index lazy written_item) (sym same) (relative_has fields (object_file own) own of lazy relocation word is sources.objects.now);
    result_is = said ∙ sym (same_write sources (length before));
    bytes = bytes;
    same = kept;
  }

-- the object of an iterator is the one whose words it has
pub of_words : {E : Type 0} {r : _} (fields : E → SymbolFields) (sources : Sources E r) (own : DynamicObject E r) (lazy : Bool) (words : Words E r) (relocation : Relocation) (before after : List ℕ) (result : Result Bool LoadError)
    → AreWordsFor sources.objects.now own sources.of lazy words → IsItemWritten fields sources words.own.now words.lazy relocation before after result
    → IsItemWritten fields sources own lazy relocation before after result
of_words fields sources own lazy words relocation before after result are is =
    subst (λ later. IsItemWritten fields sources own later relocation before after result) are.lazy_is
    (subst (λ object. IsItemWritten fields sources object words.lazy relocation before after result) are.own_is is)

-- Runs of relative relocations.

module _ {E : Type 0} {r : _} (fields : E → SymbolFields) (sources : Sources E r) (own : DynamicObject E r) (lazy : Bool) where
  -- one more of some records
  pub record_more : (relocations : List Relocation) (before now after : List ℕ) (relative : Option Row) (records later : Records) (index next : ℕ)
      → relative ≡ relative_of (file_machine (object_file own)) → next ≡ min (index + 1) (2 ^ 64 - 1) → length after ≡ length now
      → IsWrittenSoFar fields sources own lazy relocations before (first_left records records.at) now 0 index
      → IsFirstWritten sources relative records later now after
      → IsWrittenSoFar fields sources own lazy relocations before (first_left later later.at) after 0 next
  record_more relocations before now after relative records later index next relative_is next_is len so_far first =
      let is : relative_word sources.of (relative_of (file_machine (object_file own))) first.relocation ≡ Some first.word = ap (λ row. relative_word sources.of row first.relocation) (sym relative_is) ∙ first.word_is in
      let parts = parts_of sources.of (relative_of (file_machine (object_file own))) first.relocation first.word is in
      let none : has_no_number first.word.value ≡ false = ap (λ (word : Word). has_no_number word.value) (sym parts.word_is) in
      let lacks : has_no_number first.word.value ≡ first.lacks =
      lacks_known first.word false (is_outside (image_start sources sources.of) (length now) first.word.address first.word.width) (is_copy_outside sources first.word.width first.word.value) first.lacks first.can_be in
      let item = written_item fields own sources.of lazy first.relocation first.word is in
      let can : Ok false ≡ write_item fields sources own lazy (length now) item =
      ap (λ b. Ok b) (sym none ∙ lacks) ∙ (sym first.can_be ∙ sym (same_write fields own sources.of lazy first.relocation first.word is sources (length now))) in
      more_written fields sources own lazy relocations before (first_left records records.at) (first_left later later.at) item now 0 index first.first so_far
      (relative_has fields (object_file own) own sources.of lazy first.relocation first.word is sources.objects.now) next next_is after false len can first.bytes

  -- the same relocations with others after them
  pub with_others : (relocations left others : List Relocation) (before after : List ℕ) (count index : ℕ)
      → IsWrittenSoFar fields sources own lazy relocations before left after count index
      → IsWrittenSoFar fields sources own lazy (relocations ++ others) before (left ++ others) after count index
  with_others relocations left others before after count index so_far = record {
    items = so_far.items;
    passed = so_far.passed;
    split = ap (λ some. some ++ others) so_far.split ∙ append_assoc (map relocation_of so_far.items) left others;
    written = so_far.written;
  }

  none_of : (found : ℕ) → 0 ≡ min found (2 ^ 64 - 1) → found ≡ 0
  none_of found is = omega (arith, is)

  -- a run after others
  pub run_written : (relocations left later : List Relocation) (before now after : List ℕ) (count index passed next : ℕ) → next ≡ min (index + passed) (2 ^ 64 - 1)
      → IsWrittenSoFar fields sources own lazy relocations before left now count index
      → IsWrittenSoFar fields sources own lazy left now later after 0 passed
      → IsWrittenSoFar fields sources own lazy relocations before later after count next
  run_written relocations left later before now after count index passed next next_is first second =
      let one = first.items in
      let two = second.items in
      let lengths = length-append one two in
      let none : count_by (λ item. lacks_number item.word) two ≡ 0 = none_of (count_by (λ item. lacks_number item.word) two) second.written.counted in
      let sum : count_by (λ item. lacks_number item.word) (one ++ two) ≡ count_by (λ item. lacks_number item.word) one + count_by (λ item. lacks_number item.word) two =
      sum_by-append (λ item. cond (lacks_number item.word) 1 0) one two in
      let same = first.written.same_size in record {
        items = one ++ two;
        passed = omega (arith, first.passed, second.passed, next_is, lengths);
        split = first.split ∙ ap (λ rest. map relocation_of one ++ rest) second.split ∙ sym (append_assoc (map relocation_of one) (map relocation_of two) later)
            ∙ ap (λ some. some ++ later) (sym (map-append relocation_of one two));
        written = record {
          have_words = All-append (HasWord fields sources.objects.now (object_file own) own sources.of lazy) one two first.written.have_words second.written.have_words;
          can_be = All-append (λ item. IsOk (write_item fields sources own lazy (length before) item)) one two first.written.can_be (subst (λ n. All (λ item. IsOk (write_item fields sources own lazy n item)) two) same second.written.can_be);
          counted = omega (arith, first.written.counted, sum, none);
          same_size = second.written.same_size ∙ same;
          bytes = λ i below. second.written.bytes i (subst (λ n. i < n) (sym same) below)
              ∙ ap (relocated_byte sources (image_start sources sources.of + i) two) (first.written.bytes i below)
              ∙ sym (bytes_more sources (image_start sources sources.of + i) one two (slice_index before i));
        };
      }

-- the object of an iterator is the one whose words are written
pub run_for : {E : Type 0} {r : _} (fields : E → SymbolFields) (sources : Sources E r) (own : DynamicObject E r) (lazy : Bool) (words : Words E r) (relocations left : List Relocation) (before after : List ℕ) (count index : ℕ)
    → AreWordsFor sources.objects.now own sources.of lazy words → IsWrittenSoFar fields sources words.own.now words.lazy relocations before left after count index
    → IsWrittenSoFar fields sources own lazy relocations before left after count index
run_for fields sources own lazy words relocations left before after count index are is =
    subst (λ later. IsWrittenSoFar fields sources own later relocations before left after count index) are.lazy_is
    (subst (λ object. IsWrittenSoFar fields sources object words.lazy relocations before left after count index) are.own_is is)

-- an item has its word by a later state of the iterator
pub still_last : {E : Type 0} {r : _} (fields : E → SymbolFields) (words later : Words E r) (last : Option (Relocated E)) → IsSame words later
    → IfSome last (HasWordOf fields words) → IfSome last (HasWordOf fields later)
still_last fields words later None same has = tt
still_last fields words later (Some item) same has =
    has_word_same fields item _ _ _ _ _ _ _ _ _ _ (ap (λ lent. lent.now) (sym same.0)) (sym same.1) (sym same.2) (sym same.3) (sym same.4) has
