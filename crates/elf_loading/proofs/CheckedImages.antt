-- The words of an image by the lists of its object, and the bytes that they leave.
use Rattle.std.proofs.Common.{◌≡◌, ℕ, ◌+◌, ◌-◌, ◌<◌, ◌≤◌, Bool, true, false, List, [], ◌∷◌, length, map, slice_index, slice_get, Option, None, Some, Result, Ok, Err, if◌then◌else◌, refl, sym, ap, ◌∙◌, subst}
use Rattle.std.proofs.lemmas.Bool.{le-leb, leb-true}
use Rattle.std.proofs.lemmas.List.Elements.{All-head, All-tail}
use Rattle.std.proofs.lemmas.Option.{slice_get-map}
use Rattle.std.specs.Borrow.{Bor}
use Rattle.std.specs.List.{count_by, find}
use Rattle.std.specs.Prelude.{All, filter_map, option_map, unwrap_or}
use Rattle.std.specs.Result.{result_ok}
use base.SetCodes.{SetCoded-set, coded}
use base.Stored.{Coded}
use mathlib.Core.Logic.{∥∥₁_elim}
use Rattle.std.specs.Coded.{codes}
use Rattle.elf_base.specs.FirstError.{unless}
use Rattle.elf_linking.specs.CheckedScope.{bound_fields, bound_in}
use Rattle.elf_linking.specs.DynamicObject.{object_dynamic_symbols, object_file, object_records}
use Rattle.elf_linking.specs.Exports.{SymbolParts, symbol_parts}
use Rattle.elf_linking.specs.References.{file_machine}
use Rattle.elf_linking.specs.RelocationTypes.{row_of}
use Rattle.elf_linking.specs.Scope.{AreGood}
use Rattle.elf_loading.specs.Types.{Bound, DynamicObject, Formula, LinkError, Loader, Place, Reference, Relocated, Relocation, Terms, Value, Word}
use Rattle.elf_linking.specs.declared.references.types.Formula.TheVariants as formulas
use Rattle.elf_linking.proofs.lemmas.CheckedBound.{own_symbols, reference_is}
use Rattle.elf_base.specs.Table.{table_items}
use Rattle.elf_loading.specs.Bytes.{byte_number, byte_of}
use Rattle.elf_loading.specs.CheckedImage.{ImageParts, IsCheckedImage, IsMappedImage, AreWordsWritten, addend_in, byte_under, image_at_index, image_parts, image_words, relocated_at, start_in, symbol_for, with_addend, word_by, word_for, written_byte}
use Rattle.elf_loading.specs.ImageWords.{AreWritten, MatchBoth, covers, item_words}
use Rattle.elf_loading.specs.OneWord.{IsByOneWord, IsByOneWordIn, byte_by_item, is_of_word, is_over}
use Rattle.elf_loading.specs.Plan.{plan_loads, plan_size, plan_span}
use Rattle.elf_loading.specs.Relocate.{image_in, plan_start, sources_of, image_start, value_byte, word_byte}
use Rattle.elf_loading.specs.Values.{bytes_of, value_of}
use Rattle.elf_loading.specs.Words.{HasWord, IsBoundIf, addend_of, and_link, formula_word, own_size, size_in_own, formula_has_symbol, takes_symbol, value_rows, value_word}
use Rattle.elf_loading.specs.WordsLeft.{relocation_of}
use Rattle.elf_loading.specs.declared.plan.LoadPlan.{LoadPlan}
use Rattle.elf_loading.specs.declared.relocate.Sources.{Sources}
use Rattle.elf_loading.specs.declared.value.Value.TheVariants as values
use Rattle.elf_loading.specs.declared.words.Binding.TheVariants.{Now}
use Rattle.elf_loading.proofs.LoadChecks.{unless_ok}
use Rattle.elf_loading.proofs.CheckedWords.{apart_once, same_word}
use Rattle.xmas_elf.specs.Symbol.{SymbolFields}

-- a value by the fields of a symbol is the one by the symbol
module _ {E : Type 0} (fields : E → SymbolFields) (terms : Terms) where
  abbrev SameValue : Option (Bound E) → Formula → Type 0
  SameValue bound formula = value_of fields terms bound formula ≡ value_of (λ symbol. symbol) terms (bound_fields fields bound) formula

  same_value : (bound : Option (Bound E)) (formula : Formula) → SameValue bound formula
  same_value bound formulas.Unchanged = refl
  same_value None _ = refl
  same_value (Some b) _ = refl

  abbrev word_with : Value → Word
  word_with value = record { address = terms.address; width = bytes_of terms.width value; value = value }

  word_by_fields : (bound : Option (Bound E)) (formula : Formula) → value_word fields terms bound formula ≡ value_word (λ symbol. symbol) terms (bound_fields fields bound) formula
  word_by_fields bound formula = ap word_with (same_value bound formula)

module _ {E : Type 0} {r : _} (fields : E → SymbolFields) (objects : List (DynamicObject E r)) (plans : List LoadPlan) (index : ℕ) (own : DynamicObject E r) (plan : LoadPlan) where
  abbrev parts : ImageParts
  parts = image_parts fields objects plans index own plan

  abbrev Worded : Relocated E → Type 0
  Worded item = HasWord fields objects (object_file own) own index false item

  size_by : (symbol : ℕ) (found : Option E) → size_in_own fields found ≡ size_in_own (λ (s : SymbolParts). s.fields) (option_map (symbol_parts (object_dynamic_symbols fields own) symbol) found)
  size_by symbol None = refl
  size_by symbol (Some one) = refl

  size_is : (symbol : ℕ) → own_size fields own symbol ≡ size_in_own (λ (s : SymbolParts). s.fields) (slice_get parts.own.symbols symbol)
  size_is symbol = size_by symbol (slice_get (table_items (object_records own)) symbol) ∙ ap (size_in_own (λ (s : SymbolParts). s.fields)) (sym (own_symbols fields own symbol))

  -- the same items of the same relocations
  pub same_words : (items checked : List (Relocated E)) → map relocation_of items ≡ map relocation_of checked → All Worded items → All Worded checked → item_words items ≡ item_words checked
  same_words [] [] same has also = refl
  same_words [] (one ∷ checked) same has also = absurd (cc)
  same_words (item ∷ items) [] same has also = absurd (cc)
  same_words (item ∷ items) (one ∷ checked) same has also =
      let first : item.relocation ≡ one.relocation = cc in
      let rest : map relocation_of items ≡ map relocation_of checked = cc in
      let word_is = same_word fields objects own index item one first (All-head Worded item items has) (All-head Worded one checked also) in
      let more = same_words items checked rest (All-tail Worded item items has) (All-tail Worded one checked also) in
      ap (λ word. word ∷ item_words items) word_is ∙ ap (λ words. one.word ∷ words) more

  module _ (law : IsCheckedImage fields objects plans index own plan) where
    pub symbol_is : (takes : Bool) (reference : Reference) (symbol : Option (Bound E)) → IsBoundIf takes fields objects index reference (Ok symbol)
        → bound_fields fields symbol ≡ (if takes then bound_in parts.objects index reference else None)
    symbol_is true reference symbol is = reference_is fields objects law.good index reference symbol is
    symbol_is false reference symbol is = let same : symbol ≡ None = cc in ap (bound_fields fields) same

    module _ (relocation : Relocation) (word : Word) where
      abbrev reference_by : Option Formula → Reference
      reference_by formula = record {
        offset = relocation.reference.offset;
        kind = relocation.reference.kind;
        symbol = relocation.reference.symbol;
        addend = addend_in own relocation formula;
      }

      abbrev WordIs : Option Formula → Type 0
      WordIs formula = option_map (word_by parts (reference_by formula)) formula ≡ Some word

      abbrev terms_by : ℕ → ℕ → Terms
      terms_by addend size = record {
        own = index;
        address = relocation.reference.offset;
        addend = addend;
        size = size;
        width = (row_of (file_machine (object_file own)) relocation.reference.kind).width;
      }

      word_by_parts : (formula : Formula) (said : Result ℕ LinkError) (found : Result (Option (Bound E)) LinkError)
          → addend_of (object_file own) relocation.in_place formula relocation.reference ≡ said → IsBoundIf (takes_symbol formula) fields objects index relocation.reference found
          → and_link said (λ addend. and_link found (λ symbol. unless (value_rows fields relocation.reference.symbol symbol formula) (value_word fields (terms_by addend (own_size fields own relocation.reference.symbol)) symbol formula))) ≡ Ok word
          → WordIs (Some formula)
      word_by_parts formula (Err error) found said_is bound is = absurd (cc)
      word_by_parts formula (Ok addend) (Err error) said_is bound is = absurd (cc)
      word_by_parts formula (Ok addend) (Ok symbol) said_is bound is =
          let (none, made) = unless_ok (value_rows fields relocation.reference.symbol symbol formula) (value_word fields (terms_by addend (own_size fields own relocation.reference.symbol)) symbol formula) word is in
          let addend_is : unwrap_or (result_ok (addend_of (object_file own) relocation.in_place formula relocation.reference)) 0 ≡ addend = ap (λ s. unwrap_or (result_ok s) 0) said_is in
          let size = size_is relocation.reference.symbol in
          let symbols = symbol_is (takes_symbol formula) relocation.reference symbol bound in
          ap (λ (w : Word). Some w) (
          ap (λ a. value_word (λ symbol. symbol) (terms_by a (size_in_own (λ (s : SymbolParts). s.fields) (slice_get parts.own.symbols relocation.reference.symbol)))
          (symbol_for parts relocation.reference formula) formula) addend_is
          ∙ ap (λ n. value_word (λ symbol. symbol) (terms_by addend n) (symbol_for parts relocation.reference formula) formula) (sym size)
          ∙ ap (λ b. value_word (λ symbol. symbol) (terms_by addend (own_size fields own relocation.reference.symbol)) b formula) (sym symbols)
          ∙ sym (word_by_fields fields (terms_by addend (own_size fields own relocation.reference.symbol)) symbol formula) ∙ made)

      word_by_formula : (formula : Option Formula) (bound : Result (Option (Bound E)) LinkError) → IsBoundIf (formula_has_symbol formula) fields objects index relocation.reference bound
          → formula_word fields (object_file own) own index relocation.in_place relocation.reference bound formula ≡ Ok word → WordIs formula
      word_by_formula None bound has is = absurd (cc)
      word_by_formula (Some formula) bound has is =
          word_by_parts formula (addend_of (object_file own) relocation.in_place formula relocation.reference) bound refl has is

    pub item_word : (item : Relocated E) (word : Word) → Worded item → item.word ≡ Ok word → word_for parts (with_addend own item.relocation) ≡ Some word
    item_word item word (bound, word_is) known =
        let formula = (row_of (file_machine (object_file own)) item.relocation.reference.kind).formula in
        word_by_formula item.relocation word formula item.bound bound (sym word_is ∙ known)

    words_by : (items : List (Relocated E)) (words : List Word) → All Worded items → item_words items ≡ map (λ word. Ok word) words
        → filter_map (word_for parts) (map (with_addend own) (map relocation_of items)) ≡ words
    words_by [] [] has are = refl
    words_by [] (word ∷ words) has are = absurd (cc)
    words_by (item ∷ items) [] has are = absurd (cc)
    words_by (item ∷ items) (word ∷ words) has are =
        let first : item.word ≡ Ok word = cc in
        let rest : item_words items ≡ map (λ some. Ok some) words = cc in
        let one = item_word item word (All-head Worded item items has) first in
        let more = words_by items words (All-tail Worded item items has) rest in
        rw one (ap (λ others. word ∷ others) more)

    -- the words by the lists are those that were checked
    pub image_words_are : image_words parts ≡ law.apart.words
    image_words_are =
        ap (λ said. filter_map (word_for parts) (map (with_addend own) (unwrap_or (result_ok said) []))) law.apart.relocations_are
        ∙ words_by law.apart.items law.apart.words law.apart.have_words law.apart.words_are

    pub words_once : (address : ℕ) → count_by (covers address) (image_words parts) ≤ 1
    words_once address = subst (λ words. count_by (covers address) words ≤ 1) (sym image_words_are) (apart_once fields objects own index (plan_loads plan) address law.apart)

-- The bytes that the words leave.

module _ {E : Type 0} {r : _} (fields : E → SymbolFields) (objects : Bor (List (DynamicObject E r))) (plans : Bor (List LoadPlan)) (index : ℕ) (own : DynamicObject E r) (plan : LoadPlan) (places : Bor (List Place)) (images : Bor (List (Bor (List ℕ)))) where
  abbrev lists : ImageParts
  lists = image_parts fields objects.now plans.now index own plan

  abbrev sources : Sources E r
  sources = sources_of objects plans index places images own

  start_by : (found : Option LoadPlan) → plan_start found ≡ unwrap_or (option_map (λ plan. (plan_span plan).start) found) 0
  start_by None = refl
  start_by (Some plan) = refl

  pub start_is : (object : ℕ) → image_start sources object ≡ start_in lists object
  start_is object = start_by (slice_get plans.now object) ∙ ap (λ found. unwrap_or found 0) (sym (slice_get-map (λ plan. (plan_span plan).start) plans.now object))

  value_is : (width : ℕ) (value : Value) (j old : ℕ) → value_byte sources width value j old ≡ written_byte lists places.now images.now width value j old
  value_is width (values.Copy object offset size) j old = ap (λ start. slice_index (image_in (slice_get images.now object)) (offset - start + j)) (start_is object)
  value_is width _ j old = refl

  pub byte_is : (address : ℕ) (items : List (Relocated E)) (words : List Word) → item_words items ≡ map (λ word. Ok word) words → (old : ℕ)
      → byte_by_item sources address (find (is_over address) items) old ≡ byte_under lists places.now images.now address (find (covers address) words) old
  byte_is address [] [] are old = refl
  byte_is address [] (word ∷ words) are old = absurd (cc)
  byte_is address (item ∷ items) [] are old = absurd (cc)
  byte_is address (item ∷ items) (word ∷ words) are old =
      let first : item.word ≡ Ok word = cc in
      let rest : item_words items ≡ map (λ some. Ok some) words = cc in
      by_first (covers address word) refl (ap (is_of_word address) first) (ap (λ w. word_byte sources address w old) first) (byte_is address items words rest old)
    where
      by_first : (hit : Bool) → covers address word ≡ hit → is_over address item ≡ covers address word → word_byte sources address item.word old ≡ word_byte sources address (Ok word) old
          → byte_by_item sources address (find (is_over address) items) old ≡ byte_under lists places.now images.now address (find (covers address) words) old
          → byte_by_item sources address (find (is_over address) (item ∷ items)) old ≡ byte_under lists places.now images.now address (find (covers address) (word ∷ words)) old
      by_first true hit same written more = rw (same ∙ hit, hit) (written ∙ rw hit (value_is word.width word.value (address - word.address) old))
      by_first false miss same written more = rw (same ∙ miss, miss) more

  bytes_by : (lazy : Bool) → lazy ≡ false → IsCheckedImage fields objects.now plans.now index own plan → (before after : List ℕ) → IsByOneWord fields sources own plan lazy before after
      → (i : ℕ) → i < length before → slice_index after i ≡ relocated_at lists places.now images.now (image_words lists) (start_in lists index + i) (slice_index before i)
  bytes_by true now law before after one i below = absurd (cc)
  bytes_by false now law before after one i below =
      let by_ok : map relocation_of one.items ≡ map relocation_of law.apart.items = let same = sym one.are ∙ law.apart.relocations_are in cc in
      let words = same_words fields objects.now plans.now index own plan one.items law.apart.items by_ok one.have_words law.apart.have_words ∙ law.apart.words_are in
      let address = image_start sources index + i in
      one.bytes i below (one.once law.apart address)
      ∙ byte_is address one.items law.apart.words words (slice_index before i)
      ∙ ap (λ all. byte_under lists places.now images.now address (find (covers address) all) (slice_index before i)) (sym (image_words_are fields objects.now plans.now index own plan law))
      ∙ ap (λ start. relocated_at lists places.now images.now (image_words lists) (start + i) (slice_index before i)) (start_is index)

  both : {A B : Type 0} (one : Option A) (other : Option B) (a : A) (b : B) (Holds : A → B → Type 0) → one ≡ Some a → other ≡ Some b → MatchBoth one other ⊥ Holds → Holds a b
  both one other a b Holds is also holds = subst (λ found. MatchBoth (Some a) found ⊥ Holds) also (subst (λ found. MatchBoth found other ⊥ Holds) is holds)

  abbrev pub Known : Type 0
  Known = ∥ IsCheckedImage fields objects.now plans.now index own plan ∥₁

  bytes_in : Known → (before after : List ℕ) → IsByOneWordIn fields objects plans index Now places images before after
      → (i : ℕ) → i < length before → slice_index after i ≡ relocated_at lists places.now images.now (image_words lists) (start_in lists index + i) (slice_index before i)
  bytes_in known before after done i below = let code : Coded ℕ = hlevel (codes) in
      ∥∥₁_elim known (SetCoded-set (coded code) _ _) (λ law. bytes_by false refl law before after (
      both (slice_get objects.now index) (slice_get plans.now index) own plan
      (λ own plan. IsByOneWord fields (sources_of objects plans index places images own) own plan false before after) law.own_is law.plan_is done) i below)

  pub relocated_in : Known → (before after : List ℕ) → length after ≡ length before → IsByOneWordIn fields objects plans index Now places images before after
      → AreWordsWritten lists places.now images.now (image_words lists) before after
  relocated_in known before after same done = let bytes = bytes_in known before after done in record {
    size = same;
    bytes = bytes;
    of_plan = λ by mapped i below. bytes i below ∙ ap (relocated_at lists places.now images.now (image_words lists) (start_in lists index + i)) (mapped.bytes i below);
  }

-- the object and the plan at an index of a scope, as lists
pub at_index : {E : Type 0} {r : _} (fields : E → SymbolFields) (objects : List (DynamicObject E r)) (plans : List LoadPlan) (index : ℕ) (own : DynamicObject E r) (plan : LoadPlan)
    → slice_get objects index ≡ Some own → slice_get plans index ≡ Some plan → image_at_index fields objects plans index ≡ Some (image_parts fields objects plans index own plan)
at_index fields objects plans index own plan is also = rw (is, also) refl

pub at_known : {E : Type 0} {r : _} (fields : E → SymbolFields) (objects : List (DynamicObject E r)) (plans : List LoadPlan) (index : ℕ) (own : DynamicObject E r) (plan : LoadPlan)
    → ∥ IsCheckedImage fields objects plans index own plan ∥₁ → image_at_index fields objects plans index ≡ Some (image_parts fields objects plans index own plan)
at_known fields objects plans index own plan known = let code : Coded (Option ImageParts) = hlevel (codes) in
    ∥∥₁_elim known (SetCoded-set (coded code) _ _) (λ law. at_index fields objects plans index own plan law.own_is law.plan_is)

-- a checked scope whose object at an index passes the check of its image
pub known_by : {E : Type 0} {r : _} (size : ℕ) (fields : E → SymbolFields) (objects : List (DynamicObject E r)) (plans : List LoadPlan) (index : ℕ) (own : DynamicObject E r) (plan : LoadPlan)
    → AreGood fields objects → slice_get objects index ≡ Some own → slice_get plans index ≡ Some plan
    → MatchBoth (slice_get objects index) (slice_get plans index) ⊥ (AreWritten size fields objects index) → IsCheckedImage fields objects plans index own plan
known_by size fields objects plans index own plan good is also passes =
    let written : AreWritten size fields objects index own plan = rw (is, also) at passes in
    record { good = good; own_is = is; plan_is = also; apart = written.apart }

-- an image that a plan fills is mapped by its lists
pub mapped_known : {E : Type 0} {r : _} (fields : E → SymbolFields) (objects : List (DynamicObject E r)) (plans : List LoadPlan) (index : ℕ) (own : DynamicObject E r) (plan : LoadPlan) (by : Loader) (image : List ℕ)
    → ∥ IsCheckedImage fields objects plans index own plan ∥₁ → length image ≡ plan_size plan
    → ((i : ℕ) → i < length image → slice_index image i ≡ byte_number plan.input.now (byte_of plan.page by (length plan.input.now) ((plan_span plan).start + i) (plan_loads plan)))
    → IsMappedImage (image_parts fields objects plans index own plan) by image
mapped_known fields objects plans index own plan by image known size bytes = let code : Coded ℕ = hlevel (codes) in record {
  size = size;
  bytes = λ i below. ∥∥₁_elim known (SetCoded-set (coded code) _ _) (λ law. bytes i below ∙ ap (λ start. byte_number plan.input.now (byte_of plan.page by (length plan.input.now) (start + i) (plan_loads plan)))
      (sym (ap (λ found. unwrap_or found 0) (slice_get-map (λ plan. (plan_span plan).start) plans index ∙ ap (option_map (λ plan. (plan_span plan).start)) law.plan_is))));
}

pub once_in : {E : Type 0} {r : _} (fields : E → SymbolFields) (objects : List (DynamicObject E r)) (plans : List LoadPlan) (index : ℕ) (own : DynamicObject E r) (plan : LoadPlan)
    → ∥ IsCheckedImage fields objects plans index own plan ∥₁ → (address : ℕ) → count_by (covers address) (image_words (image_parts fields objects plans index own plan)) ≤ 1
once_in fields objects plans index own plan known address =
    let count = count_by (covers address) (image_words (image_parts fields objects plans index own plan)) in
    let code : Coded Bool = hlevel (codes) in
    leb-true count 1 (∥∥₁_elim known (SetCoded-set (coded code) _ _) (λ law. le-leb count 1 (words_once fields objects plans index own plan law address)))
