-- The byte at an address that one word has.
use Rattle.std.proofs.Common.{◌≡◌, ℕ, ◌+◌, ◌<◌, ◌≤◌, Bool, true, false, List, [], ◌∷◌, length, map, slice_index, slice_get, Option, None, Some, Result, Ok, Err, if◌then◌else◌, cond, refl, sym, ap, ◌∙◌, arith, zero, suc, ◌-◌, ◌==◌, ◌&&◌, ◌||◌, ◌++◌, not, inl, inr, subst}
use Rattle.std.specs.Prelude.{IfOk, MatchResult, All, IfErr}
use Rattle.std.specs.List.{count_by, find, Contains}
use Rattle.std.specs.Borrow.{Bor}
use Rattle.elf_linking.specs.DynamicObject.{object_view, object_file}
use Rattle.elf_linking.specs.DynamicView.{view_entries}
use Rattle.elf_loading.specs.Types.{Binding, DynamicObject, LinkError, LoadError, Place, Relocated, Relocation, Word}
use Rattle.elf_linking.specs.declared.error.LinkError.TheVariants.{ObjectIndex}
use Rattle.elf_loading.specs.ImageWords.{MatchBoth, as_load_error, AreWordsApart, IsHeldByLoad, item_words}
use Rattle.elf_loading.specs.OneWord.{IsByOneWord, IsByOneWordIn, byte_by_item, is_of_word, is_over, plan_byte, HasErrorLeft, IsErrorLeft}
use Rattle.elf_loading.specs.Plan.{plan_loads, plan_span, plan_size}
use Rattle.elf_loading.specs.Relocate.{AreItemsWritten, IsRelocation, IsRelocationIn, IsWriting, all, is_wrong_size, relocated_byte, sized_relocations, some, sources_of, image_start, word_byte, has_no_number, is_copy_outside, is_outside, is_unresolved, write_item}
use Rattle.elf_loading.specs.Words.{binds_lazily, HasWord}
use Rattle.elf_loading.specs.WordsLeft.{relocation_of, own_relocations}
use Rattle.elf_loading.proofs.CheckedWords.{checked_once, count_first, same_word}
use Rattle.elf_loading.specs.declared.plan.LoadPlan.{LoadPlan}
use Rattle.elf_loading.specs.declared.relocate.Sources.{Sources}
use Rattle.xmas_elf.specs.Symbol.{SymbolFields}
use Rattle.std.proofs.lemmas.Bool.{cases_lt, eqb-true, le-ltb}
use Rattle.std.proofs.lemmas.List.Elements.{All-head, All-tail}
use Rattle.elf_base.specs.FirstError.{and_then, unless}
use Rattle.elf_loading.proofs.ImageLoads.{held_in_plan}
use Rattle.elf_loading.specs.declared.error.LoadError.TheVariants as error

module _ {E : Type 0} {r : _} (sources : Sources E r) (address : ℕ) where
  missed : (word : Result Word LoadError) (old : ℕ) → is_of_word address word ≡ false → word_byte sources address word old ≡ old
  missed (Ok word) old miss = rw miss refl
  missed (Err e) old miss = refl

  none_over : (items : List (Relocated E)) (old : ℕ) → count_by (is_over address) items ≡ 0 → relocated_byte sources address items old ≡ old
  unfolding relocated_byte
  none_over [] old none = refl
  none_over (item ∷ items) old none = by_first (is_over address item) refl (λ before. none_over items before)
    where
      by_first : (b : Bool) → is_over address item ≡ b → ((before : ℕ) → count_by (is_over address) items ≡ 0 → relocated_byte sources address items before ≡ before)
          → relocated_byte sources address items (word_byte sources address item.word old) ≡ old
      by_first true hit others =
          let count = count_first (is_over address) item items in
          let one : ◌≡◌ {A = ℕ} (cond (is_over address item) 1 0) 1 = rw hit refl in
          absurd (omega (arith, none, count, one))
      by_first false miss others =
          let count = count_first (is_over address) item items in
          let zero : ◌≡◌ {A = ℕ} (cond (is_over address item) 1 0) 0 = rw miss refl in
          ap (relocated_byte sources address items) (missed item.word old miss) ∙ others old (omega (arith, none, count, zero))

  -- where at most one word has the byte, it is the byte of this word
  pub relocated_once : (items : List (Relocated E)) (old : ℕ) → count_by (is_over address) items ≤ 1
      → relocated_byte sources address items old ≡ byte_by_item sources address (find (is_over address) items) old
  unfolding relocated_byte
  relocated_once [] old once = refl
  relocated_once (item ∷ items) old once = by_first (is_over address item) refl (λ before. relocated_once items before)
    where
      by_first : (b : Bool) → is_over address item ≡ b
          → ((before : ℕ) → count_by (is_over address) items ≤ 1 → relocated_byte sources address items before ≡ byte_by_item sources address (find (is_over address) items) before)
          → relocated_byte sources address items (word_byte sources address item.word old)
          ≡ byte_by_item sources address (if b then Some item else find (is_over address) items) old
      by_first true hit others =
          let count = count_first (is_over address) item items in
          let one : ◌≡◌ {A = ℕ} (cond (is_over address item) 1 0) 1 = rw hit refl in
          none_over items (word_byte sources address item.word old) (omega (arith, once, count, one))
      by_first false miss others =
          let count = count_first (is_over address) item items in
          let zero : ◌≡◌ {A = ℕ} (cond (is_over address item) 1 0) 0 = rw miss refl in
          ap (relocated_byte sources address items) (missed item.word old miss) ∙ others old (omega (arith, once, count, zero))

-- the relocations are those of the object
are_words : (wrong : Bool) (said : Result (List Relocation) LinkError) (relocations : List Relocation)
    → (if wrong then Err error.ImageSize else as_load_error said) ≡ Ok relocations → said ≡ Ok relocations
are_words true said relocations is = absurd (cc)
are_words false (Ok all_of) relocations is = cc
are_words false (Err e) relocations is = absurd (cc)

starts_at_plan : {E : Type 0} {r : _} (sources : Sources E r) (plan : LoadPlan) → slice_get sources.plans.now sources.of ≡ Some plan → image_start sources sources.of ≡ (plan_span plan).start
starts_at_plan sources plan there = rw there refl

module _ {E : Type 0} {r : _} (fields : E → SymbolFields) (sources : Sources E r) (own : DynamicObject E r) (plan : LoadPlan) (lazy : Bool) (before after : List ℕ) (there : slice_get sources.plans.now sources.of ≡ Some plan) where
  once_written : (items : List (Relocated E)) (count : ℕ) → own_relocations (Some own) ≡ Ok (map relocation_of items)
      → AreItemsWritten fields sources own lazy before after items count → IsByOneWord fields sources own plan lazy before after
  once_written items count are written =
      let start = image_start sources sources.of in
      let each : (i : ℕ) → i < length before → count_by (is_over (start + i)) items ≤ 1
      → slice_index after i ≡ byte_by_item sources (start + i) (find (is_over (start + i)) items) (slice_index before i)
      = λ i below once. written.bytes i below ∙ relocated_once sources (start + i) items (slice_index before i) once in record {
        items = items;
        are = are;
        have_words = written.have_words;
        bytes = each;
        of_plan = λ by image i below single.
            each i below single ∙ ap (byte_by_item sources (start + i) (find (is_over (start + i)) items))
            (image.bytes i below ∙ ap (λ s. plan_byte plan by (s + i)) (sym (starts_at_plan sources plan there)));
        once = λ law address. checked_once fields sources.objects.now own sources.of (plan_loads plan) lazy address items are written.have_words law;
      }

  once_by : (result : Result ℕ LoadError) (count : ℕ) (relocations : List Relocation) → result ≡ Ok count → own_relocations (Some own) ≡ Ok relocations
      → IsWriting fields sources own lazy relocations before after result → IsByOneWord fields sources own plan lazy before after
  once_by result count relocations ok are (all items number is written done) = once_written items number (are ∙ ap (λ rs. Ok rs) is) written
  once_by result count relocations ok are (some items number item rest reason is written has can_not stopped) = absurd (cc)

  pub once_of : (result : Result ℕ LoadError) → IsRelocation fields sources own plan lazy before after result
      → IfOk result (λ count. IsByOneWord fields sources own plan lazy before after)
  once_of (Err reason) relocation = tt
  once_of (Ok count) relocation = by_sizes (sized_relocations sources own plan (length before)) refl relocation
    where
      by_sizes : (sized : Result (List Relocation) LoadError) → sized_relocations sources own plan (length before) ≡ sized
          → MatchResult sized (λ relocations. IsWriting fields sources own lazy relocations before after (Ok count)) (λ reason. (Ok count ≡ Err reason) × (after ≡ before))
          → IsByOneWord fields sources own plan lazy before after
      by_sizes (Ok relocations) is writing =
          once_by (Ok count) count relocations refl (are_words (is_wrong_size sources plan (length before)) (own_relocations (Some own)) relocations is) writing
      by_sizes (Err reason) is (failed, same) = absurd (cc)

-- the relocation of an image keeps its length
module _ {E : Type 0} {r : _} (fields : E → SymbolFields) (before after : List ℕ) (sources : Sources E r) (own : DynamicObject E r) (plan : LoadPlan) (lazy : Bool) (result : Result ℕ LoadError) where
  pub kept_size : IsRelocation fields sources own plan lazy before after result → length after ≡ length before
  kept_size relocation = by_sizes (sized_relocations sources own plan (length before)) relocation
    where
      by_writing : (relocations : List Relocation) → IsWriting fields sources own lazy relocations before after result → length after ≡ length before
      by_writing relocations (all items number is written done) = written.same_size
      by_writing relocations (some items number item rest reason is written has can_not stopped) = written.same_size

      by_sizes : (sized : Result (List Relocation) LoadError)
          → MatchResult sized (λ relocations. IsWriting fields sources own lazy relocations before after result) (λ reason. (result ≡ Err reason) × (after ≡ before))
          → length after ≡ length before
      by_sizes (Ok relocations) writing = by_writing relocations writing
      by_sizes (Err reason) (failed, same) = ap length same

-- The object and the plan at an index of a scope.

module _ {E : Type 0} {r : _} (fields : E → SymbolFields) (objects : Bor (List (DynamicObject E r))) (plans : Bor (List LoadPlan)) (of : ℕ) (when : Binding) (places : Bor (List Place)) (images : Bor (List (Bor (List ℕ)))) (before after : List ℕ) where
  abbrev lazy_of : DynamicObject E r → Bool
  lazy_of own = binds_lazily (view_entries (object_view own)) when

  abbrev IsDone : Option (DynamicObject E r) → Option LoadPlan → Result ℕ LoadError → Type 0
  IsDone own plan result = MatchBoth own plan ((result ≡ Err (error.Link ObjectIndex)) × (after ≡ before))
      (λ own plan. IsRelocation fields (sources_of objects plans of places images own) own plan (lazy_of own) before after result)

  once_at : (own : Option (DynamicObject E r)) (plan : Option LoadPlan) (result : Result ℕ LoadError) → slice_get plans.now of ≡ plan → IsDone own plan result
      → IfOk result (λ count. MatchBoth own plan ⊥ (λ own plan. IsByOneWord fields (sources_of objects plans of places images own) own plan (lazy_of own) before after))
  once_at own plan (Err reason) there relocation = tt
  once_at None plan (Ok count) there (failed, same) = absurd (cc)
  once_at (Some own) None (Ok count) there (failed, same) = absurd (cc)
  once_at (Some own) (Some plan) (Ok count) there relocation =
      once_of fields (sources_of objects plans of places images own) own plan (lazy_of own) before after there (Ok count) relocation

  kept_at : (own : Option (DynamicObject E r)) (plan : Option LoadPlan) (result : Result ℕ LoadError) → IsDone own plan result → length after ≡ length before
  kept_at None plan result (failed, same) = ap length same
  kept_at (Some own) None result (failed, same) = ap length same
  kept_at (Some own) (Some plan) result relocation =
      kept_size fields before after (sources_of objects plans of places images own) own plan (lazy_of own) result relocation

  pub once_in : (result : Result ℕ LoadError) → IsRelocationIn fields objects plans of when places images before after result
      → IfOk result (λ count. IsByOneWordIn fields objects plans of when places images before after)
  once_in result relocation = once_at (slice_get objects.now of) (slice_get plans.now of) result refl relocation

  pub kept_in : (result : Result ℕ LoadError) → IsRelocationIn fields objects plans of when places images before after result → length after ≡ length before
  kept_in result relocation = kept_at (slice_get objects.now of) (slice_get plans.now of) result relocation

-- The errors that are left where the words of an object were checked.

-- A word in a load of the span is in its image.

none_outside : (some before behind : Bool) → before ≡ false → behind ≡ false → (some && (before || behind)) ≡ false
none_outside true before behind one other = rw (one, other) refl
none_outside false before behind one other = refl

word_inside : (start end len : ℕ) (word : Word) → len ≡ end - start → start ≤ word.address → word.address + word.width ≤ end → is_outside start len word.address word.width ≡ false
word_inside start end len word size from to =
    none_outside (not (word.width == 0)) _ _ (le-ltb word.address start (omega (arith, from)))
    (le-ltb (start + len) (word.address + word.width) (omega (arith, from, to, size)))

first_false : (one other : Bool) → (one || other) ≡ false → one ≡ false
first_false true other is = absurd (cc)
first_false false other is = refl

not_false : (one : Bool) → not one ≡ false → one ≡ true
not_false true is = refl
not_false false is = absurd (cc)

-- The reason why an item can't be written.

reason_left : (word : Word) (reason : LoadError) (unresolved outside copied : Bool) → outside ≡ false
    → ◌≡◌ {A = Result Bool LoadError} (if unresolved then Err error.Unresolved else unless ((outside, error.WordAddress) ∷ (copied, error.CopySource) ∷ []) (has_no_number word.value)) (Err reason)
    → IsErrorLeft reason
reason_left word reason true outside copied inside is = inr (inl (cc))
reason_left word reason false true copied inside is = absurd (cc)
reason_left word reason false false true inside is = inr (inr (cc))
reason_left word reason false false false inside is = absurd (cc)

module _ {E : Type 0} {r : _} (fields : E → SymbolFields) (sources : Sources E r) (own : DynamicObject E r) (plan : LoadPlan) (before after : List ℕ) (there : slice_get sources.plans.now sources.of ≡ Some plan) where
  abbrev worded : Relocated E → Type 0
  worded item = HasWord fields sources.objects.now (object_file own) own sources.of false item

  -- the item of a relocation that was checked, and its word
  pub record Placed (words : List Word) (relocation : Relocation) : Type 0 where
    pub one : Relocated E
    pub word : Word
    pub same : one.relocation ≡ relocation
    pub known : one.word ≡ Ok word
    pub place : Contains words word
    pub has : worded one

  pub at_place : (firsts : List Relocation) (relocation : Relocation) (rest : List Relocation) (checked : List (Relocated E)) (words : List Word)
      → map relocation_of checked ≡ firsts ++ (relocation ∷ rest) → item_words checked ≡ map (λ word. Ok word) words → All worded checked → Placed words relocation
  at_place [] relocation rest [] words same known has = absurd (cc)
  at_place [] relocation rest (one ∷ checked) [] same known has = absurd (cc)
  at_place [] relocation rest (one ∷ checked) (word ∷ words) same known has =
      record { one = one; word = word; same = cc; known = cc; place = (zero, omega arith, refl); has = All-head worded one checked has }
  at_place (first ∷ firsts) relocation rest [] words same known has = absurd (cc)
  at_place (first ∷ firsts) relocation rest (one ∷ checked) [] same known has = absurd (cc)
  at_place (first ∷ firsts) relocation rest (one ∷ checked) (word ∷ words) same known has =
      let others : map relocation_of checked ≡ firsts ++ (relocation ∷ rest) = cc in
      let words_are : item_words checked ≡ map (λ some. Ok some) words = cc in
      let found = at_place firsts relocation rest checked words others words_are (All-tail worded one checked has) in
      let (k, below, is) = found.place in
      record { one = found.one; word = found.word; same = found.same; known = found.known; place = (suc k, omega (arith, below), is); has = found.has }

  module _ (law : AreWordsApart fields sources.objects.now sources.of own (plan_loads plan)) (right : is_wrong_size sources plan (length before) ≡ false) where
    size_is : length before ≡ plan_size plan
    size_is =
        let count = length sources.objects.now in
        let others = not (length sources.plans.now == count) || (not (length sources.places.now == count) || not (length sources.images.now == count)) in
        eqb-true (length before) (plan_size plan) (not_false (length before == plan_size plan) (first_false (not (length before == plan_size plan)) others right))

    inside_some : (word : Word) → IsHeldByLoad (plan_loads plan) word → is_outside (image_start sources sources.of) (length before) word.address word.width ≡ false
    inside_some word (load, has, begins, ends) =
        let (from, to) = held_in_plan plan word load has (record { begins = begins; ends = ends }) in
        subst (λ start. is_outside start (length before) word.address word.width ≡ false) (sym (starts_at_plan sources plan there))
        (word_inside (plan_span plan).start (plan_span plan).end (length before) word size_is from to)

    pub inside : (word : Word) → Contains law.words word → is_outside (image_start sources sources.of) (length before) word.address word.width ≡ false
    inside word has = elim (cases_lt 0 word.width) [
      | inl above ↦ inside_some word (law.held word has above)
      | inr none ↦ (let zero_is : ◌≡◌ {A = ℕ} word.width 0 = omega (arith, none) in rw zero_is refl)
    ]

    item_left : (item : Relocated E) (word : Word) (reason : LoadError) → item.word ≡ Ok word → is_outside (image_start sources sources.of) (length before) word.address word.width ≡ false
        → write_item fields sources own false (length before) item ≡ Err reason → IsErrorLeft reason
    item_left item word reason known inside_is is =
        let step : Result Word LoadError → Result Bool LoadError = λ some_word. and_then some_word (λ w. if is_unresolved fields own false item then Err error.Unresolved
        else unless ((is_outside (image_start sources sources.of) (length before) w.address w.width, error.WordAddress) ∷ (is_copy_outside sources w.width w.value, error.CopySource) ∷ []) (has_no_number w.value)) in
        reason_left word reason (is_unresolved fields own false item) (is_outside (image_start sources sources.of) (length before) word.address word.width) (is_copy_outside sources word.width word.value) inside_is
        (ap step (sym known) ∙ is)

    writing_left : (reason : LoadError) (relocations : List Relocation) (result : Result ℕ LoadError) → result ≡ Err reason → own_relocations (Some own) ≡ Ok relocations → IsWriting fields sources own false relocations before after result → IsErrorLeft reason
    writing_left reason relocations result error_is are (all items count is written done) = absurd (cc)
    writing_left reason relocations result error_is are (some items count item rest why is written has can_not stopped) =
        let same : map relocation_of law.items ≡ map relocation_of items ++ (item.relocation ∷ rest) = by_ok (sym law.relocations_are ∙ are) ∙ is in
        let found = at_place (map relocation_of items) item.relocation rest law.items law.words same law.words_are law.have_words in
        let word_is = same_word fields sources.objects.now own sources.of item found.one (sym found.same) has found.has in
        let reason_is : why ≡ reason = cc in
        subst IsErrorLeft reason_is (item_left item found.word why (word_is ∙ found.known) (inside found.word found.place) can_not)
      where
        by_ok : {A B : Type 0} {x y : A} → ◌≡◌ {A = Result A B} (Ok x) (Ok y) → x ≡ y
        by_ok is = cc

  abbrev IsSized : Result ℕ LoadError → Result (List Relocation) LoadError → Type 0
  IsSized result said = MatchResult said (λ relocations. IsWriting fields sources own false relocations before after result) (λ why. (result ≡ Err why) × (after ≡ before))

  -- a relocation of words that are apart: of wrong sizes, or by the words that were checked
  pub by_sizes : (Holds : Type 0) (result : Result ℕ LoadError) (law : AreWordsApart fields sources.objects.now sources.of own (plan_loads plan))
      → (is_wrong_size sources plan (length before) ≡ true → result ≡ Err error.ImageSize → after ≡ before → Holds)
      → (is_wrong_size sources plan (length before) ≡ false → IsWriting fields sources own false (map relocation_of law.items) before after result → Holds)
      → IsRelocation fields sources own plan false before after result → Holds
  by_sizes Holds result law wrong right relocation = by_size (is_wrong_size sources plan (length before)) refl
    where
      by_size : (b : Bool) → is_wrong_size sources plan (length before) ≡ b → Holds
      by_size true is =
          let sized : sized_relocations sources own plan (length before) ≡ Err error.ImageSize = rw is refl in
          let (failed, same) = subst (IsSized result) sized relocation in
          wrong is failed same
      by_size false is =
          let sized : sized_relocations sources own plan (length before) ≡ Ok (map relocation_of law.items) = rw (is, law.relocations_are) refl in
          right is (subst (IsSized result) sized relocation)

  error_left : (reason : LoadError) → AreWordsApart fields sources.objects.now sources.of own (plan_loads plan) → IsRelocation fields sources own plan false before after (Err reason) → IsErrorLeft reason
  error_left reason law = by_sizes (IsErrorLeft reason) (Err reason) law (λ is failed same. inl (cc))
      (λ is writing. writing_left law is reason (map relocation_of law.items) (Err reason) refl law.relocations_are writing)

module _ {E : Type 0} {r : _} (fields : E → SymbolFields) (objects : Bor (List (DynamicObject E r))) (plans : Bor (List LoadPlan)) (of : ℕ) (when : Binding) (places : Bor (List Place)) (images : Bor (List (Bor (List ℕ)))) (before after : List ℕ) where
  left_at : (own : Option (DynamicObject E r)) (plan : Option LoadPlan) (reason : LoadError) → slice_get plans.now of ≡ plan
      → MatchBoth own plan ((◌≡◌ {A = Result ℕ LoadError} (Err reason) (Err (error.Link ObjectIndex))) × (after ≡ before))
      (λ own plan. IsRelocation fields (sources_of objects plans of places images own) own plan (binds_lazily (view_entries (object_view own)) when) before after (Err reason))
      → MatchBoth own plan (reason ≡ error.Link ObjectIndex)
      (λ own plan. AreWordsApart fields objects.now of own (plan_loads plan) → binds_lazily (view_entries (object_view own)) when ≡ false → IsErrorLeft reason)
  left_at None plan reason there (failed, same) = cc
  left_at (Some own) None reason there (failed, same) = cc
  left_at (Some own) (Some plan) reason there relocation = λ law now.
      let from = sources_of objects plans of places images own in
      error_left fields from own plan before after there reason law
      (subst (λ later. IsRelocation fields from own plan later before after (Err reason)) now relocation)

  pub error_in : (result : Result ℕ LoadError) → IsRelocationIn fields objects plans of when places images before after result → IfErr result (HasErrorLeft fields objects.now plans.now of when)
  error_in (Ok count) relocation = tt
  error_in (Err reason) relocation = left_at (slice_get objects.now of) (slice_get plans.now of) reason refl relocation
