-- The values of an array, and its functions.
use Rattle.std.proofs.Common.{◌≡◌, ◌<◌, ◌+◌, ◌++◌, ◌∷◌, [], ℕ, List, Some, None, Result, Ok, Err, All, map, length, get_or, take, suc, true, false, refl, ap, sym, subst, ◌∙◌, append_assoc, append-nil, arith}
use Rattle.std.specs.Borrow.{Bor}
use Rattle.std.specs.Prelude.{IsOk, MatchResult, if◌then◌else◌, slice_get, slice_set, ⊤}
use Rattle.std.proofs.lemmas.List.{length-take-le, length_push, map-append, take_more}
use Rattle.std.proofs.lemmas.List.Elements.{All-nil, All-push}
use Rattle.elf_linking.specs.DynamicObject.{object_file}
use Rattle.elf_linking.specs.Loaded.{word_at_of}
use Rattle.elf_loading.proofs.ImageChecks.{has_word_of}
use Rattle.elf_loading.specs.WordsLeft.{AreWordsOf, HasWordOf, IsSame, own_relocations, relocation_of, relocations_left}
use Rattle.elf_loading.specs.declared.error.LoadError.TheVariants.{Link}
use Rattle.elf_loading.specs.declared.value.Origin.TheVariants.{Zero}
use Rattle.elf_loading.specs.declared.value.Value.TheVariants.{Sum}
use Rattle.elf_loading.specs.declared.words.Binding.TheVariants.{Now}
use Rattle.elfload.proofs.WordLines.{same_then}
use Rattle.elfload.specs.Starts.{AreInPlace, AreRelocated, AreSet, AreValues, IsArrayError, IsSlotError, by_words, more_in_place, none_in_place, numbered, slot_address, slot_at, start_of, with_items, with_value, with_word}
use Rattle.elfload.specs.Types.{DynamicObject, ElfFile, LinkError, LoadError, Relocated, Stop, Value, Word, Words}
use Rattle.elfload.specs.Words.{HasKnownWord, IsTextError, IsWordError, by_word, is_unchanged}
use Rattle.elfload.specs.declared.arrays.Slots.{Slots}
use Rattle.elfload.specs.declared.starts.Start.{Start}
use Rattle.elfload.specs.declared.steps.Step.{Step}
use Rattle.linking_programs.specs.declared.Failed as reasons
use Rattle.program_ends.proofs.Ends.{stop_so}
use Rattle.program_ends.specs.Stops.{IsStop}
use Rattle.program_ends.specs.declared.Stop.TheVariants.{Failed}
use Rattle.xmas_elf.specs.Symbol.{SymbolFields}

-- one more word in place
module _ (file : ElfFile) (slots : Slots) where
  pub place_none : (values : List Value) → values ≡ [] → AreInPlace file slots values × (length values ≡ 0)
  place_none values none = (subst (AreInPlace file slots) (sym none) none_in_place, ap length none)

  pub place_more : (values more : List Value) (index number : ℕ) → AreInPlace file slots values × (length values ≡ index) → word_at_of file (slot_address slots index) ≡ Ok number → more ≡ values ++ (Sum Zero number ∷ [])
      → AreInPlace file slots more × (length more ≡ index + 1)
  place_more values more index number (are, counted) is grown = (
    subst (AreInPlace file slots) (sym grown) (more_in_place values number are (subst (λ n. word_at_of file (slot_address slots n) ≡ Ok number) (sym counted) is)),
    ap length grown ∙ length_push values (Sum Zero number) ∙ ap (λ n. n + 1) counted,
  )

  pub place_stops : (path : Bor (List ℕ)) (values : List Value) (index : ℕ) (cause : LinkError) (stop : Stop (reasons.Failed LoadError)) → AreInPlace file slots values × (length values ≡ index) → index < slots.count
      → word_at_of file (slot_address slots index) ≡ Err cause → stop ≡ Failed (record { path = path; error = Link cause }) → IsStop (λ failed. (failed.path ≡ path) × IsSlotError file slots failed.error) ⊥ ⊤ stop
  place_stops path values index cause stop (are, counted) below is stop_is = subst (IsStop (λ failed. (failed.path ≡ path) × IsSlotError file slots failed.error) ⊥ ⊤) (sym stop_is) (
    refl,
    record {
      before = values;
      are = are;
      below = subst (λ n. n < slots.count) (sym counted) below;
      cause = cause;
      word_is = subst (λ n. word_at_of file (slot_address slots n) ≡ Err cause) (sym counted) is;
      error_is = refl;
    },
  )

-- the values after a word
module _ (slots : Slots) (values after : List Value) (word : Word) where
  pub word_unchanged : is_unchanged word.value ≡ true → after ≡ values → after ≡ with_word slots values (Ok word)
  word_unchanged is same = same ∙ sym (ap (λ b. if b then values else with_value values word.value (slot_at slots word.address)) is)

  pub word_elsewhere : is_unchanged word.value ≡ false → None ≡ slot_at slots word.address → after ≡ values → after ≡ with_word slots values (Ok word)
  word_elsewhere is none same = same ∙ ap (with_value values word.value) none ∙ sym (ap (λ b. if b then values else with_value values word.value (slot_at slots word.address)) is)

  pub word_set : (index : ℕ) → is_unchanged word.value ≡ false → Some index ≡ slot_at slots word.address → after ≡ slice_set values index word.value → after ≡ with_word slots values (Ok word)
  word_set index is found same = same ∙ ap (with_value values word.value) found ∙ sym (ap (λ b. if b then values else with_value values word.value (slot_at slots word.address)) is)

with_items_more : {E : Type 0} (slots : Slots) (values : List Value) (items : List (Relocated E)) (item : Relocated E) → with_items slots values (items ++ (item ∷ [])) ≡ with_word slots (with_items slots values items) item.word
with_items_more slots values [] item = refl
with_items_more slots values (first ∷ items) item = with_items_more slots (with_word slots values first.word) items item

-- the values after the words so far
module _ {E : Type 0} {r : _} (fields : E → SymbolFields) (slots : Slots) (words : Words E r) (before : List Value) where
  pub record AreSetSoFar (now : Words E r) (values : List Value) : Type 0 where
    pub same : IsSame words now
    pub items : List (Relocated E)
    pub are : relocations_left words ≡ map relocation_of items ++ relocations_left now
    pub have_words : All (HasWordOf fields words) items
    pub known : All HasKnownWord items
    pub set : values ≡ with_items slots before items
    pub all : length values ≡ length before

  pub set_begin : (now : Words E r) → now ≡ words → AreSetSoFar now before
  set_begin now same = subst (λ w. AreSetSoFar w before) (sym same) (record {
    same = (refl, refl, refl, refl, refl);
    items = [];
    are = refl;
    have_words = All-nil (HasWordOf fields words);
    known = All-nil HasKnownWord;
    set = refl;
    all = refl;
  })

  module _ (now next : Words E r) (item : Relocated E) (values : List Value) (so_far : AreSetSoFar now values) (first : relocations_left now ≡ relocation_of item ∷ relocations_left next) (is : HasWordOf fields now item) where
    pub set_more : (after : List Value) → IsSame now next → IsOk item.word → length after ≡ length values → after ≡ with_word slots values item.word → AreSetSoFar next after
    set_more after same known counted grown = record {
      same = same_then fields words now next so_far.same same;
      items = so_far.items ++ (item ∷ []);
      are = so_far.are ∙ ap (λ left. map relocation_of so_far.items ++ left) first
          ∙ sym (append_assoc (map relocation_of so_far.items) (relocation_of item ∷ []) (relocations_left next))
          ∙ ap (λ front. front ++ relocations_left next) (sym (map-append relocation_of so_far.items (item ∷ [])));
      have_words = All-push (HasWordOf fields words) so_far.items item so_far.have_words (has_word_of fields words now item so_far.same is);
      known = All-push HasKnownWord so_far.items item so_far.known known;
      set = grown ∙ ap (λ those. with_word slots those item.word) so_far.set ∙ sym (with_items_more slots before so_far.items item);
      all = counted ∙ so_far.all;
    }

    pub set_stop : (error : LoadError) → item.word ≡ Err error → IsWordError fields words error
    set_stop error word = record {
      earlier = so_far.items;
      item = item;
      later = relocations_left next;
      are = so_far.are ∙ ap (λ left. map relocation_of so_far.items ++ left) first;
      known = so_far.known;
      has_word = has_word_of fields words now item so_far.same is;
      word_is = word;
    }

  pub set_end : (now : Words E r) (values : List Value) → relocations_left now ≡ [] → AreSetSoFar now values → AreSet fields slots words before values
  set_end now values end so_far = (
    so_far.items,
    record {
      are = sym (so_far.are ∙ ap (λ left. map relocation_of so_far.items ++ left) end ∙ append-nil (map relocation_of so_far.items));
      have_words = so_far.have_words;
      known = so_far.known;
    },
    so_far.set,
  )

-- how the relocations of an object end
module _ {E : Type 0} {r : _} (fields : E → SymbolFields) (objects : List (DynamicObject E r)) (lent : Bor (List (DynamicObject E r))) (same : lent.now ≡ objects) (of : ℕ) (slots : Slots) (before : List Value) (words : Words E r) (path : Bor (List ℕ)) (are : AreWordsOf lent of Now words) (left : own_relocations (slice_get lent.now of) ≡ Ok (relocations_left words)) where
  pub relocated_ends : {V : Type 0} (items : V → List Value) (result : Result V (Stop (reasons.Failed LoadError))) → MatchResult result (λ after. AreSet fields slots words before (items after)) (IsStop (λ failed. (failed.path ≡ path) × IsWordError fields words failed.error) ⊥ ⊥)
      → MatchResult result (λ after. AreRelocated fields objects of slots before (items after)) (IsStop (λ failed. (failed.path ≡ path) × IsTextError fields Now objects of failed.error) ⊥ ⊥)
  relocated_ends items (Ok after) set = record {
    lent = lent;
    lent_is = same;
    words = words;
    words_are = are;
    left = subst (λ those. own_relocations (slice_get those of) ≡ Ok (relocations_left words)) same left;
    written = set;
  }
  relocated_ends items (Err stop) why = stop_so _ _ _ _ _ _ stop (λ failed told. (told.0, by_word lent words failed.error same are told.1)) (λ never. never) (λ never. never) why

-- an error at a path
pub stops_at : (P : LoadError → Type 0) (path : Bor (List ℕ)) (error : LoadError) (stop : Stop (reasons.Failed LoadError)) → P error → stop ≡ Failed (record { path = path; error = error }) → IsStop (λ failed. (failed.path ≡ path) × P failed.error) ⊥ ⊥ stop
stops_at P path error stop is stop_is = subst (IsStop (λ failed. (failed.path ≡ path) × P failed.error) ⊥ ⊥) (sym stop_is) (refl, is)

-- the values of an array, by those in place
module _ {E : Type 0} {r : _} (fields : E → SymbolFields) (objects : List (DynamicObject E r)) (of : ℕ) (object : DynamicObject E r) (slots : Slots) (path : Bor (List ℕ)) (in_place : List Value) (are : AreInPlace (object_file object) slots in_place) (all : length in_place ≡ slots.count) where
  pub values_end : {V : Type 0} (items : V → List Value) (result : Result V (Stop (reasons.Failed LoadError))) → MatchResult result (λ after. AreRelocated fields objects of slots in_place (items after)) (IsStop (λ failed. (failed.path ≡ path) × IsTextError fields Now objects of failed.error) ⊥ ⊥)
      → MatchResult result (λ after. AreValues fields objects of object slots (items after)) (IsStop (λ failed. (failed.path ≡ path) × IsArrayError fields objects of object slots failed.error) ⊥ ⊤)
  values_end items (Ok after) relocated = record { in_place = in_place; are_in_place = are; all = all; relocated = relocated }
  values_end items (Err stop) why = stop_so _ _ _ _ _ _ stop (λ failed told. (told.0, by_words told.1)) (λ never. never) (λ never. absurd never) why

-- the functions of values, by their indices
module _ (path : Bor (List ℕ)) (of_step : Step) where
  numbered_more : (first : ℕ) (values : List Value) (value : Value) → numbered path of_step first (values ++ (value ∷ [])) ≡ numbered path of_step first values ++ (start_of path of_step (Some (first + length values)) value ∷ [])
  numbered_more first [] value =
      let same : first ≡ first + 0 = omega arith in ap (λ n. start_of path of_step (Some n) value ∷ []) same
  numbered_more first (one ∷ values) value =
      let same : first + 1 + length values ≡ first + suc (length values) = omega arith in
      ap (λ rest. start_of path of_step (Some first) one ∷ rest) (numbered_more (first + 1) values value
      ∙ ap (λ n. numbered path of_step (first + 1) values ++ (start_of path of_step (Some n) value ∷ [])) same)

  pub one_numbered : (values : List Value) (index : ℕ) (other value : Value) (starts more : List Start) → index < length values → value ≡ get_or values index other → starts ≡ numbered path of_step 0 (take index values)
      → more ≡ starts ++ (start_of path of_step (Some index) value ∷ []) → more ≡ numbered path of_step 0 (take (index + 1) values)
  one_numbered values index other value starts more below is so_far grown =
      let counted = length-take-le index values (omega (arith, below)) in
      let place : index ≡ 0 + length (take index values) = omega (arith, counted) in
      grown ∙ ap (λ those. those ++ (start_of path of_step (Some index) value ∷ [])) so_far
      ∙ ap (λ n. numbered path of_step 0 (take index values) ++ (start_of path of_step (Some n) value ∷ [])) place
      ∙ sym (numbered_more 0 (take index values) value)
      ∙ ap (numbered path of_step 0) (ap (λ one. take index values ++ (one ∷ [])) is ∙ sym (take_more values index other below))
