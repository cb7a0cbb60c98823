-- The result of the relocation of a checked image, and the bytes that it leaves if some word can't be written, by the lists
-- of its object.
use Rattle.std.proofs.Common.{◌≡◌, ℕ, zero, suc, ◌-◌, ◌^◌, ◌==◌, ◌&&◌, ◌||◌, ◌++◌, not, is_none, min, Bool, true, false, List, [], ◌∷◌, length, map, slice_get, Option, None, Some, Result, Ok, Err, IsOk, if◌then◌else◌, cond, refl, sym, ap, ◌∙◌, subst, append-nil, arith, ◌+◌, ◌<◌, ◌≤◌, slice_index}
use Rattle.std.proofs.lemmas.List.{length-map}
use Rattle.std.proofs.lemmas.List.Elements.{All-head, All-tail}
use Rattle.std.specs.Borrow.{Bor}
use Rattle.std.specs.List.{Contains, count_by, take_while}
use Rattle.std.specs.Prelude.{All, filter_map, option_and_then, option_map, unwrap_or}
use Rattle.std.specs.Result.{result_ok}
use base.SetCodes.{SetCoded-set, coded}
use base.Stored.{Coded}
use mathlib.Core.Logic.{∥∥₁_elim}
use Rattle.std.specs.Coded.{codes}
use Rattle.elf_base.specs.FirstError.{and_then, unless}
use Rattle.elf_base.specs.Table.{table_items}
use Rattle.elf_linking.specs.CheckedScope.{bound_fields, bound_in}
use Rattle.elf_linking.specs.DynamicObject.{object_dynamic_symbols, object_file, object_records}
use Rattle.elf_linking.specs.Exports.{SymbolParts, object_parts, symbol_parts}
use Rattle.elf_linking.specs.References.{file_machine}
use Rattle.elf_linking.specs.RelocationTypes.{row_of}
use Rattle.elf_loading.specs.Types.{Bound, DynamicObject, Formula, ImageError, LinkError, LoadError, Place, Reference, Relocated, Relocation, Value, Word}
use Rattle.elf_linking.proofs.lemmas.CheckedBound.{own_symbols}
use Rattle.elf_loading.specs.CheckedImage.{ImageParts, IsCheckedImage, fault_of, first_or, image_parts, image_result, image_words, is_fault, is_missing, is_size_wrong, is_without_source, load_error, with_addend, AreWordsWritten, relocated_at, start_in, word_for, written_words}
use Rattle.elf_loading.specs.ImageWords.{item_words, covers}
use Rattle.elf_loading.specs.Plan.{plan_size, plan_span, plan_loads}
use Rattle.elf_loading.specs.Relocate.{AreItemsWritten, IsRelocation, IsRelocationIn, IsWriting, all, has_no_number, image_in, is_absent, is_copy_outside, is_outside, is_unresolved, is_weak, is_wrong_size, lacks_number, some, sources_of, image_start, write_item}
use Rattle.elf_loading.specs.Words.{HasWord, IsBoundIf, addend_of, and_link, formula_word, own_size, formula_has_symbol, value_rows, value_word}
use Rattle.elf_loading.specs.WordsLeft.{relocation_of, own_relocations}
use Rattle.elf_loading.specs.declared.plan.LoadPlan.{LoadPlan}
use Rattle.elf_loading.specs.declared.relocate.Sources.{Sources}
use Rattle.elf_loading.specs.declared.words.Binding.TheVariants.{Now}
use Rattle.elf_loading.proofs.CheckedWords.{count_first, count_known, same_word, apart_once, known_count}
use Rattle.elf_loading.proofs.CheckedImages.{image_words_are, item_word, same_words, start_is, symbol_is, byte_is}
use Rattle.elf_loading.proofs.OneWords.{at_place, by_sizes, inside, relocated_once}
use Rattle.xmas_elf.specs.Symbol.{SymbolFields}
use Rattle.std.proofs.lemmas.List.Sums.{take_while-cons}
use Rattle.elf_loading.specs.declared.checked.image.ImageError.TheVariants as faults
use Rattle.elf_loading.specs.declared.error.LoadError.TheVariants as error
use Rattle.elf_loading.specs.declared.value.Value.TheVariants as values

-- a result with such an error
abbrev pub as_load : Result ℕ ImageError → Result ℕ LoadError
as_load (Ok count) = Ok count
as_load (Err fault) = Err (load_error fault)

-- what a word writes, or its fault
abbrev or_fault : Option ImageError → Bool → Result Bool LoadError
or_fault None lacks = Ok lacks
or_fault (Some fault) lacks = Err (load_error fault)

pub no_fault : (fault : Option ImageError) (lacks : Bool) → IsOk (or_fault fault lacks) → fault ≡ None
no_fault None lacks ok = refl
no_fault (Some fault) lacks ok = absurd (cc)

pub its_fault : (fault : Option ImageError) (lacks : Bool) (reason : LoadError) → or_fault fault lacks ≡ Err reason → (found : ImageError) × (fault ≡ Some found) × (load_error found ≡ reason)
its_fault None lacks reason is = absurd (cc)
its_fault (Some found) lacks reason is = (found, refl, cc)

by_tests : (unresolved outside copied lacks : Bool) → outside ≡ false
    → ◌≡◌ {A = Result Bool LoadError} (if unresolved then Err error.Unresolved else unless ((outside, error.WordAddress) ∷ (copied, error.CopySource) ∷ []) lacks)
    (or_fault (if unresolved then Some faults.Unresolved else (if copied then Some faults.CopySource else None)) lacks)
by_tests true outside copied lacks inside_is = refl
by_tests false true copied lacks inside_is = absurd (cc)
by_tests false false true lacks inside_is = refl
by_tests false false false lacks inside_is = refl

and_false : (one : Bool) → (one && false) ≡ false
and_false true = refl
and_false false = refl

one_more : (address : ℕ) (word : Word) (firsts words : List Word) → count_by (covers address) firsts ≤ count_by (covers address) words
    → count_by (covers address) (word ∷ firsts) ≤ count_by (covers address) (word ∷ words)
one_more address word firsts words fewer =
    let one = count_first (covers address) word firsts in
    let other = count_first (covers address) word words in
    omega (arith, one, other, fewer)

module _ {E : Type 0} {r : _} (fields : E → SymbolFields) (objects : Bor (List (DynamicObject E r))) (plans : Bor (List LoadPlan)) (index : ℕ) (own : DynamicObject E r) (plan : LoadPlan) (places : Bor (List Place)) (images : Bor (List (Bor (List ℕ)))) where
  abbrev lists : ImageParts
  lists = image_parts fields objects.now plans.now index own plan

  abbrev sources : Sources E r
  sources = sources_of objects plans index places images own

  abbrev Worded : Relocated E → Type 0
  Worded item = HasWord fields objects.now (object_file own) own index false item

  start : (object : ℕ) → image_start sources object ≡ unwrap_or (slice_get lists.starts object) 0
  start object = start_is fields objects plans index own plan places images object

  copied_is : (width : ℕ) (value : Value) → is_copy_outside sources width value ≡ is_without_source lists images.now width value
  copied_is width (values.Copy object offset size) = ap (λ s. is_outside s (length (image_in (slice_get images.now object))) offset width) (start object)
  copied_is width _ = refl

  weak_by : (symbol : ℕ) (found : Option E) → is_weak fields found ≡ is_weak (λ (s : SymbolParts). s.fields) (option_map (symbol_parts (object_dynamic_symbols fields own) symbol) found)
  weak_by symbol None = refl
  weak_by symbol (Some one) = refl

  weak_is : (symbol : ℕ) → is_weak fields (slice_get (table_items (object_records own)) symbol) ≡ is_weak (λ (s : SymbolParts). s.fields) (slice_get lists.own.symbols symbol)
  weak_is symbol = weak_by symbol (slice_get (table_items (object_records own)) symbol) ∙ ap (is_weak (λ (s : SymbolParts). s.fields)) (sym (own_symbols fields own symbol))

  -- The faults of relocations, and the words before the first that has one.

  abbrev is_fine : Reference → Bool
  is_fine reference = is_none (fault_of lists images.now reference)

  abbrev fault_for : Relocation → Option ImageError
  fault_for relocation = fault_of lists images.now (with_addend own relocation)

  abbrev faults_in : List Relocation → List ImageError
  faults_in relocations = filter_map (fault_of lists images.now) (map (with_addend own) relocations)

  abbrev words_before : List Relocation → List Word
  words_before relocations = filter_map (word_for lists) (take_while is_fine (map (with_addend own) relocations))

  none_first : (relocation : Relocation) (rest : List Relocation) → fault_for relocation ≡ None → faults_in (relocation ∷ rest) ≡ faults_in rest
  none_first relocation rest none = rw none refl

  some_first : (relocation : Relocation) (rest : List Relocation) (fault : ImageError) → fault_for relocation ≡ Some fault → faults_in (relocation ∷ rest) ≡ fault ∷ faults_in rest
  some_first relocation rest fault some_is = rw some_is refl

  -- the words of the first of some items, which are written
  record AreFirst (items : List (Relocated E)) (rest : List Relocation) (words : List Word) : Type 0 where
    first : List Word
    known : item_words items ≡ map (λ word. Ok word) first
    faultless : faults_in (map relocation_of items ++ rest) ≡ faults_in rest
    taken : words_before (map relocation_of items ++ rest) ≡ first ++ words_before rest
    fewer : (address : ℕ) → count_by (covers address) first ≤ count_by (covers address) words

  none_fewer : (address : ℕ) (words : List Word) → count_by (covers address) [] ≤ count_by (covers address) words
  none_fewer address words = let none : count_by (covers address) [] ≡ 0 = refl in omega (arith, none)

  step_taken : (relocation : Relocation) (rest : List Relocation) (word : Word) → fault_of lists images.now (with_addend own relocation) ≡ None → word_for lists (with_addend own relocation) ≡ Some word
      → words_before (relocation ∷ rest) ≡ word ∷ words_before rest
  step_taken relocation rest word none word_is =
      let fine : is_fine (with_addend own relocation) ≡ true = ap is_none none in
      ap (filter_map (word_for lists)) (take_while-cons is_fine (with_addend own relocation) (map (with_addend own) rest)
      ∙ ap (λ b. cond b (with_addend own relocation ∷ take_while is_fine (map (with_addend own) rest)) []) fine) ∙ rw word_is refl

  last_taken : (relocation : Relocation) (rest : List Relocation) (fault : ImageError) → fault_of lists images.now (with_addend own relocation) ≡ Some fault → words_before (relocation ∷ rest) ≡ []
  last_taken relocation rest fault is =
      let bad : is_fine (with_addend own relocation) ≡ false = ap is_none is in
      ap (filter_map (word_for lists)) (take_while-cons is_fine (with_addend own relocation) (map (with_addend own) rest)
      ∙ ap (λ b. cond b (with_addend own relocation ∷ take_while is_fine (map (with_addend own) rest)) []) bad)

  module _ (law : IsCheckedImage fields objects.now plans.now index own plan) where
    absent_by : (symbol : Option (Bound E)) (known : Option (Bound SymbolFields)) → bound_fields fields symbol ≡ known → is_absent {E = E} (Ok symbol) ≡ is_none known
    absent_by None None is = refl
    absent_by None (Some bound) is = absurd (cc)
    absent_by (Some symbol) None is = absurd (cc)
    absent_by (Some symbol) (Some bound) is = refl

    -- a relocation lacks its symbol
    missing_by : (takes weak : Bool) (reference : Reference) (bound : Result (Option (Bound E)) LinkError) → IsOk bound → IsBoundIf takes fields objects.now index reference bound
        → (is_absent bound && takes && not weak) ≡ (is_none (bound_in lists.objects index reference) && takes && not weak)
    missing_by true weak reference (Err e) ok is = absurd (cc)
    missing_by true weak reference (Ok symbol) ok is =
        ap (λ b. b && true && not weak) (absent_by symbol (bound_in lists.objects index reference) (symbol_is fields objects.now plans.now index own plan law true reference symbol is))
    missing_by false weak reference bound ok is =
        ap (λ b. b && not weak) (and_false (is_absent bound) ∙ sym (and_false (is_none (bound_in lists.objects index reference))))

    -- a known word has a symbol that is known
    bound_ok : (item : Relocated E) (word : Word) → Worded item → item.word ≡ Ok word → IsOk item.bound
    bound_ok item word (bound, word_is) known =
        let reference = item.relocation.reference in
        by_formula (row_of (file_machine (object_file own)) reference.kind).formula item.bound (sym word_is ∙ known)
      where
        by_parts : (formula : Formula) (said : Result ℕ LinkError) (found : Result (Option (Bound E)) LinkError)
            → and_link said (λ addend. and_link found (λ symbol. unless (value_rows fields item.relocation.reference.symbol symbol formula) (value_word fields (record {
              own = index;
              address = item.relocation.reference.offset;
              addend = addend;
              size = own_size fields own item.relocation.reference.symbol;
              width = (row_of (file_machine (object_file own)) item.relocation.reference.kind).width;
            }) symbol formula))) ≡ Ok word → IsOk found
        by_parts formula (Err e) found is = absurd (cc)
        by_parts formula (Ok addend) (Err e) is = absurd (cc)
        by_parts formula (Ok addend) (Ok symbol) is = refl

        by_formula : (formula : Option Formula) (found : Result (Option (Bound E)) LinkError)
            → formula_word fields (object_file own) own index item.relocation.in_place item.relocation.reference found formula ≡ Ok word → IsOk found
        by_formula None found is = absurd (cc)
        by_formula (Some formula) found is = by_parts formula (addend_of (object_file own) item.relocation.in_place formula item.relocation.reference) found is

    missing_is : (item : Relocated E) (word : Word) → Worded item → item.word ≡ Ok word → is_unresolved fields own false item ≡ is_missing lists (with_addend own item.relocation)
    missing_is item word has known =
        let reference = item.relocation.reference in
        let takes = formula_has_symbol (row_of (file_machine (object_file own)) reference.kind).formula in
        ap (λ weak. is_absent item.bound && takes && not weak) (weak_is reference.symbol)
        ∙ missing_by takes (is_weak (λ (s : SymbolParts). s.fields) (slice_get lists.own.symbols reference.symbol)) reference item.bound (bound_ok item word has known) has.0

    module _ (len : ℕ) where
      -- what an item writes, by the lists
      pub item_result : (item : Relocated E) (word : Word) → Worded item → item.word ≡ Ok word → is_outside (image_start sources index) len word.address word.width ≡ false
          → write_item fields sources own false len item ≡ or_fault (fault_of lists images.now (with_addend own item.relocation)) (has_no_number word.value)
      item_result item word has known inside_is =
          let outside = is_outside (image_start sources index) len word.address word.width in
          let missing = is_missing lists (with_addend own item.relocation) in
          let step : Result Word LoadError → Result Bool LoadError = λ some_word. and_then some_word (λ w. if is_unresolved fields own false item then Err error.Unresolved
          else unless ((is_outside (image_start sources index) len w.address w.width, error.WordAddress) ∷ (is_copy_outside sources w.width w.value, error.CopySource) ∷ []) (has_no_number w.value)) in
          let word_is = item_word fields objects.now plans.now index own plan law item word has known in
          let by_word : Option Word → Bool → Option ImageError = λ found missing. if missing then Some faults.Unresolved
          else option_and_then (λ w. if is_without_source lists images.now w.width w.value then Some faults.CopySource else None) found in
          ap step known
          ∙ by_tests (is_unresolved fields own false item) outside (is_copy_outside sources word.width word.value) (has_no_number word.value) inside_is
          ∙ ap (λ b. or_fault (if b then Some faults.Unresolved else (if is_copy_outside sources word.width word.value then Some faults.CopySource else None)) (has_no_number word.value)) (missing_is item word has known)
          ∙ ap (λ b. or_fault (if missing then Some faults.Unresolved else (if b then Some faults.CopySource else None)) (has_no_number word.value)) (copied_is word.width word.value)
          ∙ ap (λ found. or_fault (by_word found missing) (has_no_number word.value)) (sym word_is)

      abbrev Written : Relocated E → Type 0
      Written item = IsOk (write_item fields sources own false len item)

      are_first : (items : List (Relocated E)) (rest : List Relocation) (checked : List (Relocated E)) (words : List Word) → map relocation_of checked ≡ map relocation_of items ++ rest
          → item_words checked ≡ map (λ word. Ok word) words → All Worded checked → All Worded items → ((w : Word) → Contains words w → is_outside (image_start sources index) len w.address w.width ≡ false)
          → All Written items → AreFirst items rest words
      are_first [] rest checked words same known also has held written = record { first = []; known = refl; faultless = refl; taken = refl; fewer = λ address. none_fewer address words }
      are_first (item ∷ items) rest [] words same known also has held written = absurd (cc)
      are_first (item ∷ items) rest (one ∷ checked) [] same known also has held written = absurd (cc)
      are_first (item ∷ items) rest (one ∷ checked) (word ∷ words) same known also has held written =
          let first : item.relocation ≡ one.relocation = cc in
          let others : map relocation_of checked ≡ map relocation_of items ++ rest = cc in
          let word_is : one.word ≡ Ok word = cc in
          let words_are : item_words checked ≡ map (λ some. Ok some) words = cc in
          let has_first = All-head Worded item items has in
          let known_is : item.word ≡ Ok word = same_word fields objects.now own index item one first has_first (All-head Worded one checked also) ∙ word_is in
          let result = item_result item word has_first known_is (held word (zero, omega arith, refl)) in
          let none = no_fault (fault_of lists images.now (with_addend own item.relocation)) (has_no_number word.value) (subst (λ result. IsOk result) result (All-head Written item items written)) in
          let held_rest : (w : Word) → Contains words w → is_outside (image_start sources index) len w.address w.width ≡ false = λ w in_rest. let (k, below, is) = in_rest in held w (suc k, omega (arith, below), is) in
          let more = are_first items rest checked words others words_are (All-tail Worded one checked also) (All-tail Worded item items has) held_rest (All-tail Written item items written) in record {
            first = word ∷ more.first;
            known = ap (λ one. one ∷ item_words items) known_is ∙ ap (λ all. Ok word ∷ all) more.known;
            faultless = none_first item.relocation (map relocation_of items ++ rest) none ∙ more.faultless;
            taken = step_taken item.relocation (map relocation_of items ++ rest) word none (item_word fields objects.now plans.now index own plan law item word has_first known_is) ∙ ap (λ all. word ∷ all) more.taken;
            fewer = λ address. one_more address word more.first words (more.fewer address);
          }

    module _ (before after : List ℕ) where
      abbrev len_before : ℕ
      len_before = length before

      abbrev count_of : List Word → ℕ
      count_of words = min (count_by (λ word. has_no_number word.value) words) (2 ^ 64 - 1)

      abbrev BytesBy : List Word → Type 0
      BytesBy words = (i : ℕ) → i < len_before → slice_index after i ≡ relocated_at lists places.now images.now words (start_in lists index + i) (slice_index before i)

      references_are : (relocations : List Relocation) → own_relocations (Some own) ≡ Ok relocations → filter_map (fault_of lists images.now) lists.references ≡ faults_in relocations
      references_are relocations are = ap (λ said. filter_map (fault_of lists images.now) (map (with_addend own) (unwrap_or (result_ok said) []))) are

      module _ (right : is_wrong_size sources plan (length before) ≡ false) where
        by_ok : {A B : Type 0} {x y : A} → ◌≡◌ {A = Result A B} (Ok x) (Ok y) → x ≡ y
        by_ok is = cc

        firsts_of : (items : List (Relocated E)) (rest : List Relocation) (count : ℕ) → map relocation_of law.apart.items ≡ map relocation_of items ++ rest
            → AreItemsWritten fields sources own false before after items count → AreFirst items rest law.apart.words
        firsts_of items rest count same written =
            are_first len_before items rest law.apart.items law.apart.words same law.apart.words_are law.apart.have_words written.have_words
            (λ word has. inside fields sources own plan before after law.plan_is law.apart right word has) written.can_be

        -- the fault of the item after those that are written
        fault_at : (items : List (Relocated E)) (item : Relocated E) (rest : List Relocation) (why : LoadError) → map relocation_of law.apart.items ≡ map relocation_of items ++ (item.relocation ∷ rest)
            → Worded item → write_item fields sources own false len_before item ≡ Err why → (fault : ImageError) × (fault_for item.relocation ≡ Some fault) × (load_error fault ≡ why)
        fault_at items item rest why same has can_not =
            let found = at_place fields sources own plan before after law.plan_is (map relocation_of items) item.relocation rest law.apart.items law.apart.words same law.apart.words_are law.apart.have_words in
            let word_is : item.word ≡ Ok found.word = same_word fields objects.now own index item found.one (sym found.same) has found.has ∙ found.known in
            let result_is = item_result len_before item found.word has word_is (inside fields sources own plan before after law.plan_is law.apart right found.word found.place) in
            its_fault (fault_for item.relocation) (has_no_number found.word.value) why (sym result_is ∙ can_not)

        written_is : (relocations : List Relocation) (result : Result ℕ LoadError) → own_relocations (Some own) ≡ Ok relocations → IsWriting fields sources own false relocations before after result
            → result ≡ as_load (first_or (filter_map (fault_of lists images.now) lists.references) (count_of (image_words lists)))
        written_is relocations result are (all items count is written done) =
            let same : map relocation_of law.apart.items ≡ map relocation_of items ++ [] = by_ok (sym law.apart.relocations_are ∙ are) ∙ is ∙ sym (append-nil (map relocation_of items)) in
            let faults_are : filter_map (fault_of lists images.now) lists.references ≡ [] =
            references_are relocations are ∙ ap faults_in (is ∙ sym (append-nil (map relocation_of items))) ∙ (firsts_of items [] count same written).faultless in
            let words = same_words fields objects.now plans.now index own plan items law.apart.items (sym (same ∙ append-nil (map relocation_of items))) written.have_words law.apart.have_words ∙ law.apart.words_are in
            let count_is : count ≡ count_of (image_words lists) = written.counted ∙ ap (λ n. min n (2 ^ 64 - 1)) (count_known (λ item. lacks_number item.word) (λ word. has_no_number word.value) (λ item word is. ap lacks_number is) items law.apart.words words)
            ∙ ap count_of (sym (image_words_are fields objects.now plans.now index own plan law)) in
            done ∙ ap (λ n. Ok n) count_is ∙ ap (λ all_faults. as_load (first_or all_faults (count_of (image_words lists)))) (sym faults_are)
        written_is relocations result are (some items count item rest why is written has can_not stopped) =
            let same : map relocation_of law.apart.items ≡ map relocation_of items ++ (item.relocation ∷ rest) = by_ok (sym law.apart.relocations_are ∙ are) ∙ is in
            let (fault, fault_is, error_is) = fault_at items item rest why same has can_not in
            let faults_are : filter_map (fault_of lists images.now) lists.references ≡ fault ∷ faults_in rest =
            references_are relocations are ∙ ap faults_in is ∙ (firsts_of items (item.relocation ∷ rest) count same written).faultless ∙ some_first item.relocation rest fault fault_is in
            stopped ∙ ap (λ e. Err e) (sym error_is) ∙ ap (λ all_faults. as_load (first_or all_faults (count_of (image_words lists)))) (sym faults_are)

        bytes_before : (relocations : List Relocation) (result : Result ℕ LoadError) (reason : LoadError) → result ≡ Err reason → own_relocations (Some own) ≡ Ok relocations → IsWriting fields sources own false relocations before after result
            → BytesBy (words_before relocations)
        bytes_before relocations result reason failed are (all items count is written done) = absurd (cc)
        bytes_before relocations result reason failed are (some items count item rest why is written has can_not stopped) =
            let same : map relocation_of law.apart.items ≡ map relocation_of items ++ (item.relocation ∷ rest) = by_ok (sym law.apart.relocations_are ∙ are) ∙ is in
            let (fault, fault_is, error_is) = fault_at items item rest why same has can_not in
            let firsts = firsts_of items (item.relocation ∷ rest) count same written in
            let words_are : words_before relocations ≡ firsts.first = ap words_before is ∙ firsts.taken ∙ ap (λ more. firsts.first ++ more) (last_taken item.relocation rest fault fault_is) ∙ append-nil firsts.first in
            subst BytesBy (sym words_are) (λ i below.
            let address = image_start sources index + i in
            let count = known_count address items firsts.first firsts.known in
            let fewer = firsts.fewer address in
            let once = apart_once fields objects.now own index (plan_loads plan) address law.apart in
            written.bytes i below ∙ relocated_once sources address items (slice_index before i) (omega (arith, count, fewer, once))
            ∙ byte_is fields objects plans index own plan places images address items firsts.first firsts.known (slice_index before i)
            ∙ ap (λ start. relocated_at lists places.now images.now firsts.first (start + i) (slice_index before i)) (start_is fields objects plans index own plan places images index))

    -- the sizes are those of the lists
    pub size_same : (len : ℕ) → is_wrong_size sources plan len ≡ is_size_wrong lists places.now images.now len
    size_same len =
        let given = λ (n m : ℕ). not (len == plan_size plan) || (not (m == n) || (not (length places.now == n) || not (length images.now == n))) in
        ap (λ n. given n (length plans.now)) (sym (length-map objects.now (object_parts fields)))
        ∙ ap (given (length lists.objects)) (sym (length-map plans.now (λ plan. (plan_span plan).start)))

    abbrev rest_is : Result ℕ ImageError
    rest_is = first_or (filter_map (fault_of lists images.now) lists.references) (min (count_by (λ word. has_no_number word.value) (image_words lists)) (2 ^ 64 - 1))

    module _ (before after : List ℕ) (result : Result ℕ LoadError) (relocation : IsRelocation fields sources own plan false before after result) where
      relocated_is : result ≡ as_load (image_result lists places.now images.now (length before))
      relocated_is = by_sizes fields sources own plan before after law.plan_is (result ≡ as_load (image_result lists places.now images.now (length before))) result law.apart
          (λ is has_error same. has_error ∙ ap (λ wrong. as_load (if wrong then Err faults.Size else rest_is)) (sym is ∙ size_same (length before)))
          (λ is writing. written_is before after is (map relocation_of law.apart.items) result law.apart.relocations_are writing
          ∙ ap (λ wrong. as_load (if wrong then Err faults.Size else rest_is)) (sym is ∙ size_same (length before))) relocation

      abbrev words_by : Bool → List Word
      words_by wrong = if wrong then [] else filter_map (word_for lists) (take_while is_fine lists.references)

      bytes_left : (reason : LoadError) → result ≡ Err reason → BytesBy before after (written_words lists places.now images.now (length before))
      bytes_left reason failed = by_sizes fields sources own plan before after law.plan_is (BytesBy before after (written_words lists places.now images.now (length before))) result law.apart
          (λ is has_error same. subst (λ wrong. BytesBy before after (words_by wrong)) (sym is ∙ size_same (length before)) (λ i below. ap (λ all. slice_index all i) same))
          (λ is writing. subst (λ wrong. BytesBy before after (words_by wrong)) (sym is ∙ size_same (length before))
          (subst (BytesBy before after) (references_read (map relocation_of law.apart.items) law.apart.relocations_are) (bytes_before before after is (map relocation_of law.apart.items) result reason failed law.apart.relocations_are writing))) relocation
        where
          references_read : (relocations : List Relocation) → own_relocations (Some own) ≡ Ok relocations → words_before relocations ≡ filter_map (word_for lists) (take_while is_fine lists.references)
          references_read relocations are = sym (ap (λ said. filter_map (word_for lists) (take_while is_fine (map (with_addend own) (unwrap_or (result_ok said) [])))) are)

  by_both : (before after : List ℕ) (result : Result ℕ LoadError) → IsRelocationIn fields objects plans index Now places images before after result
      → IsCheckedImage fields objects.now plans.now index own plan → IsRelocation fields sources own plan false before after result
  by_both before after result relocation law = rw (law.own_is, law.plan_is) at relocation

  pub result_is : ∥ IsCheckedImage fields objects.now plans.now index own plan ∥₁ → (before after : List ℕ) (result : Result ℕ LoadError)
      → IsRelocationIn fields objects plans index Now places images before after result → result ≡ as_load (image_result lists places.now images.now (length before))
  result_is known before after result relocation = let code : Coded (Result ℕ LoadError) = hlevel (codes) in
      ∥∥₁_elim known (SetCoded-set (coded code) _ _) (λ law. relocated_is law before after result (by_both before after result relocation law))

  pub written_in : ∥ IsCheckedImage fields objects.now plans.now index own plan ∥₁ → (before after : List ℕ) (reason : LoadError) → length after ≡ length before
      → IsRelocationIn fields objects plans index Now places images before after (Err reason)
      → AreWordsWritten lists places.now images.now (written_words lists places.now images.now (length before)) before after
  written_in known before after reason same relocation =
      let words = written_words lists places.now images.now (length before) in
      let code : Coded ℕ = hlevel (codes) in
      let bytes : (i : ℕ) → i < length before → slice_index after i ≡ relocated_at lists places.now images.now words (start_in lists index + i) (slice_index before i)
      = λ i below. ∥∥₁_elim known (SetCoded-set (coded code) _ _) (λ law. bytes_left law before after (Err reason) (by_both before after (Err reason) relocation law) reason refl i below) in record {
        size = same;
        bytes = bytes;
        of_plan = λ by mapped i below. bytes i below ∙ ap (relocated_at lists places.now images.now words (start_in lists index + i)) (mapped.bytes i below);
      }

-- What a call returns, by the result of the scope.

pub ok_is : (known : Result ℕ ImageError) (count : ℕ) → Ok count ≡ as_load known → Ok count ≡ known
ok_is (Ok n) count is = let same : count ≡ n = cc in ap (λ n. Ok n) same
ok_is (Err fault) count is = absurd (cc)

same_fault : (one other : ImageError) → load_error one ≡ load_error other → one ≡ other
same_fault faults.Size faults.Size is = refl
same_fault faults.Unresolved faults.Unresolved is = refl
same_fault faults.CopySource faults.CopySource is = refl
same_fault _ _ is = absurd (cc)

pub fault_is : (known : Result ℕ ImageError) (fault : ImageError) → Err (load_error fault) ≡ as_load known → Err fault ≡ known
fault_is (Ok n) fault is = absurd (cc)
fault_is (Err other) fault is = let same : load_error fault ≡ load_error other = cc in ap (λ f. Err f) (same_fault fault other same)

pub left_by : (known : Result ℕ ImageError) (reason : LoadError) → Err reason ≡ as_load known → is_fault reason ≡ true
left_by (Ok n) reason is = absurd (cc)
left_by (Err faults.Size) reason is = let same : reason ≡ error.ImageSize = cc in ap is_fault same
left_by (Err faults.Unresolved) reason is = let same : reason ≡ error.Unresolved = cc in ap is_fault same
left_by (Err faults.CopySource) reason is = let same : reason ≡ error.CopySource = cc in ap is_fault same
