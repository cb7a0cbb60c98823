-- The check of the words of an object, word by word.
use Rattle.std.proofs.Common.{◌≡◌, ℕ, ◌+◌, ◌-◌, ◌^◌, ◌≤◌, nat_lt, Bool, List, [], ◌∷◌, ◌++◌, length, map, Option, Some, None, Result, Ok, Err, refl, sym, ap, ◌∙◌, subst, append_assoc, ◌==◌, ◌&&◌, not, true, false, arith}
use Rattle.std.proofs.lemmas.Bool.{ltb-false}
use Rattle.std.proofs.lemmas.List.{length-append, map-append}
use Rattle.std.proofs.lemmas.List.Elements.{All-nil, All-push, All-weaker}
use Rattle.std.proofs.lemmas.Option.{same_Some, slice_get-get_or}
use Rattle.std.specs.Borrow.{Bor}
use Rattle.std.specs.Prelude.{All, IsOk, min, slice_get}
use Rattle.std.specs.Slice.{IsItemAt}
use Rattle.elf_base.specs.FirstError.{and_then, unless}
use Rattle.elf_linking.specs.DynamicObject.{object_file, object_view}
use Rattle.elf_linking.specs.DynamicView.{view_entries}
use Rattle.elf_loading.specs.Types.{DynamicObject, LinkError, LoadError, Relocated, Relocation, Segment, TableLocation, Word}
use Rattle.elf_loading.specs.ImageTables.{asks_for_text, check_tables, tables_of}
use Rattle.elf_loading.specs.Segments.{has_flag}
use Rattle.elf_loading.specs.ImageWords.{AreMarksOf, AreWordsFrom, IsBegun, IsOwnCheck, MatchBoth, as_load_error, by_words, check_records, check_word, check_words, checked_relocations, item_words, holds_word, overlaps, touches}
use Rattle.elf_loading.specs.Plan.{plan_loads, plan_size}
use Rattle.elf_loading.specs.WordErrors.{IsFirstUnchecked}
use Rattle.elf_loading.specs.Words.{HasWord}
use Rattle.elf_loading.specs.WordsLeft.{HasWordOf, IsSame, relocation_of, relocations_left, own_relocations}
use Rattle.elf_loading.specs.declared.error.LoadError.TheVariants.{FewMarks, WordInTable, WordsOverlap}
use Rattle.elf_loading.specs.declared.plan.LoadPlan.{LoadPlan}
use Rattle.elf_loading.specs.declared.words.Words.{Words}
use Rattle.elf_loading.proofs.LoadChecks.{unless_ok}
use Rattle.xmas_elf.specs.Symbol.{SymbolFields}
use Rattle.xmas_elf.specs.Types.{ElfFile}
use Rattle.std.specs.List.{find, list_any}

ok_last : {A E : Type 0} (r : Result A E) → and_then r (λ x. Ok x) ≡ r
ok_last (Ok x) = refl
ok_last (Err e) = refl

-- one item more
pub one_more : {A : Type 0} (items : List A) (item : A) (index next : ℕ) → index ≡ min (length items) (2 ^ 64 - 1)
    → next ≡ min (index + 1) (2 ^ 64 - 1) → next ≡ min (length (items ++ item ∷ [])) (2 ^ 64 - 1)
one_more items item index next counted more = rw (length-append items (item ∷ [])) (omega (arith, counted, more))

module _ (loads : List Segment) (text : Bool) (tables : List TableLocation) where
  then_by : (r : Result (List Word) LoadError) (words : List (Result Word LoadError)) (word : Result Word LoadError)
      → ((after : List Word) → check_words loads text tables after (words ++ (word ∷ [])) ≡ and_then (check_words loads text tables after words) (λ last. check_word loads text tables last word))
      → and_then r (λ after. check_words loads text tables after (words ++ (word ∷ []))) ≡ and_then (and_then r (λ after. check_words loads text tables after words)) (λ after. check_word loads text tables after word)
  then_by (Ok after) words word more = more after
  then_by (Err error) words word more = refl

  checked_after : (before : List Word) (words : List (Result Word LoadError)) (word : Result Word LoadError)
      → check_words loads text tables before (words ++ (word ∷ [])) ≡ and_then (check_words loads text tables before words) (λ after. check_word loads text tables after word)
  unfolding check_words
  checked_after before [] word = ok_last (check_word loads text tables before word)
  checked_after before (first ∷ words) word = then_by (check_word loads text tables before first) words word (λ after. checked_after after words word)

  checked_none : check_words loads text tables [] [] ≡ Ok []
  unfolding check_words
  checked_none = refl

-- a word in the terms of an iterator over the same words
pub has_word_same : {E : Type 0} {r : _} (fields : E → SymbolFields) (item : Relocated E) (objects objects' : List (DynamicObject E r)) (file file' : ElfFile) (own own' : DynamicObject E r) (of of' : ℕ) (lazy lazy' : Bool)
    → objects' ≡ objects → file' ≡ file → own' ≡ own → of' ≡ of → lazy' ≡ lazy → HasWord fields objects' file' own' of' lazy' item → HasWord fields objects file own of lazy item
has_word_same fields item objects objects' file file' own own' of of' lazy lazy' one two three four five has =
    subst (λ x. HasWord fields x file own of lazy item) one
    (subst (λ x. HasWord fields objects' x own of lazy item) two
    (subst (λ x. HasWord fields objects' file' x of lazy item) three
    (subst (λ x. HasWord fields objects' file' own' x lazy item) four
    (subst (λ x. HasWord fields objects' file' own' of' x item) five has))))

pub has_word_of : {E : Type 0} {r : _} (fields : E → SymbolFields) (one other : Words E r) (item : Relocated E) → IsSame one other → HasWordOf fields other item → HasWordOf fields one item
has_word_of fields one other item (objects, file, own, index, lazy) has = has_word_same fields item _ _ _ _ _ _ _ _ _ _ (ap (λ lent. lent.now) objects) file own index lazy has

module _ {E : Type 0} {r : _} (fields : E → SymbolFields) (loads : List Segment) (text : Bool) (tables : List TableLocation) (start : ℕ) where
  -- the words of these items of an iterator are checked and have marks, and the others are left
  pub record AreCheckedSoFar (all now : Words E r) (marks : List ℕ) (index : ℕ) : Type 0 where
    pub items : List (Relocated E)
    pub counted : index ≡ min (length items) (2 ^ 64 - 1)
    pub are : relocations_left all ≡ map relocation_of items ++ relocations_left now
    pub same : IsSame all now
    pub have_words : All (HasWordOf fields all) items
    pub before : List Word
    pub checked : check_words loads text tables [] (item_words items) ≡ Ok before
    pub marked : AreMarksOf start before marks

  pub none_checked : (all now : Words E r) (marks : List ℕ) → now ≡ all → AreMarksOf start [] marks → AreCheckedSoFar all now marks 0
  none_checked all now marks is clear = subst (λ one. AreCheckedSoFar all one marks 0) (sym is) (record {
    items = [];
    counted = omega arith;
    are = refl;
    same = (refl, refl, refl, refl, refl);
    have_words = All-nil _;
    before = [];
    checked = checked_none loads text tables;
    marked = clear;
  })

  -- at the end
  pub all_checked : (all now : Words E r) (marks : List ℕ) (index : ℕ) → relocations_left now ≡ [] → AreCheckedSoFar all now marks index → AreWordsFrom fields loads text tables all (Ok tt)
  all_checked all now marks index end so_far = record {
    items = so_far.items;
    rest = relocations_left now;
    are = so_far.are;
    have_words = so_far.have_words;
    all = end;
    checked = ap (λ result. and_then result (λ words. Ok tt)) (sym so_far.checked);
  }

  module _ (all now next : Words E r) (marks : List ℕ) (index : ℕ) (item : Relocated E) (so_far : AreCheckedSoFar all now marks index)
      (first : relocations_left now ≡ relocation_of item ∷ relocations_left next) (same : IsSame now next)
      (has : HasWordOf fields now item) where
    more : List (Relocated E)
    more = so_far.items ++ (item ∷ [])

    are_more : relocations_left all ≡ map relocation_of (so_far.items ++ (item ∷ [])) ++ relocations_left next
    are_more = so_far.are ∙ ap (λ rest. map relocation_of so_far.items ++ rest) first
        ∙ sym (append_assoc (map relocation_of so_far.items) (relocation_of item ∷ []) (relocations_left next))
        ∙ ap (λ front. front ++ relocations_left next) (sym (map-append relocation_of so_far.items (item ∷ [])))

    have_more : All (HasWordOf fields all) (so_far.items ++ (item ∷ []))
    have_more = All-push (HasWordOf fields all) so_far.items item so_far.have_words (has_word_of fields all now item so_far.same has)

    checked_more : check_words loads text tables [] (item_words (so_far.items ++ (item ∷ []))) ≡ check_word loads text tables so_far.before item.word
    checked_more = ap (check_words loads text tables []) (map-append (λ one. one.word) so_far.items (item ∷ []))
        ∙ checked_after loads text tables [] (item_words so_far.items) item.word
        ∙ ap (λ result. and_then result (λ after. check_word loads text tables after item.word)) so_far.checked

    pub one_checked : (later : ℕ) → later ≡ min (index + 1) (2 ^ 64 - 1) → (new : List ℕ) (after : List Word) → check_word loads text tables so_far.before item.word ≡ Ok after → AreMarksOf start after new → AreCheckedSoFar all next new later
    one_checked later more_is new after ok marked =
        let (one, two, three, four, five) = so_far.same in
        let (one', two', three', four', five') = same in record {
          items = so_far.items ++ (item ∷ []);
          counted = one_more so_far.items item index later so_far.counted more_is;
          are = are_more;
          same = (one' ∙ one, two' ∙ two, three' ∙ three, four' ∙ four, five' ∙ five);
          have_words = have_more;
          before = after;
          checked = checked_more ∙ ok;
          marked = marked;
        }

    pub one_stops : (error : LoadError) → check_word loads text tables so_far.before item.word ≡ Err error → AreWordsFrom fields loads text tables all (Err error)
    one_stops error err = record {
      items = so_far.items ++ (item ∷ []);
      rest = relocations_left next;
      are = are_more;
      have_words = have_more;
      all = tt;
      checked = ap (λ result. and_then result (λ words. Ok tt)) (sym (checked_more ∙ err));
    }

    -- the error is that of the relocation after those so far
    pub first_unchecked : (error : LoadError) → check_word loads text tables so_far.before item.word ≡ Err error
        → IsFirstUnchecked (HasWordOf fields all) loads text tables (relocations_left all) (record { error = error; relocation = Some index })
    first_unchecked error err = record {
      items = so_far.items;
      item = item;
      rest = relocations_left next;
      are = so_far.are ∙ ap (λ rest. map relocation_of so_far.items ++ rest) first;
      have_words = so_far.have_words;
      has_word = has_word_of fields all now item so_far.same has;
      pass = subst IsOk (sym so_far.checked) refl;
      fails = checked_more ∙ err;
      index_is = ap (λ count. Some count) so_far.counted;
    }

-- The relocations of an object whose tables can be used.

pub then_ok : {A B : Type 0} (r : Result A LoadError) (next : A → Result B LoadError) (value : B) → and_then r next ≡ Ok value → (x : A) × (r ≡ Ok x) × (next x ≡ Ok value)
then_ok (Ok x) next value is = (x, refl, is)
then_ok (Err error) next value is = absurd (cc)

link_ok : {A : Type 0} (r : Result A LinkError) (value : A) → as_load_error r ≡ Ok value → r ≡ Ok value
link_ok (Ok x) value is = let same : x ≡ value = cc in ap (λ v. Ok v) same
link_ok (Err error) value is = absurd (cc)

-- they are read, and there are not too few marks
checked_parts : {E : Type 0} {r : _} (size : ℕ) (own : DynamicObject E r) (plan : LoadPlan) (bits : ℕ) (relocations : List Relocation) → checked_relocations size own plan bits ≡ Ok relocations
    → (own_relocations (Some own) ≡ Ok relocations) × (nat_lt bits (plan_size plan) ≡ false)
checked_parts size own plan bits relocations is =
    let few : List (Bool × LoadError) = (nat_lt bits (plan_size plan), FewMarks) ∷ [] in
    let records : Result (Unit {0}) LoadError = check_records (object_file own) (view_entries (object_view own)) in
    let (done, tables, more) = then_ok {A = Unit {0}} (check_tables size own) (λ done. and_then (as_load_error (own_relocations (Some own))) (λ all. and_then records (λ applied. unless few all))) relocations is in
    let (all, found, rest) = then_ok (as_load_error (own_relocations (Some own))) (λ all. and_then records (λ applied. unless few all)) relocations more in
    let (applied, passed, enough) = then_ok {A = Unit {0}} records (λ applied. unless few all) relocations rest in
    let (none, same) = unless_ok few all relocations enough in
    (link_ok (own_relocations (Some own)) relocations (found ∙ ap (λ v. Ok v) same), none.0)

pub relocations_are : {E : Type 0} {r : _} (size : ℕ) (own : DynamicObject E r) (plan : LoadPlan) (bits : ℕ) (relocations : List Relocation) → checked_relocations size own plan bits ≡ Ok relocations → own_relocations (Some own) ≡ Ok relocations
relocations_are size own plan bits relocations is =
    let (found, none) = checked_parts size own plan bits relocations is in found

-- there are enough marks
pub enough_marks : {E : Type 0} {r : _} (size : ℕ) (own : DynamicObject E r) (plan : LoadPlan) (bits : ℕ) (relocations : List Relocation) → checked_relocations size own plan bits ≡ Ok relocations → plan_size plan ≤ bits
enough_marks size own plan bits relocations is =
    let (found, none) = checked_parts size own plan bits relocations is in ltb-false bits (plan_size plan) none

-- The check of an object.

-- the item of a slice that was lent
pub lent_item : {X : Type 0} (xs : List X) (i : ℕ) (lent : Option (Bor X)) (x : Bor X) → IsItemAt xs i lent → lent ≡ Some x → slice_get xs i ≡ Some x.now
lent_item xs i lent x item is = let at = subst (IsItemAt xs i) is item in slice_get-get_or xs i x.now at.3.0 ∙ ap (λ y. Some y) (sym at.1)

-- a claim of the object and the plan at an index, by what a look-up finds
pub no_object : {A B : Type 0} (objects : List A) (plans : List B) (of : ℕ) (missing : Type 0) (holds : A → B → Type 0) → slice_get objects of ≡ None → missing → MatchBoth (slice_get objects of) (slice_get plans of) missing holds
no_object objects plans of missing holds is none = subst (λ own. MatchBoth own (slice_get plans of) missing holds) (sym is) none

pub no_plan : {A B : Type 0} (objects : List A) (plans : List B) (of : ℕ) (missing : Type 0) (holds : A → B → Type 0) → slice_get plans of ≡ None → missing → MatchBoth (slice_get objects of) (slice_get plans of) missing holds
no_plan {A} {B} objects plans of missing holds is none = subst (λ plan. MatchBoth (slice_get objects of) plan missing holds) (sym is) (by_own (slice_get objects of))
  where
    by_own : (own : Option A) → MatchBoth own None missing holds
    by_own None = none
    by_own (Some own) = none

pub both_at : {A B : Type 0} (objects : List A) (plans : List B) (of : ℕ) (missing : Type 0) (holds : A → B → Type 0) (own : A) (plan : B) → slice_get objects of ≡ Some own → slice_get plans of ≡ Some plan → holds own plan → MatchBoth (slice_get objects of) (slice_get plans of) missing holds
both_at objects plans of missing holds own plan own_is plan_is both =
    subst (λ some. MatchBoth some (slice_get plans of) missing holds) (sym own_is) (subst (λ some. MatchBoth (Some own) some missing holds) (sym plan_is) both)

module _ {E : Type 0} {r : _} (size : ℕ) (fields : E → SymbolFields) (objects : Bor (List (DynamicObject E r))) (of bits : ℕ) (own : DynamicObject E r) (plan : LoadPlan) (own_is : slice_get objects.now of ≡ Some own) where
  pub own_checked : (words : Words E r) (text : Bool) (tables : List TableLocation) (result : Result (Unit {0}) LoadError)
      → IsBegun size objects of own plan bits words → text ≡ asks_for_text (view_entries (object_view own)) → tables ≡ tables_of size own
      → AreWordsFrom fields (plan_loads plan) text tables words result → IsOwnCheck size fields objects.now of own plan bits result
  own_checked words text tables result begun text_is tables_are from =
      let own_same : words.own.now ≡ own = same_Some _ _ (sym begun.words_are.own_is ∙ own_is) in
      let file_same : words.file ≡ object_file own = begun.words_are.file_is ∙ ap object_file own_same in
      by_words (relocations_left words) from.items begun.relocations_are
      (record {
        rest = from.rest;
        are = from.are;
        have_words = All-weaker _ _ (λ item has. has_word_same fields item _ _ _ _ _ _ _ _ _ _ (ap (λ o. o.now) begun.words_are.objects_are) file_same own_same begun.words_are.index_is begun.words_are.lazy_is has) from.items from.have_words;
        all = from.all;
      })
      (from.checked
      ∙ ap (λ t. and_then (check_words (plan_loads plan) t tables [] (item_words from.items)) (λ words. Ok tt)) text_is
      ∙ ap (λ t. and_then (check_words (plan_loads plan) (asks_for_text (view_entries (object_view own))) t [] (item_words from.items)) (λ words. Ok tt)) tables_are)

-- The check of one word, by what is found of it.

module _ (loads : List Segment) (text : Bool) (tables : List TableLocation) (before : List Word) (word : Word) (some : word.width == 0 ≡ false)
    (load : Segment) (found : find (holds_word word) loads ≡ Some load) (open' : (not text && not (has_flag 2 load)) ≡ false) where
  pub overlap_error : list_any (overlaps word) before ≡ true → check_word loads text tables before (Ok word) ≡ Err WordsOverlap
  overlap_error meets = rw (some, found, open', meets) refl

  pub table_error : list_any (overlaps word) before ≡ false → list_any (touches word) tables ≡ true → check_word loads text tables before (Ok word) ≡ Err WordInTable
  table_error apart inside = rw (some, found, open', apart, inside) refl

  pub passed : list_any (overlaps word) before ≡ false → list_any (touches word) tables ≡ false → check_word loads text tables before (Ok word) ≡ Ok (word ∷ before)
  passed apart outside = rw (some, found, open', apart, outside) refl
