-- What holds of an object whose words can be written.
use Rattle.std.proofs.Common.{◌≡◌, ℕ, zero, suc, ◌+◌, ◌<◌, ◌==◌, ◌&&◌, not, nat_lt, Bool, true, false, List, [], ◌∷◌, ◌++◌, length, map, Option, Some, None, is_none, Result, Ok, Err, if◌then◌else◌, min, max, refl, sym, ap, ◌∙◌, subst, arith, append-nil}
use Rattle.std.proofs.lemmas.Bool.{eqb-true, lt-ltb, ne_eqb, not-false, or_parts}
use Rattle.std.proofs.lemmas.Option.{slice_get_read}
use Rattle.std.specs.Prelude.{IfOk, slice_get, ⊤}
use Rattle.std.specs.List.{Contains, find, list_any}
use Rattle.elf_base.specs.FirstError.{and_then, unless}
use Rattle.elf_linking.specs.DynamicObject.{object_view}
use Rattle.elf_linking.specs.DynamicView.{view_entries}
use Rattle.elf_loading.specs.Types.{DynamicObject, LoadError, Segment, TableLocation, Word}
use Rattle.elf_loading.specs.ImageTables.{asks_for_text, tables_of}
use Rattle.elf_loading.specs.Segments.{has_flag}
use Rattle.elf_loading.specs.ImageWords.{AreWritten, IsImageCheck, IsInExtent, IsOwnCheck, IsWritableWord, MatchBoth, by_words, check_word, check_words, holds_word, is_shut, overlaps, not_begun, touches, word_rows, item_words}
use Rattle.elf_loading.specs.Plan.{plan_loads}
use Rattle.elf_loading.specs.WordsLeft.{relocation_of}
use Rattle.elf_linking.specs.declared.error.LinkError.TheVariants.{ObjectIndex}
use Rattle.elf_loading.specs.declared.error.LoadError.TheVariants as error
use Rattle.elf_loading.specs.declared.plan.LoadPlan.{LoadPlan}
use Rattle.elf_loading.proofs.ImageChecks.{relocations_are, then_ok}
use Rattle.elf_loading.proofs.ImageLoads.{found_holder, holder_within}
use Rattle.elf_loading.proofs.LoadChecks.{unless_ok}
use Rattle.xmas_elf.specs.Symbol.{SymbolFields}

-- an item that is not one that passes a test
none_at : {X : Type 0} (test : X → Bool) (xs : List X) (k : ℕ) (x : X) → list_any test xs ≡ false → slice_get xs k ≡ Some x → test x ≡ false
none_at test [] k x none is = absurd (cc)
none_at test (y ∷ xs) zero x none is = let same : y ≡ x = cc in subst (λ one. test one ≡ false) same (or_parts (test y) (list_any test xs) none).0
none_at test (y ∷ xs) (suc k) x none is = none_at test xs k x (or_parts (test y) (list_any test xs) none).1 is

read_of : {X : Type 0} (xs : List X) (x : X) → Contains xs x → (k : ℕ) × (slice_get xs k ≡ Some x)
read_of xs x (k, below, at) = (k, slice_get_read xs (length xs) k x refl below (sym at))

-- ranges with an address in common meet
meet_at : (start size other many address : ℕ) → IsInExtent start size address → IsInExtent other many address → nat_lt (max start other) (min (start + size) (other + many)) ≡ true
meet_at start size other many address (one, two) (three, four) = lt-ltb _ _ (omega (arith, one, two, three, four))

true_false : true ≡ false → ⊥
true_false is = absurd (cc)

module _ (loads : List Segment) (text : Bool) (tables : List TableLocation) where
  -- a word with bytes can be written, and meets none of those before it
  pub record IsPassed (before : List Word) (word : Word) : Type 0 where
    pub writable : 0 < word.width → IsWritableWord loads text tables word
    pub apart : (k : ℕ) (one : Word) (address : ℕ) → slice_get before k ≡ Some one → IsInExtent word.address word.width address → IsInExtent one.address one.width address → ⊥

  abbrev after_word : List Word → Word → List Word
  after_word before word = if word.width == 0 then before else word ∷ before

  -- words of which each has passed
  abbrev pub ArePassed : List Word → List Word → Type 0
  ArePassed before [] = ⊤
  ArePassed before (word ∷ words) = IsPassed before word × ArePassed (after_word before word) words

  in_no_table : (word : Word) → list_any (touches word) tables ≡ false → (table : TableLocation) (start size address : ℕ) → Contains tables table → table.start ≡ Some start → table.size ≡ Some size → IsInExtent word.address word.width address → IsInExtent start size address → ⊥
  in_no_table word none table start size address has start_is size_is in_word in_table =
      let (k, at) = read_of tables table has in
      let untouched : touches word table ≡ false = none_at (touches word) tables k table none at in
      let meets : touches word table ≡ true = rw (start_is, size_is) (meet_at word.address word.width start size address in_word in_table) in
      true_false (sym meets ∙ untouched)

  writable_by : (word : Word) (found : Option Segment) → find (holds_word word) loads ≡ found → is_none found ≡ false → (not text && is_shut found) ≡ false → list_any (touches word) tables ≡ false → IsWritableWord loads text tables word
  writable_by word None is some shut free = absurd (true_false some)
  writable_by word (Some load) is some shut free =
      let within = found_holder word loads load is in record {
        held = (load, holder_within word loads load is, within.begins, within.ends);
        writable = λ closed. not-false (has_flag 2 load) (rw closed at shut);
        in_no_table = in_no_table word free;
      }

  word_passes : (before after : List Word) (word : Word) (b : Bool) → word.width == 0 ≡ b → (if b then Ok before else unless (word_rows loads text tables before word) (word ∷ before)) ≡ Ok after → IsPassed before word × ((if b then before else word ∷ before) ≡ after)
  word_passes before after word true empty is =
      let none : word.width ≡ 0 = eqb-true word.width 0 empty in (
        record {
          writable = λ some. absurd (omega (arith, none, some));
          apart = λ k one address at (from, to) other. absurd (omega (arith, none, from, to));
        },
        cc,
      )
  word_passes before after word false empty is =
      let (none, same) = unless_ok (word_rows loads text tables before word) (word ∷ before) after is in (
        record {
          writable = λ some. writable_by word (find (holds_word word) loads) refl none.0 none.1.0 none.1.1.1.0;
          apart = λ k one address at in_word in_one. true_false (sym (meet_at word.address word.width one.address one.width address in_word in_one) ∙ none_at (overlaps word) before k one none.1.1.0 at);
        },
        same,
      )

  -- words that pass are all known, and each has passed
  pub record ArePassing (before : List Word) (results : List (Result Word LoadError)) : Type 0 where
    pub words : List Word
    pub words_are : results ≡ map (λ word. Ok word) words
    pub passed : ArePassed before words

  one_passing : (before : List Word) (word : Word) (results : List (Result Word LoadError)) → IsPassed before word → ArePassing (after_word before word) results → ArePassing before (Ok word ∷ results)
  one_passing before word results one others = record {
    words = word ∷ others.words;
    words_are = ap (λ rest. Ok word ∷ rest) others.words_are;
    passed = (one, others.passed);
  }

  passing_by : (before after : List Word) (word : Word) (results : List (Result Word LoadError)) (r : Result (List Word) LoadError) → check_word loads text tables before (Ok word) ≡ r
      → ((next : List Word) → check_words loads text tables next results ≡ Ok after → ArePassing next results)
      → and_then r (λ next. check_words loads text tables next results) ≡ Ok after → ArePassing before (Ok word ∷ results)
  passing_by before after word results (Err error) one others more = absurd (cc)
  passing_by before after word results (Ok next) one others more =
      let (passed, same) = word_passes before next word (word.width == 0) refl one in
      one_passing before word results passed (subst (λ list. ArePassing list results) (sym same) (others next more))

  pub all_passing : (before after : List Word) (results : List (Result Word LoadError)) → check_words loads text tables before results ≡ Ok after → ArePassing before results
  unfolding check_words
  all_passing before after [] is = record { words = []; words_are = refl; passed = tt }
  all_passing before after (Err error ∷ results) is = absurd (cc)
  all_passing before after (Ok word ∷ results) is = passing_by before after word results (check_word loads text tables before (Ok word)) refl (λ next. all_passing next after results) is

  each_passed : (before words : List Word) (k : ℕ) (word : Word) → ArePassed before words → slice_get words k ≡ Some word → 0 < word.width → IsWritableWord loads text tables word
  each_passed before [] k word passed at some = absurd (cc)
  each_passed before (first ∷ words) zero word (one, others) at some = let same : first ≡ word = cc in subst (λ w. 0 < w.width → IsWritableWord loads text tables w) same one.writable some
  each_passed before (first ∷ words) (suc k) word (one, others) at some = each_passed (after_word before first) words k word others at some

  -- a word of those before is still one of those before later words
  kept_before : (before : List Word) (word one : Word) (k : ℕ) (b : Bool) → slice_get before k ≡ Some one → (i : ℕ) × (slice_get (if b then before else word ∷ before) i ≡ Some one)
  kept_before before word one k true at = (k, at)
  kept_before before word one k false at = (suc k, at)

  apart_before : (before words : List Word) (k j : ℕ) (one other : Word) (address : ℕ) → ArePassed before words → slice_get before k ≡ Some one → slice_get words j ≡ Some other → IsInExtent one.address one.width address → IsInExtent other.address other.width address → ⊥
  apart_before before [] k j one other address passed at later in_one in_other = absurd (cc)
  apart_before before (first ∷ words) k zero one other address (here, others) at later in_one in_other =
      let same : first ≡ other = cc in
      here.apart k one address at (subst (λ w. IsInExtent w.address w.width address) (sym same) in_other) in_one
  apart_before before (first ∷ words) k (suc j) one other address (here, others) at later in_one in_other =
      let (i, still) = kept_before before first one k (first.width == 0) at in
      apart_before (after_word before first) words i j one other address others still later in_one in_other

  first_kept : (before : List Word) (word : Word) (b : Bool) → b ≡ false → slice_get (if b then before else word ∷ before) 0 ≡ Some word
  first_kept before word true is = absurd (true_false is)
  first_kept before word false is = refl

  all_apart : (before words : List Word) (i j : ℕ) (one other : Word) (address : ℕ) → ArePassed before words → i < j → slice_get words i ≡ Some one → slice_get words j ≡ Some other → IsInExtent one.address one.width address → IsInExtent other.address other.width address → ⊥
  all_apart before [] i j one other address passed order at later in_one in_other = absurd (cc)
  all_apart before (first ∷ words) i zero one other address passed order at later in_one in_other = absurd (omega (arith, order))
  all_apart before (first ∷ words) zero (suc j) one other address (here, others) order at later in_one in_other =
      let same : first ≡ one = cc in
      let in_first = subst (λ w. IsInExtent w.address w.width address) (sym same) in_one in
      apart_before (after_word before first) words 0 j first other address others (first_kept before first (first.width == 0) (ne_eqb first.width 0 (λ none. absurd (omega (arith, none, in_first.0, in_first.1))))) later in_first in_other
  all_apart before (first ∷ words) (suc i) (suc j) one other address (here, others) order at later in_one in_other =
      all_apart (after_word before first) words i j one other address others (omega (arith, order)) at later in_one in_other

module _ {E : Type 0} {r : _} (size : ℕ) (fields : E → SymbolFields) (objects : List (DynamicObject E r)) (of bits : ℕ) where
  own_passes : (own : DynamicObject E r) (plan : LoadPlan) (result : Result (Unit {0}) LoadError) → result ≡ Ok tt → IsOwnCheck size fields objects of own plan bits result → AreWritten size fields objects of own plan
  own_passes own plan result ok (not_begun error why is) = absurd (cc)
  own_passes own plan result ok (by_words relocations items checked first is) =
      let text = asks_for_text (view_entries (object_view own)) in
      let (after, passes, done) = then_ok (check_words (plan_loads plan) text (tables_of size own) [] (item_words items)) (λ words. Ok (tt {0})) tt (sym is ∙ ok) in
      let passing = all_passing (plan_loads plan) text (tables_of size own) [] after (item_words items) passes in
      let none : first.rest ≡ [] = subst (λ one. IfOk one (λ d. first.rest ≡ [])) ok first.all in
      let each : (word : Word) → Contains passing.words word → 0 < word.width → IsWritableWord (plan_loads plan) text (tables_of size own) word =
      λ word has some. let (k, at) = read_of passing.words word has in each_passed _ _ _ [] passing.words k word passing.passed at some in record {
        apart = record {
          items = items;
          words = passing.words;
          relocations_are = relocations_are size own plan bits relocations checked ∙ ap (λ list. Ok list) (first.are ∙ ap (λ rest. map relocation_of items ++ rest) none ∙ append-nil (map relocation_of items));
          have_words = first.have_words;
          words_are = passing.words_are;
          held = λ word has some. (each word has some).held;
          apart = λ i j one other address order at later in_one in_other. all_apart _ _ _ [] passing.words i j one other address passing.passed order at later in_one in_other;
        };
        each = each;
      }

  at_passes : (own : Option (DynamicObject E r)) (plan : Option LoadPlan) (result : Result (Unit {0}) LoadError) → MatchBoth own plan (result ≡ Err (error.Link ObjectIndex)) (λ own plan. IsOwnCheck size fields objects of own plan bits result)
      → IfOk result (λ done. MatchBoth own plan ⊥ (AreWritten size fields objects of))
  at_passes None plan (Ok done) is = absurd (cc)
  at_passes (Some own) None (Ok done) is = absurd (cc)
  at_passes (Some own) (Some plan) (Ok done) is = own_passes own plan (Ok done) (search) is
  at_passes own plan (Err error) is = tt

  pub image_passes : (plans : List LoadPlan) (result : Result (Unit {0}) LoadError) → IsImageCheck size fields objects plans of bits result → IfOk result (λ done. MatchBoth (slice_get objects of) (slice_get plans of) ⊥ (AreWritten size fields objects of))
  image_passes plans result is = at_passes (slice_get objects of) (slice_get plans of) result is
