-- The words of a relocation have the bytes of those that were checked.
use Rattle.std.proofs.Common.{◌≡◌, ℕ, zero, suc, ◌+◌, ◌<◌, ◌≤◌, ◌&&◌, not, ◌⊎◌, Bool, true, false, List, [], ◌∷◌, map, slice_get, Option, Some, Result, Ok, Err, if◌then◌else◌, inl, inr, cond, refl, sym, ap, ◌∙◌, subst, arith}
use Rattle.std.specs.Prelude.{All}
use Rattle.std.specs.List.{count_by}
use Rattle.std.proofs.lemmas.Bool.{and_parts}
use Rattle.std.proofs.lemmas.List.Elements.{All-head, All-tail}
use Rattle.std.proofs.lemmas.List.Sums.{sum_by-append}
use Rattle.elf_base.specs.FirstError.{unless}
use Rattle.elf_linking.specs.DynamicObject.{object_file, object_view}
use Rattle.elf_linking.specs.DynamicView.{view_entries}
use Rattle.elf_linking.specs.References.{file_machine}
use Rattle.elf_loading.specs.Types.{Bound, DynamicObject, Formula, LinkError, LoadError, Reference, Relocated, Relocation, Row, Segment, Terms, Word}
use Rattle.elf_linking.proofs.lemmas.Bound.{reference_once}
use Rattle.elf_linking.specs.RelocationTypes.{row_of}
use Rattle.elf_linking.proofs.lemmas.RelocationTypes.{row_passes}
use Rattle.elf_loading.specs.ImageWords.{AreWordsApart, covers, item_words}
use Rattle.elf_loading.specs.OneWord.{is_of_word, is_over}
use Rattle.elf_loading.specs.Values.{bytes_of, low, value_of}
use Rattle.elf_loading.specs.Words.{HasWord, IsBoundIf, addend_of, and_link, formula_word, is_bound_at_once, is_later, needs_symbol, own_size, slot_number, value_rows, value_word, word_of}
use Rattle.elf_loading.specs.WordsLeft.{relocation_of, own_relocations}
use Rattle.elf_linking.specs.declared.references.types.Formula.TheVariants as formulas
use Rattle.elf_loading.specs.declared.value.Origin.TheVariants.{Base}
use Rattle.elf_loading.specs.declared.value.Value.TheVariants.{Sum}
use Rattle.elf_loading.proofs.LoadChecks.{unless_ok}
use Rattle.elf_loading.proofs.Marks.{covers_parts}
use Rattle.xmas_elf.specs.Symbol.{SymbolFields}

pub count_first : {A : Type 0} (p : A → Bool) (x : A) (xs : List A) → count_by p (x ∷ xs) ≡ cond (p x) 1 0 + count_by p xs
count_first p x xs =
    let sum : count_by p (x ∷ xs) ≡ (0 + cond (p x) 1 0) + count_by p xs = sum_by-append (λ y. cond (p y) 1 0) (x ∷ []) xs in
    omega (arith, sum)

-- items and their words, of which a test holds alike, are as many for which it holds
module _ {E : Type 0} (p : Relocated E → Bool) (q : Word → Bool) (alike : (item : Relocated E) (word : Word) → item.word ≡ Ok word → p item ≡ q word) where
  pub count_known : (items : List (Relocated E)) (words : List Word) → item_words items ≡ map (λ word. Ok word) words → count_by p items ≡ count_by q words
  count_known [] [] are = refl
  count_known [] (word ∷ words) are = absurd (cc)
  count_known (item ∷ items) [] are = absurd (cc)
  count_known (item ∷ items) (word ∷ words) are =
      let rest : item_words items ≡ map (λ some. Ok some) words = cc in
      let one = count_first p item items in
      let other = count_first q word words in
      let same : ◌≡◌ {A = ℕ} (cond (p item) 1 0) (cond (q word) 1 0) = ap (λ b. cond b 1 0) (alike item word (cc)) in
      let more = count_known items words rest in
      omega (arith, one, other, same, more)

-- At most one of the words that are checked has a byte.

module _ (address : ℕ) where
  none_of : (words : List Word) → ((j : ℕ) (other : Word) → slice_get words j ≡ Some other → covers address other ≡ true → ⊥)
      → count_by (covers address) words ≡ 0
  none_of [] never = refl
  none_of (word ∷ words) never = by_first (covers address word) refl (none_of words (λ j other is hit. never (suc j) other is hit))
    where
      by_first : (b : Bool) → covers address word ≡ b → count_by (covers address) words ≡ 0 → count_by (covers address) (word ∷ words) ≡ 0
      by_first true hit more = absurd (never zero word refl hit)
      by_first false miss more =
          let count = count_first (covers address) word words in
          let none : ◌≡◌ {A = ℕ} (cond (covers address word) 1 0) 0 = rw miss refl in
          omega (arith, count, none, more)

  one_of : (words : List Word) → ((i j : ℕ) (one other : Word) → i < j → slice_get words i ≡ Some one → slice_get words j ≡ Some other
      → covers address one ≡ true → covers address other ≡ true → ⊥) → count_by (covers address) words ≤ 1
  one_of [] apart = let none : count_by (covers address) [] ≡ 0 = refl in omega (arith, none)
  one_of (word ∷ words) apart = by_first (covers address word) refl
      (one_of words (λ i j one other less is also. apart (suc i) (suc j) one other (omega (arith, less)) is also))
    where
      by_first : (b : Bool) → covers address word ≡ b → count_by (covers address) words ≤ 1 → count_by (covers address) (word ∷ words) ≤ 1
      by_first true hit least =
          let count = count_first (covers address) word words in
          let one : ◌≡◌ {A = ℕ} (cond (covers address word) 1 0) 1 = rw hit refl in
          let more = none_of words (λ j other is also. apart zero (suc j) word other (omega arith) refl is hit also) in
          omega (arith, count, one, more)
      by_first false miss least =
          let count = count_first (covers address) word words in
          let none : ◌≡◌ {A = ℕ} (cond (covers address word) 1 0) 0 = rw miss refl in
          omega (arith, count, none, least)

  pub known_count : {E : Type 0} (items : List (Relocated E)) (words : List Word) → item_words items ≡ map (λ word. Ok word) words
      → count_by (is_over address) items ≡ count_by (covers address) words
  known_count items words are = count_known (is_over address) (covers address) (λ item word is. ap (is_of_word address) is) items words are

-- The bytes of the word of a relocation are those of the word that was checked.

-- a jump slot is of the formula S or S + A
abbrev is_symbol : Option Formula → Bool
is_symbol (Some formulas.SymbolAlone) = true
is_symbol (Some formulas.Symbol) = true
is_symbol _ = false

abbrev has_symbol : Row → Bool
has_symbol row = if row.slot then is_symbol row.formula else true

module _ {E : Type 0} {r : _} (fields : E → SymbolFields) (objects : List (DynamicObject E r)) (own : DynamicObject E r) (of : ℕ) where
  bound_by : (takes : Bool) (reference : Reference) (one other : Result (Option (Bound E)) LinkError)
      → IsBoundIf takes fields objects of reference one → IsBoundIf takes fields objects of reference other → one ≡ other
  bound_by true reference one other is also = reference_once fields objects of reference one other is also
  bound_by false reference one other is also = is ∙ sym also

  -- the parts of an item have the word of its relocation, whose symbol is looked for later or not
  abbrev HasParts : Bool → Relocation → Result (Option (Bound E)) LinkError → Result Word LoadError → Type 0
  HasParts later relocation bound word =
      IsBoundIf (needs_symbol (file_machine (object_file own)) later relocation) fields objects of relocation.reference bound
      × (word ≡ word_of fields (object_file own) own of later relocation bound)

  pub word_once : (later : Bool) (relocation : Relocation) (one other : Result (Option (Bound E)) LinkError) (word word' : Result Word LoadError)
      → HasParts later relocation one word → HasParts later relocation other word' → word ≡ word'
  word_once later relocation one other word word' (is, word_is) (also, word_also) =
      let same = bound_by (needs_symbol (file_machine (object_file own)) later relocation) relocation.reference one other is also in
      word_is ∙ ap (word_of fields (object_file own) own of later relocation) same ∙ sym word_also

  -- items of one relocation have the same word
  pub same_word : (item one : Relocated E) → item.relocation ≡ one.relocation → HasWord fields objects (object_file own) own of false item
      → HasWord fields objects (object_file own) own of false one → item.word ≡ one.word
  same_word item one same is also = word_once false item.relocation item.bound one.bound item.word one.word is
      (subst (λ relocation. HasParts false relocation one.bound one.word) (sym same) also)

  -- a word of the number of bytes of its type is where its relocation says
  abbrev terms_of : Reference → ℕ → Terms
  terms_of reference addend = record {
    own = of;
    address = reference.offset;
    addend = addend;
    size = own_size fields own reference.symbol;
    width = (row_of (file_machine (object_file own)) reference.kind).width;
  }

  abbrev IsPlain : Formula → Type 0
  IsPlain formula = (terms : Terms) (symbol : Option (Bound E)) → bytes_of terms.width (value_of fields terms symbol formula) ≡ terms.width

  extent_of : (formula : Formula) (in_place : Bool) (reference : Reference) (bound : Result (Option (Bound E)) LinkError) (word : Word) → IsPlain formula
      → formula_word fields (object_file own) own of in_place reference bound (Some formula) ≡ Ok word
      → (word.address ≡ reference.offset) × (word.width ≡ (row_of (file_machine (object_file own)) reference.kind).width)
  extent_of formula in_place reference bound word plain is = by_parts (addend_of (object_file own) in_place formula reference) bound is
    where
      by_parts : (said : Result ℕ LinkError) (found : Result (Option (Bound E)) LinkError)
          → and_link said (λ addend. and_link found (λ symbol. unless (value_rows fields reference.symbol symbol formula) (value_word fields (terms_of reference addend) symbol formula))) ≡ Ok word
          → (word.address ≡ reference.offset) × (word.width ≡ (row_of (file_machine (object_file own)) reference.kind).width)
      by_parts (Err e) found is = absurd (cc)
      by_parts (Ok addend) (Err e) is = absurd (cc)
      by_parts (Ok addend) (Ok symbol) is =
          let (none, same) = unless_ok (value_rows fields reference.symbol symbol formula) (value_word fields (terms_of reference addend) symbol formula) word is in
          (sym (ap (λ (w : Word). w.address) same), sym (ap (λ (w : Word). w.width) same) ∙ plain (terms_of reference addend) symbol)

  abbrev slot_with : Reference → ℕ → ℕ → Word
  slot_with reference width number = record { address = reference.offset; width = width; value = Sum (Base of) (low width number) }

  -- the word of a slot that gets its symbol later is where its relocation says
  slot_extent : (reference : Reference) (width : ℕ) (said : Result ℕ LinkError) (word : Word) → and_link said (λ number. Ok (slot_with reference width number)) ≡ Ok word
      → (word.address ≡ reference.offset) × (word.width ≡ width)
  slot_extent reference width (Err e) word is = absurd (cc)
  slot_extent reference width (Ok number) word is =
      let same : slot_with reference width number ≡ word = cc in
      (sym (ap (λ (w : Word). w.address) same), sym (ap (λ (w : Word). w.width) same))

  slot_formula : (m k : ℕ) → (row_of m k).slot ≡ true → ((row_of m k).formula ≡ Some formulas.SymbolAlone) ⊎ ((row_of m k).formula ≡ Some formulas.Symbol)
  slot_formula m k slot = by_slot (row_of m k).slot (row_of m k).formula (row_passes has_symbol refl refl refl m k refl) slot
    where
      by_formula : (formula : Option Formula) → is_symbol formula ≡ true → (formula ≡ Some formulas.SymbolAlone) ⊎ (formula ≡ Some formulas.Symbol)
      by_formula (Some formulas.SymbolAlone) is = inl refl
      by_formula (Some formulas.Symbol) is = inr refl
      by_formula _ is = absurd (cc)

      by_slot : (slot : Bool) (formula : Option Formula) → (if slot then is_symbol formula else true) ≡ true → slot ≡ true
          → (formula ≡ Some formulas.SymbolAlone) ⊎ (formula ≡ Some formulas.Symbol)
      by_slot true formula is so = by_formula formula is
      by_slot false formula is so = absurd (cc)

  module _ (address : ℕ) where
    covers_same : (one other : Word) → one.address ≡ other.address → one.width ≡ other.width → covers address one ≡ true → covers address other ≡ true
    covers_same one other start size hit = rw (sym start, sym size) hit

    -- a word whose slot gets its symbol later is where the slot is
    over_later : (relocation : Relocation) (one other : Result (Option (Bound E)) LinkError) (word : Result Word LoadError) (known : Word)
        → (row_of (file_machine (object_file own)) relocation.reference.kind).slot ≡ true → HasParts true relocation one word → HasParts false relocation other (Ok known)
        → is_of_word address word ≡ true → covers address known ≡ true
    over_later relocation one other (Err e) known slot has also hit = absurd (cc)
    over_later relocation one other (Ok word) known slot (is, word_is) (is', word_is') hit =
        let machine = file_machine (object_file own) in
        let width = (row_of machine relocation.reference.kind).width in
        let (start, size) = slot_extent relocation.reference width (slot_number (object_file own) (view_entries (object_view own)) width relocation.reference.offset) word (sym word_is) in
        let formula = (row_of machine relocation.reference.kind).formula in
        let there : (found : Option Formula) → formula ≡ found → formula_word fields (object_file own) own of relocation.in_place relocation.reference other found ≡ Ok known
        = λ found same. ap (formula_word fields (object_file own) own of relocation.in_place relocation.reference other) (sym same) ∙ sym word_is' in
        let extent : (known.address ≡ relocation.reference.offset) × (known.width ≡ (row_of machine relocation.reference.kind).width)
        = elim (slot_formula machine relocation.reference.kind slot) [
          | inl alone ↦ extent_of formulas.SymbolAlone relocation.in_place relocation.reference other known (λ terms symbol. refl) (there (Some formulas.SymbolAlone) alone)
          | inr symbol ↦ extent_of formulas.Symbol relocation.in_place relocation.reference other known (λ terms symbol. refl) (there (Some formulas.Symbol) symbol)
        ] in
        covers_same word known (start ∙ sym extent.0) (size ∙ sym extent.1) hit

    over_by : (lazy later : Bool) (relocation : Relocation) (one other : Result (Option (Bound E)) LinkError) (word : Result Word LoadError) (known : Word)
        → is_later fields (object_file own) own lazy relocation ≡ later → HasParts later relocation one word → HasParts false relocation other (Ok known)
        → is_of_word address word ≡ true → covers address known ≡ true
    over_by lazy false relocation one other word known is has also hit =
        let same : word ≡ Ok known = word_once false relocation one other word (Ok known) has also in
        ap (is_of_word address) (sym same) ∙ hit
    over_by lazy true relocation one other word known is has also hit =
        let jump = (row_of (file_machine (object_file own)) relocation.reference.kind).slot in
        let rest = not (is_bound_at_once fields (object_file own) own relocation) in
        let slot = (and_parts jump rest (and_parts relocation.slot (jump && rest) (and_parts lazy (relocation.slot && (jump && rest)) is).1).1).0 in
        over_later relocation one other word known slot has also hit

    over_same : (lazy : Bool) (item checked : Relocated E) (known : Word) → item.relocation ≡ checked.relocation → checked.word ≡ Ok known
        → HasWord fields objects (object_file own) own of lazy item → HasWord fields objects (object_file own) own of false checked
        → is_over address item ≡ true → is_over address checked ≡ true
    over_same lazy item checked known same known_is has also hit =
        let there : HasParts false item.relocation checked.bound (Ok known) =
        subst (λ rel. HasParts false rel checked.bound (Ok known)) (sym same) (subst (HasParts false checked.relocation checked.bound) known_is also) in
        ap (is_of_word address) known_is
        ∙ over_by lazy (is_later fields (object_file own) own lazy item.relocation) item.relocation item.bound checked.bound item.word known refl has there hit

    count_least : (one other : Bool) → (one ≡ true → other ≡ true) → ◌≤◌ (cond one 1 0) (cond other 1 0)
    count_least true other so = rw (so refl) (omega arith)
    count_least false true so = omega arith
    count_least false false so = omega arith

    count_le : (lazy : Bool) (items checked : List (Relocated E)) (words : List Word) → map relocation_of items ≡ map relocation_of checked
        → item_words checked ≡ map (λ word. Ok word) words → All (HasWord fields objects (object_file own) own of lazy) items
        → All (HasWord fields objects (object_file own) own of false) checked → count_by (is_over address) items ≤ count_by (is_over address) checked
    count_le lazy [] checked words same known has also = let none : count_by (is_over {E = E} address) [] ≡ 0 = refl in omega (arith, none)
    count_le lazy (item ∷ items) [] words same known has also = absurd (cc)
    count_le lazy (item ∷ items) (one ∷ checked) [] same known has also = absurd (cc)
    count_le lazy (item ∷ items) (one ∷ checked) (word ∷ words) same known has also =
        let first : item.relocation ≡ one.relocation = cc in
        let rest : map relocation_of items ≡ map relocation_of checked = cc in
        let word_is : one.word ≡ Ok word = cc in
        let words_are : item_words checked ≡ map (λ some. Ok some) words = cc in
        let worded = HasWord fields objects (object_file own) own of lazy in
        let known_so = HasWord fields objects (object_file own) own of false in
        let count = count_first (is_over address) item items in
        let other = count_first (is_over address) one checked in
        let least = count_least (is_over address item) (is_over address one) (over_same lazy item one word first word_is (All-head worded item items has) (All-head known_so one checked also)) in
        let more = count_le lazy items checked words rest words_are (All-tail worded item items has) (All-tail known_so one checked also) in
        omega (arith, count, other, least, more)

  -- no more than one word has the byte at an address
  pub checked_once : (loads : List Segment) (lazy : Bool) (address : ℕ) (items : List (Relocated E)) → own_relocations (Some own) ≡ Ok (map relocation_of items)
      → All (HasWord fields objects (object_file own) own of lazy) items → AreWordsApart fields objects of own loads
      → count_by (is_over address) items ≤ 1
  checked_once loads lazy address items are has law =
      let same : map relocation_of items ≡ map relocation_of law.items = by_ok (sym are ∙ law.relocations_are) in
      let least = count_le address lazy items law.items law.words same law.words_are has law.have_words in
      let known = known_count address law.items law.words law.words_are in
      let one = one_of address law.words (λ i j one other less is also hit hits. law.apart i j one other address less is also (covers_parts address one hit) (covers_parts address other hits)) in
      omega (arith, least, known, one)
    where
      by_ok : {A B : Type 0} {x y : A} → ◌≡◌ {A = Result A B} (Ok x) (Ok y) → x ≡ y
      by_ok is = cc

  -- no more than one of the words that are checked has the byte at an address
  pub apart_once : (loads : List Segment) (address : ℕ) (law : AreWordsApart fields objects of own loads) → count_by (covers address) law.words ≤ 1
  apart_once loads address law =
      one_of address law.words (λ i j one other less is also hit hits. law.apart i j one other address less is also (covers_parts address one hit) (covers_parts address other hits))
