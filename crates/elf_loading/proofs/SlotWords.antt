-- The word at a slot of a checked object.
use Rattle.std.proofs.Common.{◌≡◌, ℕ, zero, suc, ◌+◌, ◌-◌, ◌%◌, ◌^◌, ◌<◌, ◌≤◌, ◌||◌, ◌==◌, nat_lt, Bool, true, false, List, [], ◌∷◌, length, slice_index, slice_index_or, Option, None, Some, inl, inr, cond, if◌then◌else◌, refl, ◌∙◌, arith}
use Rattle.std.specs.Borrow.{Bor}
use Rattle.std.specs.List.{Contains, cons_option, count_by, filter_map, find}
use Rattle.std.specs.Prelude.{IfSome, is_none}
use Rattle.std.proofs.lemmas.Bool.{le-leb, lt-ltb, cases_lt, le-ltb}
use Rattle.elf_base.specs.Number.{number}
use Rattle.elf_linking.specs.RelocationTypes.{row_of}
use Rattle.elf_loading.proofs.CheckedWords.{count_first}
use Rattle.elf_loading.specs.CheckedImage.{ImageParts, image_words, relocated_at, start_in, word_for}
use Rattle.elf_loading.specs.ImageWords.{covers}
use Rattle.elf_loading.specs.Relocate.{byte_of_number, place_at, plus}
use Rattle.elf_loading.specs.Types.{Bound, Formula, Reference}
use Rattle.elf_loading.specs.declared.relocate.Place.{Place}
use Rattle.elf_loading.specs.Values.{is_elsewhere, is_indirect, target_of}
use Rattle.elf_loading.specs.declared.value.Origin.TheVariants.{Base}
use Rattle.elf_loading.specs.declared.value.Value.TheVariants.{Sum}
use Rattle.elf_loading.specs.declared.words.Word.{Word}
use Rattle.elf_loading.proofs.NumbersRead.{number_of_bytes}
use Rattle.elf_loading.specs.Slots.{HasWords, HoldsSymbol, IsOfSymbol, IsSymbolSlot, word_in}
use Rattle.xmas_elf.specs.Symbol.{SymbolFields}

-- what h gives of an element is in the list of what it gives
contains_given : {A B : Type 0} (h : A → Option B) (x : A) (y : B) (xs : List A) (k : ℕ) → k < length xs → slice_index_or xs k x ≡ x → h x ≡ Some y → Contains (filter_map h xs) y
contains_given h x y [] k below is gives = absurd (omega (arith, below))
contains_given h x y (first ∷ xs) zero below is gives = rw (is, gives) (0, omega arith, refl)
contains_given h x y (first ∷ xs) (suc k) below is gives = after (h first) (contains_given h x y xs k (omega (arith, below)) is gives)
  where
    after : (given : Option _) → Contains (filter_map h xs) y → Contains (cons_option given (filter_map h xs)) y
    after None there = there
    after (Some other) (j, within, at) = (suc j, omega (arith, within), at)

-- an element that passes a test, where at most one does, is the one that is found
module _ {A : Type 0} (p : A → Bool) (x : A) (passes : p x ≡ true) where
  not_none : (xs : List A) (k : ℕ) → k < length xs → slice_index_or xs k x ≡ x → 1 ≤ count_by p xs
  not_none [] k below is = absurd (omega (arith, below))
  not_none (first ∷ xs) zero below is =
      let count = count_first p first xs in
      let one : ◌≡◌ {A = ℕ} (cond (p first) 1 0) 1 = rw (is, passes) refl in
      omega (arith, count, one)
  not_none (first ∷ xs) (suc k) below is =
      let count = count_first p first xs in
      let more = not_none xs k (omega (arith, below)) is in
      omega (arith, count, more)

  found_once : (xs : List A) (k : ℕ) → k < length xs → slice_index_or xs k x ≡ x → count_by p xs ≤ 1 → find p xs ≡ Some x
  found_once [] k below is once = absurd (omega (arith, below))
  found_once (first ∷ xs) zero below is once = rw (is, passes) refl
  found_once (first ∷ xs) (suc k) below is once = by_first (p first) refl (not_none xs k (omega (arith, below)) is) (found_once xs k (omega (arith, below)) is)
    where
      by_first : (b : Bool) → p first ≡ b → 1 ≤ count_by p xs → (count_by p xs ≤ 1 → find p xs ≡ Some x) → (if b then Some first else find p xs) ≡ Some x
      by_first true hit more rest =
          let count = count_first p first xs in
          let one : ◌≡◌ {A = ℕ} (cond (p first) 1 0) 1 = rw hit refl in
          absurd (omega (arith, count, one, more, once))
      by_first false miss more rest =
          let count = count_first p first xs in
          let none : ◌≡◌ {A = ℕ} (cond (p first) 1 0) 0 = rw miss refl in
          rest (omega (arith, count, none, once))

-- the word of such a slot
abbrev pub slot_word : ℕ → Bound SymbolFields → Word
slot_word address bound = record { address = address; width = 8; value = Sum (Base bound.object) (bound.symbol.value % 2 ^ 64) }

-- the target of a plain symbol
plain_target : (bound : Bound SymbolFields) → is_elsewhere (λ symbol. symbol) (Some bound) ≡ false
    → target_of (λ symbol. symbol) (Some bound) ≡ record { origin = Base bound.object; number = bound.symbol.value }
plain_target bound plain = by_kind (is_indirect bound.symbol) (bound.symbol.shndx == 0xfff1) refl refl plain
  where
    by_kind : (i a : Bool) → is_indirect bound.symbol ≡ i → (bound.symbol.shndx == 0xfff1) ≡ a → (i || is_none (if a then None else Some bound.object)) ≡ false
        → target_of (λ symbol. symbol) (Some bound) ≡ record { origin = Base bound.object; number = bound.symbol.value }
    by_kind false false indirect absolute none = rw (indirect, absolute) refl
    by_kind true a indirect absolute none = absurd (cc)
    by_kind false true indirect absolute none = absurd (cc)

module _ (parts : ImageParts) (address : ℕ) (reference : Reference) (bound : Bound SymbolFields) (slot : IsSymbolSlot parts address reference bound) where
  word_is : word_for parts reference ≡ Some (slot_word address bound)
  word_is = by_formula (row_of parts.own.machine reference.kind).formula refl slot.formula (plain_target bound slot.plain)
    where
      by_formula : (formula : Option Formula) → (row_of parts.own.machine reference.kind).formula ≡ formula → IsOfSymbol formula reference.addend
          → target_of (λ symbol. symbol) (Some bound) ≡ record { origin = Base bound.object; number = bound.symbol.value }
          → word_for parts reference ≡ Some (slot_word address bound)
      by_formula formula is (inl alone) target = rw (is, alone, slot.width, slot.place, slot.bound_is, target) refl
      by_formula formula is (inr (with_addend, none)) target =
          let same : bound.symbol.value + 0 ≡ bound.symbol.value = omega arith in
          rw (is, with_addend, slot.width, slot.place, slot.bound_is, none, target, same) refl

  listed_word : Contains (image_words parts) (slot_word address bound)
  listed_word = contains_given (word_for parts) reference (slot_word address bound) parts.references slot.listed.0 slot.listed.1 slot.listed.2 word_is

  module _ (places : List Place) (images : List (Bor (List ℕ))) (apart : (at : ℕ) → count_by (covers at) (image_words parts) ≤ 1) where
    abbrev slot_value : ℕ
    slot_value = plus (place_at places bound.object).base (bound.symbol.value % 2 ^ 64)

    byte_is : (at j old : ℕ) → j < 8 → at ≡ address + j → relocated_at parts places images (image_words parts) at old ≡ byte_of_number parts.order 8 slot_value j
    byte_is at j old below is =
        let covered : covers at (slot_word address bound) ≡ true = rw (le-leb address at (omega (arith, is)), lt-ltb at (address + 8) (omega (arith, is, below))) refl in
        let (k, within, there) = listed_word in
        let found = found_once (covers at) (slot_word address bound) covered (image_words parts) k within there (apart at) in
        let place : at - address ≡ j = omega (arith, is) in
        rw (found, place) refl

    same_sum : slot_value % 256 ^ 8 ≡ plus (place_at places bound.object).base bound.symbol.value
    same_sum = omega arith

    module _ (memory : List ℕ) (start : ℕ)
        (each : (i : ℕ) → i < length memory → (old : ℕ) × (slice_index memory i ≡ relocated_at parts places images (image_words parts) (start + i) old)) where
      read_is : start ≤ address → address - start + 8 ≤ length memory → number parts.order 8 (address - start) memory ≡ plus (place_at places bound.object).base bound.symbol.value
      read_is from to = number_of_bytes parts.order slot_value 8 (address - start) memory (λ j below.
          let (old, there) = each (address - start + j) (omega (arith, to, below)) in
          there ∙ byte_is (start + (address - start + j)) j old below (omega (arith, from))) ∙ same_sum

      slot_read : start_in parts parts.index ≡ start → IfSome (word_in parts memory address) (λ word. word ≡ plus (place_at places bound.object).base bound.symbol.value)
      slot_read is = rw is (elim (cases_lt address start) [
        | inl less ↦ (let outside : nat_lt address start ≡ true = lt-ltb address start less in rw outside tt)
        | inr more ↦ elim (cases_lt (length memory) (address - start + 8)) [
          | inl short ↦ (
              let from : nat_lt address start ≡ false = le-ltb address start more in
              let outside : nat_lt (length memory) (address - start + 8) ≡ true = lt-ltb (length memory) (address - start + 8) short in
              rw (from, outside) tt)
          | inr fits ↦ (
              let from : nat_lt address start ≡ false = le-ltb address start more in
              let inside : nat_lt (length memory) (address - start + 8) ≡ false = le-ltb (length memory) (address - start + 8) fits in
              rw (from, inside) (read_is more fits))
        ]
      ])

-- the word that is read at the slot of a symbol
pub symbol_held : (parts : ImageParts) (places : List Place) (images : List (Bor (List ℕ))) (memory : List ℕ) (address : ℕ) (word : Option ℕ) → word ≡ word_in parts memory address → HasWords parts places images memory → HoldsSymbol parts places address word
symbol_held parts places images memory address word is has reference bound slot =
    rw is (slot_read parts address reference bound slot places images has.apart memory (start_in parts parts.index) has.bytes refl)
