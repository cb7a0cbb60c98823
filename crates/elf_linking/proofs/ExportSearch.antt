-- Searches of a list of symbols, by tests; and of the symbols of a chain.
use Rattle.std.proofs.Common.{◌≡◌, ◌≢◌, ℕ, zero, suc, ◌+◌, ◌<◌, Bool, true, false, List, [], ◌∷◌, Option, Some, None, refl, sym, ap, ◌∙◌, inl, inr, arith, slice_get, cond}
use Rattle.std.proofs.Math.Dec.{eqb}
use Rattle.std.proofs.lemmas.Bool.{eq-eqb}
use Rattle.std.proofs.lemmas.Bool.Decides.{eqb_tells}
use Rattle.std.specs.List.{list_any}
use Rattle.std.specs.Prelude.{◌&&◌, ◌||◌, ◌==◌, not, filter, find, filter_map, is_some}
use Rattle.elf_linking.specs.Checked.{only}
use Rattle.elf_linking.specs.Exports.{SymbolParts, chain_from}

-- Two truths.

pub both_true : (a b : Bool) → (a && b) ≡ true → (a ≡ true) × (b ≡ true)
both_true true true is = (refl, refl)
both_true true false is = absurd (cc)
both_true false b is = absurd (cc)

pub and_true : (a b : Bool) → a ≡ true → b ≡ true → (a && b) ≡ true
and_true true true one two = refl
and_true true false one two = absurd (cc)
and_true false b one two = absurd (cc)

-- what isn't true is false
pub not_true : (b : Bool) → (b ≡ true → ⊥) → b ≡ false
not_true true never = absurd (never refl)
not_true false never = refl

pub eqb_same : (n : ℕ) → eqb n n ≡ true
eqb_same n = eq-eqb n n refl

pub eqb_true : (a b : ℕ) → eqb a b ≡ true → a ≡ b
eqb_true a b is = elim (eqb_tells a b) [ inl same ↦ same.1 | inr other ↦ absurd (let no = other.0 in cc) ]

pub eqb_other : (a b : ℕ) → a ≢ b → eqb a b ≡ false
eqb_other a b differs = not_true (eqb a b) (λ is. differs (eqb_true a b is))

module _ {A : Type 0} where
  -- the first of a list
  abbrev pub head_of : List A → Option A
  head_of [] = None
  head_of (x ∷ xs) = Some x

  pub find_never : (p : A → Bool) (xs : List A) → ((x : A) → p x ≡ false) → find p xs ≡ None
  find_never p [] never = refl
  find_never p (x ∷ xs) never = rw (never x) (find_never p xs never)

  -- a search of what passes another test
  pub find-filter : (p q : A → Bool) (xs : List A) → find p (filter q xs) ≡ find (λ x. q x && p x) xs
  find-filter p q [] = refl
  find-filter p q (x ∷ xs) = elim (q x) as (λ b. find p (cond b (x ∷ filter q xs) (filter q xs)) ≡ cond (b && p x) (Some x) (find (λ y. q y && p y) xs)) [
    | true ↦ ap (λ found. cond (p x) (Some x) found) (find-filter p q xs)
    | false ↦ find-filter p q xs
  ]

  pub filter-filter : (p q : A → Bool) (xs : List A) → filter p (filter q xs) ≡ filter (λ x. q x && p x) xs
  filter-filter p q [] = refl
  filter-filter p q (x ∷ xs) = elim (q x) as (λ b. filter p (cond b (x ∷ filter q xs) (filter q xs)) ≡ cond (b && p x) (x ∷ filter (λ y. q y && p y) xs) (filter (λ y. q y && p y) xs)) [
    | true ↦ ap (λ found. cond (p x) (x ∷ found) found) (filter-filter p q xs)
    | false ↦ filter-filter p q xs
  ]

  pub head-filter : (p : A → Bool) (xs : List A) → head_of (filter p xs) ≡ find p xs
  head-filter p [] = refl
  head-filter p (x ∷ xs) = elim (p x) as (λ b. head_of (cond b (x ∷ filter p xs) (filter p xs)) ≡ cond b (Some x) (find p xs)) [
    | true ↦ refl
    | false ↦ head-filter p xs
  ]

  any-find : (p : A → Bool) (xs : List A) → list_any p xs ≡ is_some (find p xs)
  any-find p [] = refl
  any-find p (x ∷ xs) = elim (p x) as (λ b. (b || list_any p xs) ≡ is_some (cond b (Some x) (find p xs))) [
    | true ↦ refl
    | false ↦ any-find p xs
  ]

-- a symbol is at another index than a symbol
abbrev pub is_other : SymbolParts → SymbolParts → Bool
is_other one symbol = not (symbol.index == one.index)

-- the only symbol of a list, by its first and by a search for another one
only_none : (symbols : List SymbolParts) → head_of symbols ≡ None → only symbols ≡ None
only_none [] none = refl
only_none (symbol ∷ others) none = absurd (cc)

only_one : (one : SymbolParts) (symbols : List SymbolParts) (found : Option SymbolParts) → head_of symbols ≡ Some one → find (is_other one) symbols ≡ found → only symbols ≡ cond (is_some found) None (Some one)
only_one one [] found first other = absurd (cc)
only_one one (symbol ∷ others) found first other =
    let same : symbol ≡ one = cc in
    let skipped : find (is_other symbol) (symbol ∷ others) ≡ find (is_other symbol) others = rw (eqb_same symbol.index) refl in
    let rest : find (is_other symbol) others ≡ found = sym skipped ∙ ap (λ s. find (is_other s) (symbol ∷ others)) same ∙ other in
    rw (any-find (is_other symbol) others, rest, same) refl

-- the only symbol that passes a test
module _ (p : SymbolParts → Bool) (symbols : List SymbolParts) where
  pub only_never : find p symbols ≡ None → only (filter p symbols) ≡ None
  only_never none = only_none (filter p symbols) (head-filter p symbols ∙ none)

  pub only_found : (one : SymbolParts) (other : Option SymbolParts) → find p symbols ≡ Some one → find (λ symbol. p symbol && is_other one symbol) symbols ≡ other → only (filter p symbols) ≡ cond (is_some other) None (Some one)
  only_found one other first second =
      only_one one (filter p symbols) other (head-filter p symbols ∙ first) (find-filter (is_other one) p symbols ∙ second)

-- a chain leads from an index to another in a number of steps, past symbols that fail a test
pub data Passes (next : ℕ → ℕ) (symbols : List SymbolParts) (p : SymbolParts → Bool) (first : ℕ) : ℕ → ℕ → Type 0 where
  here : Passes next symbols p first zero first
  step : (n i j : ℕ) (symbol : SymbolParts) → Passes next symbols p first n i → 0 < i → slice_get symbols i ≡ Some symbol
      → p symbol ≡ false → next i ≡ j → Passes next symbols p first (suc n) j

module _ (next : ℕ → ℕ) (symbols : List SymbolParts) (p : SymbolParts → Bool) where
  -- a search of the symbols of a chain from an index on
  abbrev pub searched : ℕ → ℕ → Option SymbolParts
  searched count index = find p (filter_map (slice_get symbols) (chain_from next count index))

  pub searched_past : (count i : ℕ) (symbol : SymbolParts) → 0 < i → slice_get symbols i ≡ Some symbol → p symbol ≡ false → searched (suc count) i ≡ searched count (next i)
  searched_past count i symbol above at fails = rw (eqb_other i 0 (omega arith), at, fails) refl

  pub searched_hit : (count i : ℕ) (symbol : SymbolParts) → 0 < i → slice_get symbols i ≡ Some symbol → p symbol ≡ true → searched (suc count) i ≡ Some symbol
  searched_hit count i symbol above at passes = rw (eqb_other i 0 (omega arith), at, passes) refl

  pub searched_end : (count : ℕ) → searched count 0 ≡ None
  searched_end zero = refl
  searched_end (suc count) = refl

  pub searched_behind : (first n i count : ℕ) → Passes next symbols p first n i → searched (n + count) first ≡ searched count i
  searched_behind first _ _ count here = ap (λ k. searched k first) (omega arith)
  searched_behind first _ _ count (step n i j symbol passed above at fails follows) =
      let more : suc n + count ≡ n + suc count = omega arith in
      ap (λ k. searched k first) more ∙ searched_behind first n i (suc count) passed ∙ searched_past count i symbol above at fails ∙ ap (searched count) follows
