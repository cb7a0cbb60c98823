-- Symbols counted by their section.
use Rattle.std.proofs.Common.{◌≡◌, ℕ, ◌+◌, ◌<◌, ◌≤◌, ◌==◌, ◌%◌, ◌&&◌, nat_lt, Bool, true, false, not, List, length, get_or, set, replicate, Option, None, Some, slice_get, if◌then◌else◌, inl, inr, refl, ap, sym, subst, ◌∙◌, arith}
use Rattle.std.specs.Option.{option_and_then}
use Rattle.std.proofs.lemmas.Bool.{cases_eq, cases_lt, eq-eqb, false_from_ne_true, ltb-true, lt-ltb, ne_eqb}
use Rattle.std.proofs.lemmas.List.{get_or-replicate, get_or-set_other, get_or-set_same, length-replicate, length-set}
use Rattle.elf_addresses.specs.Candidates.{has_address, is_named, section_index}
use Rattle.elf_addresses.specs.Index.{is_kind, listed}
use Rattle.elf_addresses.specs.SectionCounts.{AreCounts, counted, section_if, sized_section}
use Rattle.elf_addresses.specs.SymbolClaims.{claim_if, claim_of_symbols, has_claim, symbol_claim, symbol_items}
use Rattle.elf_addresses.specs.declared.claim.Claim.{Claim}
use Rattle.elf_addresses.specs.declared.symbols.AddressSymbols.{AddressSymbols}
use Rattle.elf_addresses.proofs.Listed.{bit, length_listed-le, length_listed-more}
use Rattle.xmas_elf.specs.Symbol.{SymbolFields}
use Rattle.xmas_elf.specs.Table.{table_items}

-- a symbol is in a section, by the tests of its type, its section and its name
by_tests : (type none wanted named : Bool) (claim : Claim)
    → is_kind false (if type && (not none && wanted) && named then Some claim else None) ≡ (type && not none && named) && (wanted && not (claim.size == 0))
by_tests false none wanted named claim = refl
by_tests true true wanted named claim = refl
by_tests true false false named claim = none named
  where
    none : (named : Bool) → false ≡ named && false
    none true = refl
    none false = refl
by_tests true false true false claim = refl
by_tests true false true true claim = refl

counted_here : (has wanted sized is : Bool) → (has && sized) ≡ is → (has && (wanted && sized)) ≡ (is && wanted)
counted_here false wanted sized is same = subst (λ (b : Bool). false ≡ (b && wanted)) same refl
counted_here true true sized is same = subst (λ (b : Bool). sized ≡ (b && true)) same (and_true sized)
  where
    and_true : (b : Bool) → b ≡ (b && true)
    and_true true = refl
    and_true false = refl
counted_here true false sized is same = and_false is
  where
    and_false : (b : Bool) → false ≡ (b && false)
    and_false true = refl
    and_false false = refl

module _ {E : Type 0} {r : _} (fields : E → SymbolFields) (symbols : AddressSymbols E r) where
  abbrev claims_in : ℕ → ℕ → Option Claim
  claims_in section = claim_of_symbols fields symbols (Some section)

  abbrev section_of : ℕ → E → ℕ
  section_of index symbol = section_index (table_items symbols.indices) (fields symbol) index

  is_counted : (section index : ℕ) (symbol : E) → is_kind false (claim_if fields symbols (Some section) index symbol) ≡ has_claim fields symbols None index symbol && ((section_index (table_items symbols.indices) (fields symbol) index == section) && not ((fields symbol).size == 0))
  unfolding has_claim
  is_counted section index symbol =
      by_tests (has_address ((fields symbol).info % 16)) (section_index (table_items symbols.indices) (fields symbol) index == 0) (section_index (table_items symbols.indices) (fields symbol) index == section)
      (is_named symbols.machine symbols.strings.now (fields symbol)) (symbol_claim index (fields symbol))

  kind_here : (section index : ℕ) (symbol : E) (is : Bool) → slice_get (symbol_items symbols) index ≡ Some symbol → (has_claim fields symbols None index symbol && not ((fields symbol).size == 0)) ≡ is
      → is_kind false (claims_in section index) ≡ (is && (section_of index symbol == section))
  kind_here section index symbol is there same =
      ap (λ (o : Option E). is_kind false (option_and_then (claim_if fields symbols (Some section) index) o)) there
      ∙ (is_counted section index symbol ∙ counted_here (has_claim fields symbols None index symbol) (section_of index symbol == section) (not ((fields symbol).size == 0)) is same)

  one_more : (section index : ℕ) (b : Bool) → is_kind false (claims_in section index) ≡ b → length (listed (claims_in section) false (index + 1)) ≡ length (listed (claims_in section) false index) + bit b
  one_more section index b is = length_listed-more (claims_in section) false index ∙ ap (λ (t : Bool). length (listed (claims_in section) false index) + bit t) is

  no_more : (section index : ℕ) → is_kind false (claims_in section index) ≡ false → length (listed (claims_in section) false (index + 1)) ≡ length (listed (claims_in section) false index)
  no_more section index is = let more = one_more section index false is in omega (arith, more)

  put : (index : ℕ) (counts : List ℕ) (symbol : E) → slice_get (symbol_items symbols) index ≡ Some symbol → (has_claim fields symbols None index symbol && not ((fields symbol).size == 0)) ≡ true → AreCounts fields symbols index counts
      → section_of index symbol < length counts → AreCounts fields symbols (index + 1) (set counts (section_of index symbol) (get_or counts (section_of index symbol) 0 + 1))
  put index counts symbol there same so_far within = λ section less.
      let place = section_of index symbol in
      let inside : section < length counts = omega (arith, length-set counts place (get_or counts place 0 + 1)) in
      elim (cases_eq place section) [
        | inl here ↦
            let more = one_more section index true (kind_here section index symbol true there same ∙ eq-eqb place section here) in
            let was = so_far section inside in
            subst (λ k. get_or (set counts place (get_or counts place 0 + 1)) k 0 ≡ length (listed (claims_in section) false (index + 1))) here
            (get_or-set_same counts place (get_or counts place 0 + 1) 0 within ∙ (ap (λ k. get_or counts k 0 + 1) here ∙ omega (arith, more, was)))
        | inr differ ↦
            let more = no_more section index (kind_here section index symbol true there same ∙ ne_eqb place section differ) in
            get_or-set_other counts place section (get_or counts place 0 + 1) 0 (λ e. differ (sym e)) ∙ (so_far section inside ∙ sym more)
      ]

  past : (index : ℕ) (counts : List ℕ) (symbol : E) → slice_get (symbol_items symbols) index ≡ Some symbol → (has_claim fields symbols None index symbol && not ((fields symbol).size == 0)) ≡ true → AreCounts fields symbols index counts
      → length counts ≤ section_of index symbol → AreCounts fields symbols (index + 1) counts
  past index counts symbol there same so_far more = λ section less.
      let none = no_more section index (kind_here section index symbol true there same ∙ ne_eqb (section_of index symbol) section (λ e. omega (arith, e))) in
      so_far section less ∙ sym none

  by_symbol : (index : ℕ) (counts : List ℕ) (symbol : E) (is : Bool) → slice_get (symbol_items symbols) index ≡ Some symbol → (has_claim fields symbols None index symbol && not ((fields symbol).size == 0)) ≡ is → AreCounts fields symbols index counts
      → AreCounts fields symbols (index + 1) (counted counts (if is then Some (section_of index symbol) else None))
  by_symbol index counts symbol false there same so_far = λ section less.
      so_far section less ∙ sym (no_more section index (kind_here section index symbol false there same))
  by_symbol index counts symbol true there same so_far = elim (cases_lt (section_of index symbol) (length counts)) [
    | inl within ↦ rw (lt-ltb (section_of index symbol) (length counts) within) (put index counts symbol there same so_far within)
    | inr more ↦ rw (not_less more) (past index counts symbol there same so_far more)
  ]
    where
      not_less : length counts ≤ section_of index symbol → nat_lt (section_of index symbol) (length counts) ≡ false
      not_less more = false_from_ne_true (nat_lt (section_of index symbol) (length counts)) (λ h. let less : section_of index symbol < length counts = ltb-true (section_of index symbol) (length counts) h in omega arith)

  by_item : (index : ℕ) (counts : List ℕ) (o : Option E) → slice_get (symbol_items symbols) index ≡ o → AreCounts fields symbols index counts → AreCounts fields symbols (index + 1) (counted counts (option_and_then (section_if fields symbols index) o))
  by_item index counts None there so_far = λ section less.
      so_far section less ∙ sym (no_more section index (ap (λ (o : Option E). is_kind false (option_and_then (claim_if fields symbols (Some section) index) o)) there))
  by_item index counts (Some symbol) there so_far = by_symbol index counts symbol (has_claim fields symbols None index symbol && not ((fields symbol).size == 0)) there refl so_far

  -- one more symbol
  pub counted_step : (index : ℕ) (counts : List ℕ) → AreCounts fields symbols index counts → AreCounts fields symbols (index + 1) (counted counts (sized_section fields symbols index))
  counted_step index counts so_far = by_item index counts (slice_get (symbol_items symbols) index) refl so_far

  -- a count has room for it
  pub count_room : (index : ℕ) (counts : List ℕ) → AreCounts fields symbols index counts → (section : ℕ) → section < length counts → get_or counts section 0 ≤ index
  count_room index counts so_far section less =
      let most = length_listed-le (claims_in section) false index in
      let is = so_far section less in
      omega (arith, most, is)

  -- no symbol yet
  pub none_counted : (count : ℕ) → AreCounts fields symbols 0 (replicate count 0)
  none_counted count = λ section less. get_or-replicate count section 0 0 (omega (arith, length-replicate {A = ℕ} count 0))

pub counted_length : (counts : List ℕ) (section : Option ℕ) → length (counted counts section) ≡ length counts
counted_length counts None = refl
counted_length counts (Some section) = by_test (nat_lt section (length counts))
  where
    by_test : (b : Bool) → length (if b then set counts section (get_or counts section 0 + 1) else counts) ≡ length counts
    by_test true = length-set counts section (get_or counts section 0 + 1)
    by_test false = refl
