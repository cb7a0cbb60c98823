-- The places of definitions that are kept: they are those that a search of the list finds.
use Rattle.std.proofs.Common.{◌≡◌, ◌≢◌, ℕ, zero, suc, ◌+◌, ◌-◌, ◌%◌, ◌<◌, ◌≤◌, ◌==◌, ◌&&◌, ◌⊎◌, inl, inr, Bool, true, false, not, nat_lt, List, length, map, Option, Some, None, Result, Ok, refl, sym, ap, subst, ◌∙◌, slice_index, if◌then◌else◌, arith}
use Rattle.std.specs.Prelude.{replicate, slice_set}
use Rattle.std.proofs.lemmas.Bool.{and_parts, cases_order, eq-eqb, eqb-true, eqb-false, le-ltb, lt-ltb, ltb-false, ltb-true, ne_eqb}
use Rattle.std.proofs.lemmas.List.{get_or-replicate, get_or_past, get_or-set_other, get_or-set_same, length-set}
use Rattle.elf_base.specs.Number.{number}
use Rattle.elf_base.specs.declared.bytes.Order.{Order}
use Rattle.elf_linking.specs.MarkedVersions.{AreMarks, has_number_at, first_place, marked_at}
use Rattle.elf_linking.specs.VersionTables.{DefinitionParts, VersionRecords, definition_at, result_map, places_of, version_number}
use Rattle.elf_linking.specs.Versions.{defines_number, first_item}
use Rattle.elf_linking.specs.declared.error.LinkError.{LinkError}
use Rattle.elf_linking.proofs.VersionPlaces.{more_suc, place_first}
use Rattle.elf_linking.proofs.VersionSearch.{DefinesNumber, numbered_hits}
use Rattle.elf_linking.proofs.lemmas.FirstItems.{search_found, search_other}

not_of : (a : Bool) → not a ≡ true → a ≡ false
not_of true is = absurd (cc)
not_of false is = refl

-- a definition at a place numbered a number, and the first of some definitions that does so is at a place
abbrev pub HasNumberAt : Order → List ℕ → ℕ → ℕ → Type 0
HasNumberAt order bytes n place = (version_number (number order 2 (place + 4) bytes) ≡ n) × (number order 2 (place + 2) bytes % 2 ≢ 1)

pub data LeadsTo (order : Order) (bytes : List ℕ) (n : ℕ) : ℕ → ℕ → ℕ → Type 0 where
  here : (start count : ℕ) → start + 20 ≤ length bytes → HasNumberAt order bytes n start → LeadsTo order bytes n start (suc count) start
  behind : (start count place : ℕ) → start + 20 ≤ length bytes → (HasNumberAt order bytes n start → ⊥) → number order 4 (start + 16) bytes ≢ 0 → LeadsTo order bytes n (start + number order 4 (start + 16) bytes) count place → LeadsTo order bytes n start (suc count) place

module _ (order : Order) (bytes : List ℕ) (n : ℕ) where
  numbered_yes : (place : ℕ) → HasNumberAt order bytes n place → has_number_at order bytes n place ≡ true
  numbered_yes place numbered =
      let one : (version_number (number order 2 (place + 4) bytes) == n) ≡ true = eq-eqb (version_number (number order 2 (place + 4) bytes)) n numbered.0 in
      let base : (number order 2 (place + 2) bytes % 2 == 1) ≡ false = ne_eqb (number order 2 (place + 2) bytes % 2) 1 numbered.1 in
      rw (one, base) refl

  numbered_hit : (place : ℕ) → has_number_at order bytes n place ≡ true → HasNumberAt order bytes n place
  numbered_hit place is =
      let both = and_parts (version_number (number order 2 (place + 4) bytes) == n) (not (number order 2 (place + 2) bytes % 2 == 1)) is in
      (eqb-true (version_number (number order 2 (place + 4) bytes)) n both.0, eqb-false (number order 2 (place + 2) bytes % 2) 1 (not_of (number order 2 (place + 2) bytes % 2 == 1) both.1))

  numbered_miss : (place : ℕ) → has_number_at order bytes n place ≡ false → HasNumberAt order bytes n place → ⊥
  numbered_miss place is numbered = let so : has_number_at order bytes n place ≡ true = numbered_yes place numbered in cc

  numbered_never : (place : ℕ) → (HasNumberAt order bytes n place → ⊥) → has_number_at order bytes n place ≡ false
  numbered_never place never = go (has_number_at order bytes n place) refl
    where
      go : (b : Bool) → has_number_at order bytes n place ≡ b → has_number_at order bytes n place ≡ false
      go true is = absurd (never (numbered_hit place is))
      go false is = is

  -- the computed place is that of the first
  leads_place : (start count place : ℕ) → LeadsTo order bytes n start count place → first_place order bytes n start count ≡ Some place
  unfolding first_place
  leads_place start _ _ (here _ count whole numbered) =
      let fits : nat_lt (length bytes) (start + 20) ≡ false = le-ltb _ _ whole in
      let hit : has_number_at order bytes n start ≡ true = numbered_yes start numbered in rw (fits, hit) refl
  leads_place start _ place (behind _ count _ whole never goes leads) =
      let fits : nat_lt (length bytes) (start + 20) ≡ false = le-ltb _ _ whole in
      let miss : has_number_at order bytes n start ≡ false = numbered_never start never in
      let on : (number order 4 (start + 16) bytes == 0) ≡ false = ne_eqb (number order 4 (start + 16) bytes) 0 goes in
      let step : first_place order bytes n start (suc count) ≡ first_place order bytes n (start + number order 4 (start + 16) bytes) count = rw (fits, miss, on) refl in
      step ∙ leads_place (start + number order 4 (start + 16) bytes) count place leads

  module _ (start count place : ℕ) (rest : Option ℕ) (on : rest ≡ Some place → LeadsTo order bytes n (start + number order 4 (start + 16) bytes) count place) where
    by_next : (b : Bool) → (number order 4 (start + 16) bytes == 0) ≡ b → start + 20 ≤ length bytes → (HasNumberAt order bytes n start → ⊥) → (if b then None else rest) ≡ Some place → LeadsTo order bytes n start (suc count) place
    by_next true done whole never is = absurd (cc)
    by_next false goes whole never is = behind start count place whole never (eqb-false (number order 4 (start + 16) bytes) 0 goes) (on is)

    by_number : (b : Bool) → has_number_at order bytes n start ≡ b → start + 20 ≤ length bytes → (if b then Some start else (if number order 4 (start + 16) bytes == 0 then None else rest)) ≡ Some place → LeadsTo order bytes n start (suc count) place
    by_number true hit whole is = let same : start ≡ place = cc in subst (LeadsTo order bytes n start (suc count)) same (here start count whole (numbered_hit start hit))
    by_number false miss whole is = by_next (number order 4 (start + 16) bytes == 0) refl whole (numbered_miss start miss) is

    by_cut : (b : Bool) → nat_lt (length bytes) (start + 20) ≡ b → (if b then None else (if has_number_at order bytes n start then Some start else (if number order 4 (start + 16) bytes == 0 then None else rest))) ≡ Some place → LeadsTo order bytes n start (suc count) place
    by_cut true cut is = absurd (cc)
    by_cut false fits is = by_number (has_number_at order bytes n start) refl (ltb-false (length bytes) (start + 20) fits) is

  place_leads : (start count place : ℕ) → first_place order bytes n start count ≡ Some place → LeadsTo order bytes n start count place
  unfolding first_place
  place_leads start zero place is = absurd (cc)
  place_leads start (suc count) place is =
      by_cut start count place (first_place order bytes n (start + number order 4 (start + 16) bytes) count) (place_leads (start + number order 4 (start + 16) bytes) count place) (nat_lt (length bytes) (start + 20)) refl is

-- what a test of a definition says
numbered_so : (n : ℕ) (d : DefinitionParts) → version_number d.number ≡ n → d.flags % 2 ≢ 1 → defines_number n d ≡ true
numbered_so n d one other =
    let same : (version_number d.number == n) ≡ true = eq-eqb (version_number d.number) n one in
    let base : (d.flags % 2 == 1) ≡ false = ne_eqb (d.flags % 2) 1 other in
    rw (same, base) refl

numbered_not : (n : ℕ) (d : DefinitionParts) → (DefinesNumber n d → ⊥) → defines_number n d ≡ false
numbered_not n d never = go (defines_number n d) refl
  where
    go : (b : Bool) → defines_number n d ≡ b → defines_number n d ≡ false
    go true is = absurd (never (numbered_hits n d is))
    go false is = is

-- the definitions lead to that which a search finds
module _ (records : VersionRecords) (n : ℕ) where
  abbrev items : ℕ → ℕ → List (Result DefinitionParts LinkError)
  items start count = map (result_map (definition_at records)) (places_of records 16 start count)

  leads_first : (start count place : ℕ) → LeadsTo records.order records.bytes n start count place → first_item (defines_number n) (items start count) ≡ Ok (Some (definition_at records place))
  leads_first start _ _ (here _ count whole numbered) =
      let (rest, begins) = place_first records 16 start count (omega (arith, whole)) in
      search_found (defines_number n) _ (map (result_map (definition_at records)) rest) (definition_at records start) (ap (map (result_map (definition_at records))) begins) (numbered_so n (definition_at records start) numbered.0 numbered.1)
  leads_first start _ place (behind _ count _ whole never goes leads) =
      search_other (defines_number n) _ (items (start + number records.order 4 (start + 16) records.bytes) count) (definition_at records start) (ap (map (result_map (definition_at records))) (more_suc records 16 start count (omega (arith, whole)) goes)) (numbered_not n (definition_at records start) never)
      ∙ leads_first (start + number records.order 4 (start + 16) records.bytes) count place leads

leads_whole : (order : Order) (bytes : List ℕ) (n start count place : ℕ) → LeadsTo order bytes n start count place → place + 20 ≤ length bytes
leads_whole order bytes n start _ _ (here _ count whole numbered) = whole
leads_whole order bytes n start _ place (behind _ count _ whole never goes leads) = leads_whole order bytes n (start + number order 4 (start + 16) bytes) count place leads

-- what a mark says
mark_leads : (order : Order) (bytes : List ℕ) (count n mark : ℕ) (marks : List ℕ) → AreMarks order bytes count marks → mark ≡ slice_index marks n → mark ≢ 0 → LeadsTo order bytes n 0 count (mark - 1)
mark_leads order bytes count n mark marks are is some =
    place_leads order bytes n 0 count (mark - 1) (are n (λ none. some (is ∙ none)) ∙ ap (λ m. Some (m - 1)) (sym is))

pub mark_whole : (order : Order) (bytes : List ℕ) (count n mark : ℕ) (marks : List ℕ) → AreMarks order bytes count marks → mark ≡ slice_index marks n → mark ≢ 0 → mark - 1 + 20 ≤ length bytes
mark_whole order bytes count n mark marks are is some = leads_whole order bytes n 0 count (mark - 1) (mark_leads order bytes count n mark marks are is some)

pub mark_first : (records : VersionRecords) (n mark : ℕ) (marks : List ℕ) → AreMarks records.order records.bytes (length records.bytes) marks → mark ≡ slice_index marks n → mark ≢ 0 → Ok (Some (definition_at records (mark - 1))) ≡ first_item (defines_number n) (map (result_map (definition_at records)) (places_of records 16 0 (length records.bytes)))
mark_first records n mark marks are is some = sym (leads_first records n 0 (length records.bytes) (mark - 1) (mark_leads records.order records.bytes (length records.bytes) n mark marks are is some))

-- what holds of marks in these words
abbrev pub AreLed : Order → List ℕ → ℕ → List ℕ → Type 0
AreLed order bytes count marks = (n : ℕ) → slice_index marks n ≢ 0 → LeadsTo order bytes n 0 count (slice_index marks n - 1)

of_led : (order : Order) (bytes : List ℕ) (count : ℕ) (marks : List ℕ) → AreLed order bytes count marks → AreMarks order bytes count marks
of_led order bytes count marks led = λ n some. leads_place order bytes n 0 count (slice_index marks n - 1) (led n some)

-- what holds between two definitions, of which `left` are left from a place on: the marks so far are right, and a
-- number without one is borne by none before the place
pub record Marking (order : Order) (bytes : List ℕ) (count place left : ℕ) (marks : List ℕ) : Type 0 where
  pub long : length marks ≡ 64
  pub marked : AreLed order bytes count marks
  pub unmarked : (n to : ℕ) → n < 64 → slice_index marks n ≡ 0 → LeadsTo order bytes n place left to → LeadsTo order bytes n 0 count to

no_mark : (n : ℕ) → slice_index (replicate 64 0) n ≡ 0
no_mark n = go (nat_lt n 64) refl
  where
    go : (b : Bool) → nat_lt n 64 ≡ b → slice_index (replicate 64 0) n ≡ 0
    go true is = get_or-replicate 64 n 0 0 (ltb-true n 64 is)
    go false is = get_or_past (replicate 64 0) n 0 (ltb-false n 64 is)

pub marking_start : (order : Order) (bytes : List ℕ) (count : ℕ) → Marking order bytes count 0 (count - 0) (replicate 64 0)
marking_start order bytes count = record {
  long = refl;
  marked = λ n some. absurd (some (no_mark n));
  unmarked = λ n to below none leads. let whole : count - 0 ≡ count = omega arith in subst (λ left. LeadsTo order bytes n 0 left to) whole leads;
}

-- one more definition
module _ (order : Order) (bytes : List ℕ) (count place left : ℕ) (marks : List ℕ) (marking : Marking order bytes count place (suc left) marks) (whole : place + 20 ≤ length bytes) where
  abbrev num : ℕ
  num = version_number (number order 2 (place + 4) bytes)

  abbrev flags : ℕ
  flags = number order 2 (place + 2) bytes

  abbrev is_marked : Bool
  is_marked = nat_lt num 64 && (slice_index marks num == 0 && not (flags % 2 == 1))

  abbrev others : List ℕ
  others = slice_set marks num (place + 1)

  abbrev marks_by : Bool → List ℕ
  marks_by b = if b then others else marks

  -- what the test says
  low : is_marked ≡ true → num < 64
  low is = ltb-true num 64 (and_parts (nat_lt num 64) (slice_index marks num == 0 && not (flags % 2 == 1)) is).0

  bare : is_marked ≡ true → slice_index marks num ≡ 0
  bare is = eqb-true (slice_index marks num) 0 (and_parts (slice_index marks num == 0) (not (flags % 2 == 1)) (and_parts (nat_lt num 64) (slice_index marks num == 0 && not (flags % 2 == 1)) is).1).0

  no_base : is_marked ≡ true → flags % 2 ≢ 1
  no_base is = eqb-false (flags % 2) 1 (not_of (flags % 2 == 1) (and_parts (slice_index marks num == 0) (not (flags % 2 == 1)) (and_parts (nat_lt num 64) (slice_index marks num == 0 && not (flags % 2 == 1)) is).1).1)

  tests : num < 64 → slice_index marks num ≡ 0 → flags % 2 ≢ 1 → is_marked ≡ true
  tests below none other =
      let one : nat_lt num 64 ≡ true = lt-ltb num 64 below in
      let two : (slice_index marks num == 0) ≡ true = eq-eqb (slice_index marks num) 0 none in
      let three : (flags % 2 == 1) ≡ false = ne_eqb (flags % 2) 1 other in
      rw (one, two, three) refl

  -- the mark of the definition's own number, and those of other numbers
  own_mark : num < 64 → slice_index others num ≡ place + 1
  own_mark below = let long : length marks ≡ 64 = marking.long in get_or-set_same marks num (place + 1) 0 (omega (arith, below, long))

  other_mark : (n : ℕ) → n ≢ num → slice_index others n ≡ slice_index marks n
  other_mark n unlike = get_or-set_other marks num n (place + 1) 0 unlike

  long_by : (b : Bool) → length (marks_by b) ≡ 64
  long_by true = length-set marks num (place + 1) ∙ marking.long
  long_by false = marking.long

  own_leads : is_marked ≡ true → LeadsTo order bytes num 0 count place
  own_leads is = marking.unmarked num place (low is) (bare is) (here place left whole (refl, no_base is))

  marked_by : (b : Bool) → is_marked ≡ b → AreLed order bytes count (marks_by b)
  marked_by false is = marking.marked
  marked_by true is = λ n some. go n some (cases_order n num)
    where
      own : (n : ℕ) → n ≡ num → LeadsTo order bytes n 0 count (slice_index others n - 1)
      own n same =
          let value : slice_index others num ≡ place + 1 = own_mark (low is) in
          let mark : slice_index others num - 1 ≡ place = ap (λ m. m - 1) value ∙ omega arith in
          subst (λ m. LeadsTo order bytes m 0 count (slice_index others m - 1)) (sym same) (subst (λ p. LeadsTo order bytes num 0 count p) (sym mark) (own_leads is))

      other : (n : ℕ) → n ≢ num → slice_index others n ≢ 0 → LeadsTo order bytes n 0 count (slice_index others n - 1)
      other n unlike some =
          let same : slice_index others n ≡ slice_index marks n = other_mark n unlike in
          subst (λ m. LeadsTo order bytes n 0 count (m - 1)) (sym same) (marking.marked n (λ none. some (same ∙ none)))

      go : (n : ℕ) → slice_index others n ≢ 0 → (n ≡ num) ⊎ ((n < num) ⊎ (num < n)) → LeadsTo order bytes n 0 count (slice_index others n - 1)
      go n some (inl same) = own n same
      go n some (inr (inl less)) = other n (λ same. omega (arith, less, same)) some
      go n some (inr (inr more)) = other n (λ same. omega (arith, more, same)) some

  -- a number without a mark had none before, and the definition doesn't bear it
  none_before : (b : Bool) → is_marked ≡ b → (n : ℕ) → n < 64 → slice_index (marks_by b) n ≡ 0 → (slice_index marks n ≡ 0) × (HasNumberAt order bytes n place → ⊥)
  none_before false is n below none = (
    none,
    λ numbered.
        let so : is_marked ≡ true = tests (subst (λ m. m < 64) (sym numbered.0) below) (subst (λ m. slice_index marks m ≡ 0) (sym numbered.0) none) numbered.1 in cc,
  )
  none_before true is n below none = go (cases_order n num)
    where
      unlike_by : n ≢ num → (slice_index marks n ≡ 0) × (HasNumberAt order bytes n place → ⊥)
      unlike_by unlike = (sym (other_mark n unlike) ∙ none, λ numbered. unlike (sym numbered.0))

      go : (n ≡ num) ⊎ ((n < num) ⊎ (num < n)) → (slice_index marks n ≡ 0) × (HasNumberAt order bytes n place → ⊥)
      go (inl same) =
          let value : slice_index others num ≡ place + 1 = own_mark (low is) in
          let gone : slice_index others num ≡ 0 = subst (λ m. slice_index others m ≡ 0) same none in
          let both : place + 1 ≡ 0 = sym value ∙ gone in
          absurd (omega (arith, both))
      go (inr (inl less)) = unlike_by (λ same. omega (arith, less, same))
      go (inr (inr more)) = unlike_by (λ same. omega (arith, more, same))

  kept : AreLed order bytes count (marked_at order bytes place marks)
  kept = marked_by is_marked refl

  next : number order 4 (place + 16) bytes ≢ 0 → Marking order bytes count (place + number order 4 (place + 16) bytes) left (marked_at order bytes place marks)
  next goes = record {
    long = long_by is_marked;
    marked = kept;
    unmarked = λ n to below none leads.
        let (before, never) = none_before is_marked refl n below none in
        marking.unmarked n to below before (behind place left to whole never goes leads);
  }

one_left : (count passed : ℕ) → passed < count → count - passed ≡ suc (count - (passed + 1))
one_left count passed below = omega (arith, below)

pub marking_so : (order : Order) (bytes : List ℕ) (count place left : ℕ) (marks : List ℕ) → Marking order bytes count place left marks → AreMarks order bytes count marks
marking_so order bytes count place left marks marking = of_led order bytes count marks marking.marked

pub marking_kept : (order : Order) (bytes : List ℕ) (count place passed : ℕ) (marks results : List ℕ) → Marking order bytes count place (count - passed) marks → passed < count → place + 20 ≤ length bytes → results ≡ marked_at order bytes place marks → AreMarks order bytes count results
marking_kept order bytes count place passed marks results marking below whole is =
    let one : Marking order bytes count place (suc (count - (passed + 1))) marks = subst (λ left. Marking order bytes count place left marks) (one_left count passed below) marking in
    of_led order bytes count results (subst (AreLed order bytes count) (sym is) (kept order bytes count place (count - (passed + 1)) marks one whole))

pub marking_next : (order : Order) (bytes : List ℕ) (count place passed after : ℕ) (marks results : List ℕ) → Marking order bytes count place (count - passed) marks → passed < count → place + 20 ≤ length bytes → number order 4 (place + 16) bytes ≢ 0 → after ≡ place + number order 4 (place + 16) bytes → results ≡ marked_at order bytes place marks → Marking order bytes count after (count - (passed + 1)) results
marking_next order bytes count place passed after marks results marking below whole goes to is =
    let one : Marking order bytes count place (suc (count - (passed + 1))) marks = subst (λ left. Marking order bytes count place left marks) (one_left count passed below) marking in
    subst (λ p. Marking order bytes count p (count - (passed + 1)) results) (sym to)
    (subst (Marking order bytes count (place + number order 4 (place + 16) bytes) (count - (passed + 1))) (sym is) (next order bytes count place (count - (passed + 1)) marks one whole goes))
