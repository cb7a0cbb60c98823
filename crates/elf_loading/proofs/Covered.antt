-- Which addresses are in a load: those from an address up to the first that is in none.
use Rattle.std.proofs.Common.{◌≡◌, ℕ, zero, suc, ◌<◌, ◌≤◌, nat_lt, nat_le, Bool, true, false, List, [], ◌∷◌, if◌then◌else◌, inl, inr, refl, arith, length, Option, Some, None, ok_or, Result, Ok, Err, subst}
use Rattle.std.proofs.lemmas.Bool.{and_left, and_parts, cases_lt, leb-true, lt-leb, ltb-true}
use Rattle.elf_loading.specs.FileCheck.{covered_to, check_file, header_rows, is_uncovered, segment_rows}
use Rattle.elf_loading.specs.LoadCheck.{holds_address, load_end, load_start, check_load, check_loads, load_rows}
use Rattle.elf_loading.specs.Spans.{IsInLoad, HasUncovered, relro_span}
use Rattle.elf_loading.proofs.LoadChecks.{AreApart, holds_between, start_le_end, checks_apart}
use Rattle.std.specs.Prelude.{MatchOption}
use Rattle.elf_base.specs.FirstError.{and_then, unless}
use Rattle.xmas_elf.specs.Types.{ElfFile}
use Rattle.elf_loading.specs.Types.{LoadError, Segment}
use Rattle.elf_loading.specs.Pages.{down}
use Rattle.elf_loading.specs.Segments.{loads_of, relro_of}
use Rattle.elf_loading.specs.declared.error.LoadError.TheVariants as error

-- a load of the rest is one of the list
later : (page address : ℕ) (load : Segment) (loads : List Segment) → IsInLoad page loads address → IsInLoad page (load ∷ loads) address
later page address load loads (one, (k, below, is), from, to) = (one, (suc k, omega arith, is), from, to)

earliest : (page address : ℕ) (load : Segment) (loads : List Segment) → load_start page load ≤ address → address < load_end page load → IsInLoad page (load ∷ loads) address
earliest page address load loads from to = (load, (zero, omega arith, refl), from, to)

module _ (page : ℕ) where
  by_first : (start address : ℕ) (load : Segment) (loads : List Segment) (b : Bool) → holds_address page start load ≡ b → start ≤ address
      → ((from : ℕ) → from ≤ address → address < covered_to page from loads → IsInLoad page loads address)
      → address < covered_to page (if b then load_end page load else start) loads → IsInLoad page (load ∷ loads) address
  by_first start address load loads true holds after next below =
      let both = and_parts (nat_le (load_start page load) start) (nat_lt start (load_end page load)) holds in
      let begins : load_start page load ≤ start = leb-true _ _ both.0 in
      elim (cases_lt address (load_end page load)) [
        | inl less ↦ earliest page address load loads (omega arith) less
        | inr past ↦ later page address load loads (next (load_end page load) past below)
      ]
  by_first start address load loads false holds after next below = later page address load loads (next start after below)

  -- each address up to the first that is in no load is in a load
  pub covered : (start address : ℕ) (loads : List Segment) → start ≤ address → address < covered_to page start loads → IsInLoad page loads address
  covered start address [] after below = absurd (omega arith)
  covered start address (load ∷ loads) after below =
      by_first start address load loads (holds_address page start load) refl after (λ from le less. covered from address loads le less) below

  up_by_first : (start : ℕ) (load : Segment) (loads : List Segment) (b : Bool) → holds_address page start load ≡ b → ((from : ℕ) → from ≤ covered_to page from loads) → start ≤ covered_to page (if b then load_end page load else start) loads
  up_by_first start load loads true holds next =
      let both = and_parts (nat_le (load_start page load) start) (nat_lt start (load_end page load)) holds in
      let less : start < load_end page load = ltb-true _ _ both.1 in
      let more : load_end page load ≤ covered_to page (load_end page load) loads = next (load_end page load) in
      omega arith
  up_by_first start load loads false holds next = next start

  -- the first address that is in no load is not before where the search begins
  pub covered_up : (start : ℕ) (loads : List Segment) → start ≤ covered_to page start loads
  covered_up start [] = omega arith
  covered_up start (load ∷ loads) = up_by_first start load loads (holds_address page start load) refl (λ from. covered_up from loads)

  module _ (h : 0 < page) where
    -- an address before all loads is in none
    covered_none : (start before : ℕ) (loads : List Segment) → AreApart page before loads → start < before → covered_to page start loads ≡ start
    covered_none start before [] apart less = refl
    covered_none start before (load ∷ loads) (after, apart) less =
        let order : load_start page load ≤ load_end page load = start_le_end page load h in
        let miss : holds_address page start load ≡ false = and_left (nat_le (load_start page load) start) (nat_lt start (load_end page load)) (lt-leb (load_start page load) start (omega arith)) in
        rw miss (covered_none start (load_end page load) loads apart (omega arith))

    -- what holds of no load of the rest, and not of the first, holds of none
    in_neither : (address : ℕ) (load : Segment) (loads : List Segment) → ¬ IsInLoad page loads address → (load_start page load ≤ address → address < load_end page load → ⊥) → ¬ IsInLoad page (load ∷ loads) address
    in_neither address load loads rest first (one, (zero, below, is), from, to) = rw_first is from to
      where
        rw_first : load ≡ one → load_start page one ≤ address → address < load_end page one → ⊥
        rw_first same begins ends = first (rw same begins) (rw same ends)
    in_neither address load loads rest first (one, (suc k, below, is), from, to) = rest (one, (k, omega arith, is), from, to)

    free_by_first : (start : ℕ) (load : Segment) (loads : List Segment) (b : Bool) → holds_address page start load ≡ b → AreApart page (load_end page load) loads
        → ((from : ℕ) → ¬ IsInLoad page loads (covered_to page from loads))
        → ¬ IsInLoad page (load ∷ loads) (covered_to page (if b then load_end page load else start) loads)
    free_by_first start load loads true holds apart next =
        let more : load_end page load ≤ covered_to page (load_end page load) loads = covered_up (load_end page load) loads in
        in_neither (covered_to page (load_end page load) loads) load loads (next (load_end page load)) (λ from to. omega arith)
    free_by_first start load loads false holds apart next =
        in_neither (covered_to page start loads) load loads (next start) outside
      where
        outside : load_start page load ≤ covered_to page start loads → covered_to page start loads < load_end page load → ⊥
        outside from to = elim (cases_lt start (load_start page load)) [
          | inl less ↦
              let order : load_start page load ≤ load_end page load = start_le_end page load h in
              let same : covered_to page start loads ≡ start = covered_none start (load_end page load) loads apart (omega arith) in
              omega arith
          | inr begins ↦
              let up : start ≤ covered_to page start loads = covered_up start loads in
              let hit : holds_address page start load ≡ true = holds_between page start load begins (omega arith) in
              absurd (cc)
        ]

    none_in : (address : ℕ) → ¬ IsInLoad page [] address
    none_in address (one, (k, below, is), from, to) = absurd (omega arith)

    -- the first address that is in no load is in none, of loads that are apart
    pub free : (start before : ℕ) (loads : List Segment) → AreApart page before loads → ¬ IsInLoad page loads (covered_to page start loads)
    free start before [] apart = none_in (covered_to page start [])
    free start before (load ∷ loads) (after, apart) =
        free_by_first start load loads (holds_address page start load) refl apart (λ from. free from (load_end page load) loads apart)

-- Why the error is that of what is read-only after relocation.

-- an error that no row has is not that of the rows
abbrev pub HasNot : LoadError → List (Bool × LoadError) → Type 0
HasNot why [] = Unit {0}
HasNot why (row ∷ rows) = (row.1 ≡ why → ⊥) × HasNot why rows

not_by : {A : Type 0} (why other : LoadError) (b : Bool) (value : A) (rows : List (Bool × LoadError)) → (other ≡ why → ⊥) → (unless rows value ≡ Err why → ⊥) → (if b then Err other else unless rows value) ≡ Err why → ⊥
not_by why other true value rows differs next is = differs (cc)
not_by why other false value rows differs next is = next is

not_of_rows : {A : Type 0} (why : LoadError) (rows : List (Bool × LoadError)) (value : A) → HasNot why rows → unless rows value ≡ Err why → ⊥
not_of_rows why [] value none is = absurd (cc)
not_of_rows why (row ∷ rows) value (first, none) is = not_by why row.1 row.0 value rows first (not_of_rows why rows value none) is

-- no load has it
module _ (page limit len : ℕ) where
  not_of_load : (before : Option ℕ) (load : Segment) → check_load page limit len before load ≡ Err error.Relro → ⊥
  unfolding check_load
  not_of_load before load is = not_of_rows error.Relro (load_rows page limit len before load) (load_end page load)
      ((λ same. absurd (cc)), ((λ same. absurd (cc)), ((λ same. absurd (cc)), ((λ same. absurd (cc)), ((λ same. absurd (cc)), ((λ same. absurd (cc)), ((λ same. absurd (cc)), ((λ same. absurd (cc)), tt)))))))) is

  not_by_load : (loads : List Segment) (answer : Result ℕ LoadError) → (answer ≡ Err error.Relro → ⊥) → ((end : ℕ) → check_loads page limit len (Some end) loads ≡ Err error.Relro → ⊥) → and_then answer (λ end. check_loads page limit len (Some end) loads) ≡ Err error.Relro → ⊥
  not_by_load loads (Ok end) first next is = next end is
  not_by_load loads (Err why) first next is = first (cc)

  not_of_loads : (before : Option ℕ) (loads : List Segment) → check_loads page limit len before loads ≡ Err error.Relro → ⊥
  unfolding check_loads
  not_of_loads before [] is = absurd (cc)
  not_of_loads before (load ∷ loads) is = not_by_load loads (check_load page limit len before load) (not_of_load before load) (λ end. not_of_loads (Some end) loads) is

third_by : (a b c d e : Bool) → (if a then Err error.Headers else (if b then Err error.Interpreter else (if c then Err error.Relro else (if d then Err error.Tls else (if e then Err error.Entry else Ok (tt {0})))))) ≡ Err error.Relro → c ≡ true
third_by true b c d e is = absurd (cc)
third_by false true c d e is = absurd (cc)
third_by false false true d e is = refl
third_by false false false true e is = absurd (cc)
third_by false false false false true is = absurd (cc)
third_by false false false false false is = absurd (cc)

module _ (file : ElfFile) (page limit : ℕ) (h : 0 < page) where
  first_free : (last : Option ℕ) (relro : Option Segment) → check_loads page limit (length file.input.now) None (loads_of file) ≡ Ok last → is_uncovered page (loads_of file) relro ≡ true → MatchOption relro ⊥ (λ one. HasUncovered page (loads_of file) (relro_span page one))
  first_free last None loads is = absurd (cc)
  first_free last (Some one) loads is = record {
    address = covered_to page (down page one.address) (loads_of file);
    begins = covered_up page (down page one.address) (loads_of file);
    ends = ltb-true _ _ is;
    not_in_load = free page h (down page one.address) 0 (loads_of file) (checks_apart page limit (length file.input.now) None last (loads_of file) loads);
  }

  by_rest : (found : ℕ) (last : Option ℕ) (answer : Result (Unit {0}) LoadError) → unless (segment_rows file page limit) (tt {0}) ≡ answer → check_loads page limit (length file.input.now) None (loads_of file) ≡ Ok last → and_then answer (λ passed. Ok found) ≡ Err error.Relro → MatchOption (relro_of file) ⊥ (λ one. HasUncovered page (loads_of file) (relro_span page one))
  by_rest found last (Ok passed) rest loads is = absurd (cc)
  by_rest found last (Err why) rest loads is =
      let same : why ≡ error.Relro = cc in
      first_free last (relro_of file) loads (third_by _ _ _ _ _ (subst (λ e. unless (segment_rows file page limit) (tt {0}) ≡ Err e) same rest))

  by_last : (last : Option ℕ) → check_loads page limit (length file.input.now) None (loads_of file) ≡ Ok last → and_then (ok_or last error.NoLoad) (λ found. and_then (unless (segment_rows file page limit) (tt {0})) (λ passed. Ok found)) ≡ Err error.Relro → MatchOption (relro_of file) ⊥ (λ one. HasUncovered page (loads_of file) (relro_span page one))
  by_last (Some found) loads is = by_rest found (Some found) (unless (segment_rows file page limit) (tt {0})) refl loads is
  by_last None loads is = absurd (cc)

  by_loads : (answer : Result (Option ℕ) LoadError) → check_loads page limit (length file.input.now) None (loads_of file) ≡ answer → and_then answer (λ last. and_then (ok_or last error.NoLoad) (λ found. and_then (unless (segment_rows file page limit) (tt {0})) (λ passed. Ok found))) ≡ Err error.Relro → MatchOption (relro_of file) ⊥ (λ one. HasUncovered page (loads_of file) (relro_span page one))
  by_loads (Ok last) loads is = by_last last loads is
  by_loads (Err why) loads is =
      let same : why ≡ error.Relro = cc in
      absurd (not_of_loads page limit (length file.input.now) None (loads_of file) (subst (λ e. check_loads page limit (length file.input.now) None (loads_of file) ≡ Err e) same loads))

  by_header : (answer : Result (Unit {0}) LoadError) → unless (header_rows file page) (tt {0}) ≡ answer → and_then answer (λ done. and_then (check_loads page limit (length file.input.now) None (loads_of file)) (λ last. and_then (ok_or last error.NoLoad) (λ found. and_then (unless (segment_rows file page limit) (tt {0})) (λ passed. Ok found)))) ≡ Err error.Relro → MatchOption (relro_of file) ⊥ (λ one. HasUncovered page (loads_of file) (relro_span page one))
  by_header (Ok done) header is = by_loads (check_loads page limit (length file.input.now) None (loads_of file)) refl is
  by_header (Err why) header is =
      let same : why ≡ error.Relro = cc in
      absurd (not_of_rows error.Relro (header_rows file page) (tt {0}) ((λ same. absurd (cc)), ((λ same. absurd (cc)), ((λ same. absurd (cc)), ((λ same. absurd (cc)), tt)))) (subst (λ e. unless (header_rows file page) (tt {0}) ≡ Err e) same header))

  -- an address of the last PT_GNU_RELRO, rounded to pages, is in no load
  pub relro_uncovered : check_file file page limit ≡ Err error.Relro → MatchOption (relro_of file) ⊥ (λ one. HasUncovered page (loads_of file) (relro_span page one))
  unfolding check_file
  relro_uncovered is = by_header (unless (header_rows file page) (tt {0})) refl is

  pub error_uncovered : (why : LoadError) → check_file file page limit ≡ Err why → why ≡ error.Relro → MatchOption (relro_of file) ⊥ (λ one. HasUncovered page (loads_of file) (relro_span page one))
  error_uncovered why is same = relro_uncovered (rw same at is)
