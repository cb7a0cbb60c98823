-- A file passes exactly if no reason of one list applies.
use Rattle.std.proofs.Common.{◌≡◌, ℕ, Bool, true, false, List, [], ◌∷◌, ◌++◌, length, Option, Some, None, ok_or, Result, Ok, Err, if◌then◌else◌, refl, sym, ap, subst, ◌∙◌}
use Rattle.std.specs.Prelude.{IsOk}
use Rattle.elf_base.specs.FirstError.{and_then, unless}
use Rattle.xmas_elf.specs.Types.{ElfFile}
use Rattle.elf_loading.specs.Types.{LoadError, Segment}
use Rattle.elf_loading.specs.FileCheck.{NoneApplies, all_rows, check_file, has_no_load, header_rows, segment_rows}
use Rattle.elf_loading.specs.LoadCheck.{check_load, check_loads, load_end, load_rows, loads_rows}
use Rattle.elf_loading.specs.Segments.{loads_of}
use Rattle.elf_loading.specs.Spans.{last_end}
use Rattle.elf_loading.specs.declared.error.LoadError.TheVariants as error
use Rattle.elf_loading.proofs.LoadChecks.{end_after, some_end, unless_ok}

append_by : {A : Type 0} (b : Bool) (why : LoadError) (rows others : List (Bool × LoadError)) (value : A) → unless (rows ++ others) value ≡ and_then (unless rows (tt {0})) (λ done. unless others value)
    → (if b then Err why else unless (rows ++ others) value) ≡ and_then (if b then Err why else unless rows (tt {0})) (λ done. unless others value)
append_by true why rows others value next = refl
append_by false why rows others value next = next

-- the reasons of two lists in turn
append_is : {A : Type 0} (rows others : List (Bool × LoadError)) (value : A) → unless (rows ++ others) value ≡ and_then (unless rows (tt {0})) (λ done. unless others value)
append_is [] others value = refl
append_is (row ∷ rows) others value = append_by row.0 row.1 rows others value (append_is rows others value)

value_by : {A : Type 0} (b : Bool) (why : LoadError) (rows : List (Bool × LoadError)) (value : A) → unless rows value ≡ and_then (unless rows (tt {0})) (λ done. Ok value)
    → (if b then Err why else unless rows value) ≡ and_then (if b then Err why else unless rows (tt {0})) (λ done. Ok value)
value_by true why rows value next = refl
value_by false why rows value next = next

value_is : {A : Type 0} (rows : List (Bool × LoadError)) (value : A) → unless rows value ≡ and_then (unless rows (tt {0})) (λ done. Ok value)
value_is [] value = refl
value_is (row ∷ rows) value = value_by row.0 row.1 rows value (value_is rows value)

module _ (page limit len : ℕ) where
  load_by : (answer : Result (Unit {0}) LoadError) (end : ℕ) (loads : List Segment) → check_loads page limit len (Some end) loads ≡ and_then (unless (loads_rows page limit len (Some end) loads) (tt {0})) (λ done. Ok (end_after page (Some end) loads))
      → and_then (and_then answer (λ done. Ok end)) (λ found. check_loads page limit len (Some found) loads)
      ≡ and_then (and_then answer (λ done. unless (loads_rows page limit len (Some end) loads) (tt {0}))) (λ done. Ok (Some (last_end page end loads)))
  load_by (Ok done) end loads next = next ∙ ap (λ last. and_then (unless (loads_rows page limit len (Some end) loads) (tt {0})) (λ done. Ok last)) (some_end page end loads)
  load_by (Err why) end loads next = refl

  loads_are : (before : Option ℕ) (loads : List Segment) → check_loads page limit len before loads ≡ and_then (unless (loads_rows page limit len before loads) (tt {0})) (λ done. Ok (end_after page before loads))
  unfolding check_loads check_load
  loads_are before [] = refl
  loads_are before (load ∷ loads) =
      let rows = load_rows page limit len before load in
      let end = load_end page load in
      ap (λ answer. and_then answer (λ found. check_loads page limit len (Some found) loads)) (value_is rows end)
      ∙ load_by (unless rows (tt {0})) end loads (loads_are (Some end) loads)
      ∙ ap (λ answer. and_then answer (λ done. Ok (Some (last_end page end loads)))) (sym (append_is rows (loads_rows page limit len (Some end) loads) (tt {0})))

module _ (file : ElfFile) (page limit : ℕ) where
  abbrev rest_rows : List (Bool × LoadError)
  rest_rows = (has_no_load (loads_of file), error.NoLoad) ∷ segment_rows file page limit

  last_by : (loads : List Segment) → and_then (ok_or (end_after page None loads) error.NoLoad) (λ end. and_then (unless (segment_rows file page limit) (tt {0})) (λ passed. Ok end))
      ≡ unless ((has_no_load loads, error.NoLoad) ∷ segment_rows file page limit) (last_end page 0 loads)
  last_by [] = refl
  last_by (load ∷ loads) = sym (value_is (segment_rows file page limit) (last_end page (load_end page load) loads))

  loads_by : (answer : Result (Unit {0}) LoadError) → and_then (and_then answer (λ done. Ok (end_after page None (loads_of file)))) (λ last. and_then (ok_or last error.NoLoad) (λ end. and_then (unless (segment_rows file page limit) (tt {0})) (λ passed. Ok end)))
      ≡ and_then answer (λ done. unless rest_rows (last_end page 0 (loads_of file)))
  loads_by (Ok done) = last_by (loads_of file)
  loads_by (Err why) = refl

  pub file_is : check_file file page limit ≡ unless (all_rows file page limit) (last_end page 0 (loads_of file))
  unfolding check_file
  file_is =
      let len = length file.input.now in
      let loads = loads_rows page limit len None (loads_of file) in
      ap (λ answer. and_then (unless (header_rows file page) (tt {0})) (λ done. and_then answer (λ last. and_then (ok_or last error.NoLoad) (λ end. and_then (unless (segment_rows file page limit) (tt {0})) (λ passed. Ok end))))) (loads_are page limit len None (loads_of file))
      ∙ ap (λ answer. and_then (unless (header_rows file page) (tt {0})) (λ done. answer)) (loads_by (unless loads (tt {0})))
      ∙ ap (λ answer. and_then (unless (header_rows file page) (tt {0})) (λ done. answer)) (sym (append_is loads rest_rows (last_end page 0 (loads_of file))))
      ∙ sym (append_is (header_rows file page) (loads ++ rest_rows) (last_end page 0 (loads_of file)))

ok_of_none : {A : Type 0} (rows : List (Bool × LoadError)) (value : A) → NoneApplies rows → IsOk (unless rows value)
ok_of_none [] value none = refl
ok_of_none (row ∷ rows) value (first, none) = rw first (ok_of_none rows value none)

-- no reason applies to a file whose check ends
pub passes_means : (file : ElfFile) (page limit end : ℕ) → check_file file page limit ≡ Ok end → NoneApplies (all_rows file page limit)
passes_means file page limit end is = (unless_ok (all_rows file page limit) (last_end page 0 (loads_of file)) end (sym (file_is file page limit) ∙ is)).0

pub error_means : (file : ElfFile) (page limit : ℕ) (why : LoadError) → check_file file page limit ≡ Err why → NoneApplies (all_rows file page limit) → ⊥
error_means file page limit why is none = by_ok (subst IsOk (sym (file_is file page limit)) (ok_of_none (all_rows file page limit) (last_end page 0 (loads_of file)) none))
  where
    by_ok : IsOk (check_file file page limit) → ⊥
    by_ok ok = absurd (cc)
