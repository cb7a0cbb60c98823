-- What holds of a file that passes its check.
use Rattle.std.proofs.Common.{◌≡◌, ℕ, ◌+◌, ◌-◌, ◌^◌, ◌==◌, ◌<◌, ◌≤◌, ◌||◌, not, nat_lt, nat_le, slice_index, if◌then◌else◌, Bool, true, false, List, [], ◌∷◌, length, Option, Some, None, ok_or, option_map, Result, Ok, Err, refl, sym, ap, subst, arith}
use Rattle.std.proofs.lemmas.Bool.{and_parts, eqb-true, eq-eqb, leb-true, ltb-false, or_parts}
use Rattle.std.specs.List.{list_all}
use Rattle.elf_base.specs.FirstError.{and_then, unless}
use Rattle.elf_base.specs.Text.{BytesError}
use Rattle.elf_loading.specs.Types.{ElfError, Extent, LoadError, Loader, Segment, Span}
use Rattle.elf_base.specs.declared.error.ElfError.TheVariants.{TextStart, TextEnd}
use Rattle.xmas_elf.specs.Types.{ElfFile}
use Rattle.elf_loading.specs.FileCheck.{NoneApplies, check_file, covered_to, header_rows, is_no_path, is_uncovered, segment_rows}
use Rattle.elf_loading.specs.LoadCheck.{check_loads, fits_below, holds_address, load_end}
use Rattle.elf_loading.specs.Others.{data_of, memory_of}
use Rattle.elf_loading.specs.Pages.{down}
use Rattle.elf_loading.specs.Segments.{interpreter_of, loads_of, relro_of}
use Rattle.elf_loading.specs.Spans.{IsCovered, ends_at, first_start, last_end, relro_span}
use Rattle.elf_loading.specs.Mappings.{FollowEachOther, mappings_of}
use Rattle.elf_loading.specs.declared.mapping.Loader.TheVariants.{Kernel}
use Rattle.elf_loading.proofs.Follows.{follow, follow_order}
use Rattle.elf_loading.specs.declared.error.LoadError.TheVariants as error
use Rattle.elf_loading.proofs.LoadChecks.{AreApart, checks_apart, checks_end, end_after, lies_in, loads_fit, loads_lie, unless_ok}
use Rattle.elf_loading.proofs.Covered.{covered}
use Rattle.elf_loading.proofs.Rounded.{down_le}

pub ends_ok : (answer : Result ℕ LoadError) (end : ℕ) → ends_at answer end ≡ true → answer ≡ Ok end
ends_ok (Ok found) end is = ap (λ n. Ok n) (eqb-true found end is)
ends_ok (Err error) end is = absurd (cc)

pub ok_ends : (answer : Result ℕ LoadError) (end : ℕ) → answer ≡ Ok end → ends_at answer end ≡ true
ok_ends answer end is = rw is (eq-eqb end end refl)

-- a file that passes its check: its loads are checked up to the end of the last, and no reason of the rest applies
pub record Passes (file : ElfFile) (page limit end : ℕ) : Type 0 where
  pub loads : check_loads page limit (length file.input.now) None (loads_of file) ≡ Ok (Some end)
  pub rest : NoneApplies (segment_rows file page limit)

covered_by : (page limit bound address : ℕ) (b : Bool) (load : Segment) → limit < bound → address < bound → load_end page load ≤ limit → (if b then load_end page load else address) < bound
covered_by page limit bound address true load le at fits = omega arith
covered_by page limit bound address false load le at fits = at

covered_le : (page limit bound address : ℕ) (loads : List Segment) → list_all (fits_below page limit) loads ≡ true → limit < bound → address < bound → covered_to page address loads < bound
covered_le page limit bound address [] fits le at = at
covered_le page limit bound address (load ∷ loads) fits le at =
    let both = and_parts (fits_below page limit load) (list_all (fits_below page limit) loads) fits in
    let first = and_parts (nat_le load.file_size load.mem_size) (nat_le (load_end page load) limit) both.0 in
    covered_le page limit bound (if holds_address page address load then load_end page load else address) loads both.1 le
    (covered_by page limit bound address (holds_address page address load) load le at (leb-true _ _ first.1))

un_not : (b : Bool) → not b ≡ false → b ≡ true
un_not true is = refl
un_not false is = absurd (cc)

-- a path in a file ends in it
path_ends : (input : List ℕ) (segment : Segment) (why : ElfError) → is_no_path input (Some segment) ≡ false → BytesError input segment.offset why → ⊥
path_ends input segment why path failed =
    let all = or_parts (nat_lt segment.file_size 2 || nat_lt 4096 segment.file_size || nat_lt (length input) (segment.offset + segment.file_size)) (not (slice_index input (segment.offset + segment.file_size - 1) == 0)) path in
    let front = or_parts (nat_lt segment.file_size 2 || nat_lt 4096 segment.file_size) (nat_lt (length input) (segment.offset + segment.file_size)) all.0 in
    let small = or_parts (nat_lt segment.file_size 2) (nat_lt 4096 segment.file_size) front.0 in
    let some : 2 ≤ segment.file_size = ltb-false _ _ small.0 in
    let inside : segment.offset + segment.file_size ≤ length input = ltb-false _ _ front.1 in
    by_error why (not_zero (slice_index input (segment.offset + segment.file_size - 1)) all.1) some inside failed
  where
    not_zero : (n : ℕ) → not (n == 0) ≡ false → n ≡ 0
    not_zero n is = eqb-true n 0 (un_not (n == 0) is)

    by_error : (error : ElfError) → slice_index input (segment.offset + segment.file_size - 1) ≡ 0 → 2 ≤ segment.file_size → segment.offset + segment.file_size ≤ length input → BytesError input segment.offset error → ⊥
    by_error TextStart zero_there some inside short = omega arith
    by_error TextEnd zero_there some inside (start, none) = none (segment.offset + segment.file_size - 1) (omega arith) (omega arith) zero_there
    by_error _ zero_there some inside never = never

-- the segment of which a part was kept
some_of : {A : Type 0} → (part : Segment → A) (whole : Option Segment) (found : A) → Some found ≡ option_map part whole → (segment : Segment) × (whole ≡ Some segment) × (part segment ≡ found)
some_of part (Some segment) found is = (segment, refl, cc)
some_of part None found is = absurd (cc)

-- the pages of a segment, both ends rounded down
abbrev pub span_in : ℕ → Extent → Span
span_in page memory = record { start = down page memory.start; end = down page (memory.start + memory.size) }

pub relro_some : (page : ℕ) (relro : Option Segment) (memory : Extent) → Some memory ≡ option_map memory_of relro → option_map (relro_span page) relro ≡ Some (span_in page memory)
relro_some page (Some segment) memory is =
    let same : memory ≡ memory_of segment = cc in ap (λ m. Some (span_in page m)) (sym same)
relro_some page None memory is = absurd (cc)

pub relro_none : (page : ℕ) (relro : Option Segment) → None ≡ option_map memory_of relro → option_map (relro_span page) relro ≡ None
relro_none page (Some segment) is = absurd (cc)
relro_none page None is = refl

pub path_none : (interpreter : Option Segment) → None ≡ option_map data_of interpreter → interpreter ≡ None
path_none (Some segment) is = absurd (cc)
path_none None is = refl

module _ (file : ElfFile) (page limit end : ℕ) where
  by_rest : (found : ℕ) (answer : Result (Unit {0}) LoadError) → unless (segment_rows file page limit) (tt {0}) ≡ answer → and_then answer (λ passed. Ok found) ≡ Ok end → NoneApplies (segment_rows file page limit) × (found ≡ end)
  by_rest found (Ok passed) rest is = ((unless_ok (segment_rows file page limit) (tt {0}) passed rest).0, cc)
  by_rest found (Err error) rest is = absurd (cc)

  by_last : (last : Option ℕ) → check_loads page limit (length file.input.now) None (loads_of file) ≡ Ok last → and_then (ok_or last error.NoLoad) (λ found. and_then (unless (segment_rows file page limit) (tt {0})) (λ passed. Ok found)) ≡ Ok end → Passes file page limit end
  by_last (Some found) loads is =
      let (none, same) = by_rest found (unless (segment_rows file page limit) (tt {0})) refl is in
      record { loads = subst (λ n. check_loads page limit (length file.input.now) None (loads_of file) ≡ Ok (Some n)) same loads; rest = none }
  by_last None loads is = absurd (cc)

  by_loads : (answer : Result (Option ℕ) LoadError) → check_loads page limit (length file.input.now) None (loads_of file) ≡ answer → and_then answer (λ last. and_then (ok_or last error.NoLoad) (λ found. and_then (unless (segment_rows file page limit) (tt {0})) (λ passed. Ok found))) ≡ Ok end → Passes file page limit end
  by_loads (Ok last) loads is = by_last last loads is
  by_loads (Err error) loads is = absurd (cc)

  by_header : (answer : Result (Unit {0}) LoadError) → and_then answer (λ done. and_then (check_loads page limit (length file.input.now) None (loads_of file)) (λ last. and_then (ok_or last error.NoLoad) (λ found. and_then (unless (segment_rows file page limit) (tt {0})) (λ passed. Ok found)))) ≡ Ok end → Passes file page limit end
  by_header (Ok done) is = by_loads (check_loads page limit (length file.input.now) None (loads_of file)) refl is
  by_header (Err error) is = absurd (cc)

  pub passes : check_file file page limit ≡ Ok end → Passes file page limit end
  unfolding check_file
  passes is = by_header (unless (header_rows file page) (tt {0})) is

  pub passes_fit : ends_at (check_file file page limit) end ≡ true → list_all (fits_below page limit) (loads_of file) ≡ true
  passes_fit is = loads_fit page limit (length file.input.now) None (Some end) (loads_of file) (passes (ends_ok (check_file file page limit) end is)).loads

  pub passes_lie : ends_at (check_file file page limit) end ≡ true → list_all (lies_in page (length file.input.now)) (loads_of file) ≡ true
  passes_lie is = loads_lie page limit (length file.input.now) None (Some end) (loads_of file) (passes (ends_ok (check_file file page limit) end is)).loads

  pub passes_apart : ends_at (check_file file page limit) end ≡ true → AreApart page 0 (loads_of file)
  passes_apart is = checks_apart page limit (length file.input.now) None (Some end) (loads_of file) (passes (ends_ok (check_file file page limit) end is)).loads

  by_end : (loads : List Segment) → Some end ≡ end_after page None loads → end ≡ last_end page 0 loads
  by_end [] is = absurd (cc)
  by_end (load ∷ loads) is = cc

  pub passes_end : ends_at (check_file file page limit) end ≡ true → end ≡ last_end page 0 (loads_of file)
  passes_end is = by_end (loads_of file) (checks_end page limit (length file.input.now) None (Some end) (loads_of file) (passes (ends_ok (check_file file page limit) end is)).loads)

  -- what is read-only after relocation ends at an address
  pub passes_relro : (bound : ℕ) (relro : Segment) → ends_at (check_file file page limit) end ≡ true → relro_of file ≡ Some relro → limit < bound → relro.address < bound → down page (relro.address + relro.mem_size) < bound
  passes_relro bound relro is there le at =
      let pass = passes (ends_ok (check_file file page limit) end is) in
      let covered : is_uncovered page (loads_of file) (Some relro) ≡ false = subst (λ o. is_uncovered page (loads_of file) o ≡ false) there pass.rest.1.1.0 in
      let below : down page relro.address ≤ relro.address = down_le page relro.address in
      let most = covered_le page limit bound (down page relro.address) (loads_of file) (passes_fit is) le (omega arith) in
      let least : down page (relro.address + relro.mem_size) ≤ covered_to page (down page relro.address) (loads_of file) = ltb-false _ _ covered in
      omega arith

  pub passes_relro_fits : (memory : Extent) → ends_at (check_file file page limit) end ≡ true → Some memory ≡ option_map memory_of (relro_of file) → limit < 2 ^ 64 → memory.start < 2 ^ 64 → down page (memory.start + memory.size) < 2 ^ 64
  passes_relro_fits memory is there le at =
      let (segment, found, part) = some_of memory_of (relro_of file) memory there in
      let same : segment.address ≡ memory.start = ap (λ m. m.start) part in
      let below : segment.address < 2 ^ 64 = omega (arith, same, at) in
      subst (λ m. down page (m.start + m.size) < 2 ^ 64) part (passes_relro (2 ^ 64) segment is found le below)

  pub passes_path : (path : Extent) (why : ElfError) → ends_at (check_file file page limit) end ≡ true → Some path ≡ option_map data_of (interpreter_of file) → BytesError file.input.now path.start why → ⊥
  passes_path path why is there failed =
      let (segment, found, part) = some_of data_of (interpreter_of file) path there in
      let pass = passes (ends_ok (check_file file page limit) end is) in
      let checked : is_no_path file.input.now (Some segment) ≡ false = subst (λ o. is_no_path file.input.now o ≡ false) found pass.rest.1.0 in
      path_ends file.input.now segment why checked (subst (λ p. BytesError file.input.now p.start why) (sym part) failed)

  pub passes_follow : (by : Loader) → 0 < page → ends_at (check_file file page limit) end ≡ true → FollowEachOther (first_start page (loads_of file)) (last_end page 0 (loads_of file)) (mappings_of page by None (loads_of file))
  passes_follow by h is = follow page limit by h (loads_of file) (passes_fit is) (passes_apart is)

  pub passes_order : 0 < page → ends_at (check_file file page limit) end ≡ true → first_start page (loads_of file) ≤ last_end page 0 (loads_of file)
  passes_order h is = follow_order (first_start page (loads_of file)) (last_end page 0 (loads_of file)) (mappings_of page Kernel None (loads_of file)) (passes_follow Kernel h is)

  covered_by_checked : (relro : Segment) → ends_at (check_file file page limit) end ≡ true → relro_of file ≡ Some relro → IsCovered page (loads_of file) (relro_span page relro)
  covered_by_checked relro is there address from to =
      let pass = passes (ends_ok (check_file file page limit) end is) in
      let checked : is_uncovered page (loads_of file) (Some relro) ≡ false = subst (λ o. is_uncovered page (loads_of file) o ≡ false) there pass.rest.1.1.0 in
      let least : down page (relro.address + relro.mem_size) ≤ covered_to page (down page relro.address) (loads_of file) = ltb-false _ _ checked in
      covered page (down page relro.address) address (loads_of file) from (omega arith)

  -- each address of what is read-only after relocation is in a load
  pub passes_covered : (memory : Extent) → ends_at (check_file file page limit) end ≡ true → Some memory ≡ option_map memory_of (relro_of file) → IsCovered page (loads_of file) (span_in page memory)
  passes_covered memory is there =
      let (segment, found, part) = some_of memory_of (relro_of file) memory there in
      subst (λ m. IsCovered page (loads_of file) (span_in page m)) part (covered_by_checked segment is found)
