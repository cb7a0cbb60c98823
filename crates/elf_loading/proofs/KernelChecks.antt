-- Linux maps a program that passes `check_load`.
use Rattle.std.proofs.Common.{◌≡◌, ℕ, ◌+◌, ◌-◌, ◌%◌, ◌^◌, ◌==◌, ◌<◌, ◌≤◌, ◌&&◌, ◌||◌, bit_and, min, not, nat_lt, nat_le, Bool, true, false, List, [], ◌∷◌, ◌++◌, length, Option, Some, None, Result, Ok, Err, if◌then◌else◌, refl, ap, ◌∙◌, arith}
use Rattle.std.proofs.lemmas.Bool.{and_left, and_right, eq-eqb, eqb-false, eqb-true, le-ltb, leb-true, ltb-false, ne_eqb, or_from, or_parts}
use Rattle.std.specs.Prelude.{IsOk}
use Rattle.elf_base.specs.FileHeader.{header_fields}
use Rattle.elf_base.specs.FirstError.{and_then, unless}
use Rattle.elf_linking.specs.Segments.{table_size}
use Rattle.xmas_elf.specs.Types.{ElfFile}
use Rattle.elf_loading.specs.Types.{LoadError, Segment}
use Rattle.elf_loading.specs.FileCheck.{NoneApplies, check_file, header_rows, is_no_path, kind_of}
use Rattle.elf_loading.specs.LoadCheck.{is_inside_page, load_end, load_rows, load_start, loads_rows}
use Rattle.elf_loading.specs.LoaderCheck.{are_nothing, check_by, check_each, check_program, has_lost_zeros, is_misaligned, is_nothing_at, is_past_offsets, kernel_rows, start_rows}
use Rattle.elf_loading.specs.Pages.{down, up}
use Rattle.elf_loading.specs.Segments.{interpreter_of, loads_of}
use Rattle.elf_loading.specs.declared.error.LoadError.TheVariants as error
use Rattle.elf_loading.specs.declared.mapping.Loader.TheVariants.{Kernel}
use Rattle.elf_loading.proofs.LoaderChecks.{each_rest}
use Rattle.elf_loading.proofs.Reasons.{passes_means}
use Rattle.elf_loading.proofs.Rounded.{down_le, same_whole, up_ge, up_near}

-- a list of which no reason applies
ok_of : (rows : List (Bool × LoadError)) → NoneApplies rows → unless rows (tt {0}) ≡ Ok (tt {0})
ok_of [] none = refl
ok_of (row ∷ rows) (first, none) = rw first (ok_of rows none)

-- no reason of two lists in turn
split : (rows others : List (Bool × LoadError)) → NoneApplies (rows ++ others) → NoneApplies rows × NoneApplies others
split [] others none = (tt, none)
split (row ∷ rows) others (first, none) = let (one, rest) = split rows others none in ((first, one), rest)

header_passes : (file : ElfFile) (page : ℕ) → NoneApplies (header_rows file page) → NoneApplies (header_rows file 65536)
header_passes file page (kind, (entry, (count, (table, none)))) =
    let part = header_fields file.header.pt2 in
    let parts = or_parts (part.ph_count == 0) (nat_lt (min page 65536) (table_size file.header)) count in
    let size : table_size file.header ≤ min page 65536 = ltb-false _ _ parts.1 in
    let fits : nat_lt (min 65536 65536) (table_size file.header) ≡ false = le-ltb _ _ (omega arith) in
    (kind, (entry, (or_from (part.ph_count == 0) (nat_lt (min 65536 65536) (table_size file.header)) parts.0 fits, (table, tt))))

module _ (page limit len : ℕ) (some : 0 < page) (room : len + page ≤ 2 ^ 63) where
  -- zeros behind bytes that the file has begin in a page of it
  kept_by : (load : Segment) (past : Bool) → nat_le len (down page (load.offset + load.file_size)) ≡ past → is_misaligned page load ≡ false → load.offset + load.file_size ≤ len → has_lost_zeros page len load ≡ false
  kept_by load false is same within = and_right (nat_lt load.file_size load.mem_size) _ (and_right (not (down page (load.address + load.file_size) == load.address + load.file_size)) _ is)
  kept_by load true is same within =
      let below : down page (load.offset + load.file_size) ≤ load.offset + load.file_size = down_le page (load.offset + load.file_size) in
      let above : len ≤ down page (load.offset + load.file_size) = leb-true _ _ is in
      let whole : down page (load.offset + load.file_size) ≡ load.offset + load.file_size = omega arith in
      let at : down page (load.address + load.file_size) ≡ load.address + load.file_size = same_whole page load.address load.offset load.file_size some (eqb-true _ _ (not_false _ same)) whole in
      and_right (nat_lt load.file_size load.mem_size) _ (and_left _ _ (ap not (eq-eqb _ _ at)))
    where
      not_false : (b : Bool) → not b ≡ false → b ≡ true
      not_false true is = refl
      not_false false is = absurd (cc)

  kernel_load : (before : Option ℕ) (load : Segment) → NoneApplies (load_rows page limit len before load) → NoneApplies (kernel_rows page limit len load)
  kernel_load before load (size, (empty, (aligned, (align, (range, (past, none)))))) =
      let ranges = or_parts (nat_le limit load.address) (nat_lt limit (load_end page load)) range in
      let ends : load_end page load ≤ limit = ltb-false _ _ ranges.1 in
      let over : load.address + load.mem_size ≤ load_end page load = up_ge page (load.address + load.mem_size) some in
      let datas = or_parts (nat_lt len (load.offset + load.file_size)) (load.file_size == 0 && is_inside_page page load && nat_le len (down page load.offset)) past in
      let inside : load.offset + load.file_size ≤ len = ltb-false _ _ datas.0 in
      let near : up page (load.offset + load.file_size) < load.offset + load.file_size + page = up_near page (load.offset + load.file_size) some in
      let offsets : is_past_offsets page load ≡ false = le-ltb _ _ (omega arith) in
      let has_bytes = not (load.file_size == 0) in
      let within : nat_lt limit (load.address + load.mem_size) ≡ false = le-ltb _ _ (omega arith) in
      let zeros = and_right (has_bytes && bit_and load.flags.0 2 == 2) _ (kept_by load _ refl aligned inside) in
      let ends_within = or_from (nat_le limit load.address) _ ranges.0 within in
      (size, (and_right has_bytes _ aligned, (ends_within, (and_right has_bytes _ offsets, (zeros, tt)))))

  kernel_loads : (before : Option ℕ) (loads : List Segment) → NoneApplies (loads_rows page limit len before loads) → check_each (kernel_rows page limit len) loads ≡ Ok (tt {0})
  kernel_loads before [] none = refl
  kernel_loads before (load ∷ loads) none =
      let (one, rest) = split (load_rows page limit len before load) (loads_rows page limit len (Some (load_end page load)) loads) none in
      each_rest (kernel_rows page limit len) (load ∷ loads) loads load refl (ok_of (kernel_rows page limit len load) (kernel_load before load one))
      ∙ kernel_loads (Some (load_end page load)) loads rest

  -- the first load has memory
  memory : (loads : List Segment) → NoneApplies (loads_rows page limit len None loads) → are_nothing page loads ≡ false
  memory [] none = refl
  memory (load ∷ loads) none =
      let (one, rest) = split (load_rows page limit len None load) (loads_rows page limit len (Some (load_end page load)) loads) none in
      let bytes = or_parts (load.file_size == 0) (load.mem_size == 0 && is_inside_page page load) one.1.0 in
      let sizes : load.file_size ≤ load.mem_size = ltb-false _ _ one.0 in
      let has : load.mem_size ≡ 0 → ⊥ = λ is. eqb-false _ _ bytes.0 (omega (arith, is, sizes)) in
      and_left (is_nothing_at (load_start page load) load) _ (and_left (load.mem_size == 0) _ (ne_eqb _ _ has))

-- four checks in turn
each_passes : (header path loads start : Result (Unit {0}) LoadError) → header ≡ Ok (tt {0}) → path ≡ Ok (tt {0}) → loads ≡ Ok (tt {0}) → start ≡ Ok (tt {0})
    → and_then header (λ _. and_then path (λ _. and_then loads (λ _. start))) ≡ Ok (tt {0})
each_passes header path loads start one two three four = rw one (rw two (rw three four))

maps : (file : ElfFile) (page limit end : ℕ) → 0 < page → check_file file page limit ≡ Ok end → length file.input.now + page ≤ 2 ^ 63 → check_by Kernel page limit file ≡ Ok (tt {0})
unfolding check_program
maps file page limit end some is room =
    let len = length file.input.now in
    let none = passes_means file page limit end is in
    let (header, after) = split (header_rows file page) _ none in
    let (loads, rest) = split (loads_rows page limit len None (loads_of file)) _ after in
    let start : NoneApplies (start_rows page limit file) =
    (and_right (kind_of file.header == 3) _ (memory page limit len some room (loads_of file) loads), (rest.1.1.1.1.1.0, tt)) in
    let path : List (Bool × LoadError) = (is_no_path file.input.now (interpreter_of file), error.Interpreter) ∷ [] in
    each_passes _ _ _ _ (ok_of (header_rows file 65536) (header_passes file page header)) (ok_of path (rest.1.1.0, tt))
    (kernel_loads page limit len some room None (loads_of file) loads) (ok_of (start_rows page limit file) start)

maps_by : (file : ElfFile) (page limit : ℕ) (answer : Result ℕ LoadError) → 0 < page → check_file file page limit ≡ answer → IsOk answer → length file.input.now + page ≤ 2 ^ 63 → check_by Kernel page limit file ≡ Ok (tt {0})
maps_by file page limit (Ok end) some is ok room = maps file page limit end some is room
maps_by file page limit (Err why) some is ok room = absurd (cc)

pub kernel_maps : (file : ElfFile) (page limit : ℕ) → 0 < page → IsOk (check_file file page limit) → length file.input.now + page ≤ 2 ^ 63 → check_by Kernel page limit file ≡ Ok (tt {0})
kernel_maps file page limit some ok room = maps_by file page limit (check_file file page limit) some refl ok room
