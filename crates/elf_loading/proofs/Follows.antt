-- The mappings of loads that are apart follow each other.
use Rattle.std.proofs.Common.{◌≡◌, ℕ, ◌+◌, ◌<◌, ◌≤◌, nat_lt, nat_le, Bool, true, false, List, [], ◌∷◌, Some, None, if◌then◌else◌, refl, sym, subst, arith, ◌-◌, ◌&&◌, ◌⊎◌, inl, inr, Option, unwrap_or, option_map, ap, ◌∙◌}
use Rattle.std.proofs.lemmas.Bool.{and_parts, leb-true, ltb-true, and_left, le-ltb, lt-leb}
use Rattle.std.specs.List.{cons_option, list_all, AllByRecursion, find}
use Rattle.elf_loading.specs.Types.{Contents, Flags, Loader, Mapping, Segment}
use Rattle.elf_loading.specs.LoadCheck.{file_end, fits_below, load_end, load_start, holds_address}
use Rattle.elf_loading.specs.Mappings.{FollowEachOther, file_mapping, gap_mapping, mapped_end, mapping_if, mappings_of, maps_file, zero_mapping, IsMapped}
use Rattle.elf_loading.specs.Spans.{first_start, last_end}
use Rattle.elf_loading.specs.Pages.{down}
use Rattle.elf_loading.specs.declared.mapping.Contents.TheVariants.{File, NoAccess, Zero}
use Rattle.elf_loading.specs.declared.mapping.Loader.TheVariants.{Kernel, Glibc}
use Rattle.elf_loading.proofs.LoadChecks.{AreApart, holds_between, missed, start_le_end}
use Rattle.elf_loading.proofs.Rounded.{down_le, file_end_le, up_ge}
use Rattle.elf_loading.specs.Bytes.{IsByteOf, HoldsByte, byte_of, is_of_file, load_byte, offset_at}
use Rattle.elf_loading.specs.declared.bytes.Byte.TheVariants as byte
use Rattle.elf_loading.specs.declared.mapping.Contents.TheVariants as contents

lower : (low low' high : ℕ) (mappings : List Mapping) → low' ≤ low → FollowEachOther low high mappings → FollowEachOther low' high mappings
lower low low' high [] le is = omega arith
lower low low' high (mapping ∷ mappings) le (first, some, rest) = (omega arith, some, rest)

part_by : (b : Bool) (start end high : ℕ) (mapping : Mapping) (mappings : List Mapping) → nat_lt start end ≡ b → mapping.start ≡ start → mapping.end ≡ end → start ≤ end → FollowEachOther end high mappings → FollowEachOther start high (cons_option (if b then Some mapping else None) mappings)
part_by true start end high mapping mappings is from to le rest =
    let less : start < end = ltb-true start end is in
    (omega arith, omega arith, subst (λ n. FollowEachOther n high mappings) (sym to) rest)
part_by false start end high mapping mappings is from to le rest = lower end start high mappings le rest

part : (start end high : ℕ) (flags : Flags) (contents : Contents) (mappings : List Mapping) → start ≤ end → FollowEachOther end high mappings → FollowEachOther start high (cons_option (mapping_if start end flags contents) mappings)
part start end high flags contents mappings le rest =
    part_by (nat_lt start end) start end high (record { start = start; end = end; flags = flags; contents = contents }) mappings refl refl refl le rest

-- the end of the pages of the file is between those of the load
pub record IsWithin (page : ℕ) (by : Loader) (load : Segment) : Type 0 where
  pub begins : load_start page load ≤ mapped_end page by load
  pub ends : mapped_end page by load ≤ load_end page load

within_by : (b : Bool) (start middle end : ℕ) → start ≤ middle → middle ≤ end → (start ≤ (if b then middle else start)) × ((if b then middle else start) ≤ end)
within_by true start middle end one two = (one, two)
within_by false start middle end one two = (omega arith, omega arith)

pub is_within : (page limit : ℕ) (by : Loader) (load : Segment) → 0 < page → fits_below page limit load ≡ true → IsWithin page by load
is_within page limit by load h fits =
    let both = and_parts (nat_le load.file_size load.mem_size) (nat_le (load_end page load) limit) fits in
    let less : load.file_size ≤ load.mem_size = leb-true load.file_size load.mem_size both.0 in
    let below : load_start page load ≤ load.address = down_le page load.address in
    let above : load.address + load.file_size ≤ file_end page load = up_ge page (load.address + load.file_size) h in
    let ends : file_end page load ≤ load_end page load = file_end_le page load.address load.file_size load.mem_size h less in
    let (one, two) = within_by (maps_file by load) (load_start page load) (file_end page load) (load_end page load) (omega arith) ends in
    record { begins = one; ends = two }

gap : (page before high : ℕ) (by : Loader) (load : Segment) (mappings : List Mapping) → before ≤ load_start page load → FollowEachOther (load_start page load) high mappings → FollowEachOther before high (cons_option (gap_mapping page by (Some before) load) mappings)
gap page before high Kernel load mappings le rest = lower (load_start page load) before high mappings le rest
gap page before high Glibc load mappings le rest = part before (load_start page load) high (record { 0 = 0 }) NoAccess mappings le rest

no_gap : (page high : ℕ) (by : Loader) (load : Segment) (mappings : List Mapping) → FollowEachOther (load_start page load) high mappings → FollowEachOther (load_start page load) high (cons_option (gap_mapping page by None load) mappings)
no_gap page high Kernel load mappings rest = rest
no_gap page high Glibc load mappings rest = rest

module _ (page limit : ℕ) (by : Loader) (h : 0 < page) where
  two_parts : (high : ℕ) (load : Segment) (mappings : List Mapping) → fits_below page limit load ≡ true → FollowEachOther (load_end page load) high mappings → FollowEachOther (load_start page load) high (cons_option (file_mapping page by load) (cons_option (zero_mapping page by load) mappings))
  two_parts high load mappings fits rest =
      let within = is_within page limit by load h fits in
      part (load_start page load) (mapped_end page by load) high load.flags (File (down page load.offset)) (cons_option (zero_mapping page by load) mappings) within.begins
      (part (mapped_end page by load) (load_end page load) high load.flags Zero mappings within.ends rest)

  follow_from : (before : ℕ) (loads : List Segment) → list_all (fits_below page limit) loads ≡ true → AreApart page before loads → FollowEachOther before (last_end page before loads) (mappings_of page by (Some before) loads)
  unfolding mappings_of
  follow_from before [] fits apart = omega arith
  follow_from before (load ∷ loads) fits (after, apart) =
      let both = and_parts (fits_below page limit load) (list_all (fits_below page limit) loads) fits in
      gap page before (last_end page (load_end page load) loads) by load _ after
      (two_parts (last_end page (load_end page load) loads) load _ both.0 (follow_from (load_end page load) loads both.1 apart))

  pub follow : (loads : List Segment) → list_all (fits_below page limit) loads ≡ true → AreApart page 0 loads → FollowEachOther (first_start page loads) (last_end page 0 loads) (mappings_of page by None loads)
  unfolding mappings_of
  follow [] fits apart = omega arith
  follow (load ∷ loads) fits (after, apart) =
      let both = and_parts (fits_below page limit load) (list_all (fits_below page limit) loads) fits in
      no_gap page (last_end page (load_end page load) loads) by load _
      (two_parts (last_end page (load_end page load) loads) load _ both.0 (follow_from (load_end page load) loads both.1 apart))

pub follow_order : (low high : ℕ) (mappings : List Mapping) → FollowEachOther low high mappings → low ≤ high
follow_order low high [] is = is
follow_order low high (mapping ∷ mappings) (first, some, rest) =
    let later : mapping.end ≤ high = follow_order mapping.end high mappings rest in omega arith

-- The byte at an address is that of the mapping that contains it.

all_map : (P Q : Mapping → Type 0) (mappings : List Mapping) → ((x : Mapping) → P x → Q x) → AllByRecursion P mappings → AllByRecursion Q mappings
all_map P Q [] next all = tt
all_map P Q (x ∷ mappings) next (one, all) = (next x one, all_map P Q mappings next all)

agrees_if : (P : Mapping → Type 0) (b : Bool) (x : Mapping) (mappings : List Mapping) → P x → AllByRecursion P mappings → AllByRecursion P (cons_option (if b then Some x else None) mappings)
agrees_if P true x mappings one all = (one, all)
agrees_if P false x mappings one all = all

-- one of the two, whatever a test says
file_or_zero : (b : Bool) (offset : ℕ) → (Some (if b then byte.File offset else byte.Zero) ≡ Some (byte.File offset)) ⊎ (Some (if b then byte.File offset else byte.Zero) ≡ Some byte.Zero)
file_or_zero true offset = inl refl
file_or_zero false offset = inr refl

module _ (page limit len : ℕ) (by : Loader) (address : ℕ) (h : 0 < page) where
  -- an address before loads that are apart is in none
  pub none_below : (before : ℕ) (loads : List Segment) → AreApart page before loads → address < before → find (holds_address page address) loads ≡ None
  none_below before [] apart less = refl
  none_below before (load ∷ loads) (after, apart) less =
      let order : load_start page load ≤ load_end page load = start_le_end page load h in
      let miss : holds_address page address load ≡ false = and_left (nat_le (load_start page load) address) (nat_lt address (load_end page load)) (lt-leb (load_start page load) address (omega arith)) in
      rw miss (none_below (load_end page load) loads apart (omega arith))

  -- the byte of a mapping, which begins after the loads before
  abbrev Agrees : ℕ → List Segment → Mapping → Type 0
  Agrees before loads x = IsMapped address x → (before ≤ address) × (IsByteOf x address (byte_of page by len address loads))

  found_first : (load : Segment) (loads : List Segment) → load_start page load ≤ address → address < load_end page load → byte_of page by len address (load ∷ loads) ≡ Some (load_byte page by len address load)
  found_first load loads from to = rw (holds_between page address load from to) refl

  gap_agrees : (before : ℕ) (load : Segment) (loads : List Segment) (mappings : List Mapping) (place : Option ℕ) → before ≡ unwrap_or place 0 → AreApart page before (load ∷ loads) → AllByRecursion (Agrees before (load ∷ loads)) mappings → AllByRecursion (Agrees before (load ∷ loads)) (cons_option (gap_mapping page by place load) mappings)
  gap_agrees before load loads mappings place is apart all = by_loader by place is
    where
      gap_byte : (end : ℕ) → end ≡ before → IsMapped address (record { start = end; end = load_start page load; flags = record { 0 = 0 }; contents = contents.NoAccess }) → (before ≤ address) × (byte_of page by len address (load ∷ loads) ≡ None)
      gap_byte end same mapped =
          let begins : end ≤ address = mapped.begins in
          let ends : address < load_start page load = mapped.ends in
          let later : AreApart page (load_start page load) (load ∷ loads) = (omega arith, apart.1) in
          (omega arith, ap (option_map (load_byte page by len address)) (none_below (load_start page load) (load ∷ loads) later ends))

      by_loader : (who : Loader) (at : Option ℕ) → before ≡ unwrap_or at 0 → AllByRecursion (Agrees before (load ∷ loads)) (cons_option (gap_mapping page who at load) mappings)
      by_loader Kernel at same = all
      by_loader Glibc None same = all
      by_loader Glibc (Some end) same =
          agrees_if (Agrees before (load ∷ loads)) (nat_lt end (load_start page load)) (record { start = end; end = load_start page load; flags = record { 0 = 0 }; contents = contents.NoAccess }) mappings (gap_byte end (sym same)) all

  file_agrees : (before : ℕ) (load : Segment) (loads : List Segment) (mappings : List Mapping) → fits_below page limit load ≡ true → before ≤ load_start page load → AllByRecursion (Agrees before (load ∷ loads)) mappings → AllByRecursion (Agrees before (load ∷ loads)) (cons_option (file_mapping page by load) mappings)
  file_agrees before load loads mappings fits after all =
      agrees_if (Agrees before (load ∷ loads)) (nat_lt (load_start page load) (mapped_end page by load)) (record { start = load_start page load; end = mapped_end page by load; flags = load.flags; contents = contents.File (down page load.offset) }) mappings file_byte all
    where
      file_byte : Agrees before (load ∷ loads) (record { start = load_start page load; end = mapped_end page by load; flags = load.flags; contents = contents.File (down page load.offset) })
      file_byte mapped =
          let within = is_within page limit by load h fits in
          let begins : load_start page load ≤ address = mapped.begins in
          let ends : address < mapped_end page by load = mapped.ends in
          let most : mapped_end page by load ≤ load_end page load = within.ends in (
            omega arith,
            subst (HoldsByte (contents.File (down page load.offset)) (address - load_start page load)) (sym (found_first load loads begins (omega arith)))
                (file_or_zero (is_of_file page by address load && nat_lt (offset_at page address load) len) (offset_at page address load)),
          )

  zero_agrees : (before : ℕ) (load : Segment) (loads : List Segment) (mappings : List Mapping) → fits_below page limit load ≡ true → before ≤ load_start page load → AllByRecursion (Agrees before (load ∷ loads)) mappings → AllByRecursion (Agrees before (load ∷ loads)) (cons_option (zero_mapping page by load) mappings)
  zero_agrees before load loads mappings fits after all =
      agrees_if (Agrees before (load ∷ loads)) (nat_lt (mapped_end page by load) (load_end page load)) (record { start = mapped_end page by load; end = load_end page load; flags = load.flags; contents = contents.Zero }) mappings zero_byte all
    where
      zero_byte : Agrees before (load ∷ loads) (record { start = mapped_end page by load; end = load_end page load; flags = load.flags; contents = contents.Zero })
      zero_byte mapped =
          let within = is_within page limit by load h fits in
          let begins : mapped_end page by load ≤ address = mapped.begins in
          let ends : address < load_end page load = mapped.ends in
          let least : load_start page load ≤ mapped_end page by load = within.begins in
          let past : nat_lt address (mapped_end page by load) ≡ false = le-ltb address (mapped_end page by load) begins in
          (omega arith, found_first load loads (omega arith) ends ∙ rw past refl)

  rest_agrees : (before : ℕ) (load : Segment) (loads : List Segment) (mappings : List Mapping) → before ≤ load_start page load → AllByRecursion (Agrees (load_end page load) loads) mappings → AllByRecursion (Agrees before (load ∷ loads)) mappings
  rest_agrees before load loads mappings after all = all_map (Agrees (load_end page load) loads) (Agrees before (load ∷ loads)) mappings later all
    where
      later : (x : Mapping) → Agrees (load_end page load) loads x → Agrees before (load ∷ loads) x
      later x agrees mapped =
          let (past, is) = agrees mapped in
          let order : load_start page load ≤ load_end page load = start_le_end page load h in
          let same : byte_of page by len address (load ∷ loads) ≡ byte_of page by len address loads = rw (missed page address load past) refl in
          (omega arith, subst (IsByteOf x address) (sym same) is)

  agree_from : (place : Option ℕ) (loads : List Segment) → list_all (fits_below page limit) loads ≡ true → AreApart page (unwrap_or place 0) loads → AllByRecursion (Agrees (unwrap_or place 0) loads) (mappings_of page by place loads)
  unfolding mappings_of
  agree_from place [] fits apart = tt
  agree_from place (load ∷ loads) fits apart =
      let both = and_parts (fits_below page limit load) (list_all (fits_below page limit) loads) fits in
      let rest = agree_from (Some (load_end page load)) loads both.1 apart.1 in
      gap_agrees (unwrap_or place 0) load loads _ place refl apart
      (file_agrees (unwrap_or place 0) load loads _ both.0 apart.0
      (zero_agrees (unwrap_or place 0) load loads _ both.0 apart.0
      (rest_agrees (unwrap_or place 0) load loads _ apart.0 rest)))

  -- each mapping that contains an address tells the byte there
  pub agree : (loads : List Segment) → list_all (fits_below page limit) loads ≡ true → AreApart page 0 loads → AllByRecursion (λ x. IsMapped address x → IsByteOf x address (byte_of page by len address loads)) (mappings_of page by None loads)
  agree loads fits apart = all_map (Agrees 0 loads) (λ x. IsMapped address x → IsByteOf x address (byte_of page by len address loads)) (mappings_of page by None loads) (λ x agrees mapped. (agrees mapped).1) (agree_from None loads fits apart)
