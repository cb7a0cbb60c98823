-- The bytes at the addresses of a load.
use Rattle.std.proofs.Common.{◌≡◌, ℕ, zero, suc, ◌+◌, ◌-◌, ◌%◌, ◌<◌, ◌≤◌, ◌==◌, ◌&&◌, nat_lt, nat_le, not, Bool, true, false, List, [], ◌∷◌, length, slice_index_or, if◌then◌else◌, refl, subst, arith, Some, None, ap, ◌∙◌, option_map}
use Rattle.std.proofs.lemmas.Bool.{and_from, and_left, and_parts, and_right, eqb-true, le-leb, leb-true, lt-leb, lt-ltb, ne_eqb}
use Rattle.std.specs.List.{Contains, list_all, AllByRecursion}
use Rattle.elf_loading.specs.Types.{Loader, Segment}
use Rattle.elf_loading.specs.Bytes.{is_zeroed, load_byte, offset_at, IsByteOf, byte_of}
use Rattle.elf_loading.specs.LoadCheck.{file_end, load_start, fits_below, load_end}
use Rattle.elf_loading.specs.Mappings.{mapped_end, maps_file, IsMapped, mappings_of}
use Rattle.elf_loading.specs.Pages.{down}
use Rattle.elf_loading.specs.declared.bytes.Byte.TheVariants.{File, Zero}
use Rattle.elf_loading.specs.declared.mapping.Loader.TheVariants.{Kernel, Glibc}
use Rattle.elf_loading.proofs.Rounded.{up_ge, down_le}
use Rattle.xmas_elf.specs.Types.{ElfFile}
use Rattle.elf_loading.specs.FileCheck.{check_file}
use Rattle.elf_loading.specs.Segments.{loads_of}
use Rattle.elf_loading.specs.Spans.{ends_at}
use Rattle.elf_loading.proofs.Follows.{agree}
use Rattle.elf_loading.proofs.FileChecks.{passes_apart, passes_fit, passes_lie}
use Rattle.elf_loading.proofs.LoadChecks.{fits_facts, held, lies_in}

-- a test that each item of a list passes
item_passes : (test : Segment → Bool) (k : ℕ) (loads : List Segment) (load : Segment) → list_all test loads ≡ true → k < length loads → slice_index_or loads k load ≡ load → test load ≡ true
item_passes test k [] load all below is = absurd (omega arith)
item_passes test zero (first ∷ loads) load all below is = subst (λ l. test l ≡ true) is (and_parts (test first) (list_all test loads) all).0
item_passes test (suc k) (first ∷ loads) load all below is = item_passes test k loads load (and_parts (test first) (list_all test loads) all).1 (omega arith) is

pub each_passes : (test : Segment → Bool) (loads : List Segment) (load : Segment) → list_all test loads ≡ true → Contains loads load → test load ≡ true
each_passes test loads load all (k, below, is) = item_passes test k loads load all below is

-- the offset of an address of a load
offset_is : (page address : ℕ) (load : Segment) → load.address % page ≡ load.offset % page → load.address ≤ address → offset_at page address load ≡ load.offset + (address - load.address)
unfolding down
offset_is page address load same le =
    let one : load.offset % page ≤ load.offset = omega arith in
    let other : load.address % page ≤ load.address = omega arith in
    omega arith

mapped_by : (b : Bool) (address start end : ℕ) → b ≡ true → address < end → nat_lt address (if b then end else start) ≡ true
mapped_by true address start end is less = lt-ltb address end less
mapped_by false address start end is less = absurd (cc)

maps_some : (by : Loader) (load : Segment) → 0 < load.file_size → maps_file by load ≡ true
maps_some Kernel load some = rw (ne_eqb load.file_size 0 (omega arith)) refl
maps_some Glibc load some = refl

unzeroed : (by : Loader) (address : ℕ) (load : Segment) → address < load.address + load.file_size → is_zeroed by address load ≡ false
unzeroed Kernel address load less = and_right (nat_lt load.file_size load.mem_size) _ (lt-leb (load.address + load.file_size) address less)
unzeroed Glibc address load less = and_left _ (nat_lt address (load.address + load.mem_size)) (lt-leb (load.address + load.file_size) address less)

zeroed : (by : Loader) (address : ℕ) (load : Segment) → load.address + load.file_size ≤ address → address < load.address + load.mem_size → is_zeroed by address load ≡ true
zeroed Kernel address load from to = and_from _ _ (lt-ltb load.file_size load.mem_size (omega arith)) (le-leb _ _ from)
zeroed Glibc address load from to = and_from _ _ (le-leb _ _ from) (lt-ltb _ _ to)

module _ (page limit len : ℕ) (by : Loader) (address : ℕ) (load : Segment) (h : 0 < page) where
  pub file_byte : lies_in page len load ≡ true → load.address ≤ address → address < load.address + load.file_size → load_byte page by len address load ≡ File (load.offset + (address - load.address))
  file_byte lies from to =
      let both = and_parts (load.address % page == load.offset % page) (nat_le (load.offset + load.file_size) len) lies in
      let inside : load.offset + load.file_size ≤ len = leb-true _ _ both.1 in
      let above : load.address + load.file_size ≤ file_end page load = up_ge page (load.address + load.file_size) h in
      let mapped : nat_lt address (mapped_end page by load) ≡ true = mapped_by (maps_file by load) address (load_start page load) (file_end page load) (maps_some by load (omega arith)) (omega arith) in
      let offset = offset_is page address load (eqb-true _ _ both.0) from in
      let fits : nat_lt (load.offset + (address - load.address)) len ≡ true = lt-ltb _ _ (omega arith) in
      rw (mapped, unzeroed by address load to, offset, fits) refl

  pub zero_byte : load.address + load.file_size ≤ address → address < load.address + load.mem_size → load_byte page by len address load ≡ Zero
  zero_byte from to = shut (nat_lt address (mapped_end page by load)) (zeroed by address load from to)
    where
      shut : (b : Bool) → is_zeroed by address load ≡ true → (if b && not (is_zeroed by address load) && nat_lt (offset_at page address load) len then File (offset_at page address load) else Zero) ≡ Zero
      shut true is = rw is refl
      shut false is = refl

-- The bytes at addresses of a file that passes its check.

module _ (file : ElfFile) (page limit end : ℕ) (by : Loader) (address : ℕ) (h : 0 < page) (is : ends_at (check_file file page limit) end ≡ true) where
  found : (load : Segment) → Contains (loads_of file) load → load.address ≤ address → address < load.address + load.mem_size → byte_of page by (length file.input.now) address (loads_of file) ≡ Some (load_byte page by (length file.input.now) address load)
  found load has from to =
      let below : load_start page load ≤ load.address = down_le page load.address in
      let above : load.address + load.mem_size ≤ load_end page load = up_ge page (load.address + load.mem_size) h in
      ap (option_map (load_byte page by (length file.input.now) address)) (held page address (loads_of file) load h (passes_apart file page limit end is) has (omega arith) (omega arith))

  pub byte_of_file : (load : Segment) → Contains (loads_of file) load → load.address ≤ address → address < load.address + load.file_size → byte_of page by (length file.input.now) address (loads_of file) ≡ Some (File (load.offset + (address - load.address)))
  byte_of_file load has from to =
      let fits = fits_facts page limit load h (each_passes (fits_below page limit) (loads_of file) load (passes_fit file page limit end is) has) in
      let less : load.file_size ≤ load.mem_size = fits.sizes in
      let lies = each_passes (lies_in page (length file.input.now)) (loads_of file) load (passes_lie file page limit end is) has in
      found load has from (omega arith) ∙ ap (λ b. Some b) (file_byte page limit (length file.input.now) by address load h lies from to)

  pub byte_of_zeros : (load : Segment) → Contains (loads_of file) load → load.address + load.file_size ≤ address → address < load.address + load.mem_size → byte_of page by (length file.input.now) address (loads_of file) ≡ Some Zero
  byte_of_zeros load has from to =
      found load has (omega arith) to ∙ ap (λ b. Some b) (zero_byte page limit (length file.input.now) by address load h from to)

  pub byte_of_mapping : AllByRecursion (λ mapping. IsMapped address mapping → IsByteOf mapping address (byte_of page by (length file.input.now) address (loads_of file))) (mappings_of page by None (loads_of file))
  byte_of_mapping = agree page limit (length file.input.now) by address h (loads_of file) (passes_fit file page limit end is) (passes_apart file page limit end is)
