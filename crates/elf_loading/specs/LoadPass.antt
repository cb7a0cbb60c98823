-- What one pass over the loads of a file finds (this project's own).
use Rattle.std.specs.Prelude.{◌≡◌, ℕ, ◌+◌, ◌-◌, ◌==◌, ◌&&◌, ◌||◌, not, nat_le, nat_lt, slice_index, Bool, false, List, length, Option, Some, None, is_none, is_some, unwrap_or, if◌then◌else◌}
use Rattle.std.specs.Int.{is_power_of_two}
use Rattle.std.specs.List.{list_any}
use Rattle.elf_base.specs.FileHeader.{header_fields}
use Rattle.xmas_elf.specs.Types.{ElfFile}
use Rattle.elf_loading.specs.Types.{Extent, Others, Pass, Segment, Tls, Wanted}
use Rattle.elf_loading.specs.FileCheck.{covered_to, holder_in, holds_offset, is_put_at, kind_of}
use Rattle.elf_loading.specs.LoadCheck.{holds_address, load_end, load_start}
use Rattle.elf_loading.specs.Pages.{down}
use Rattle.elf_loading.specs.Spans.{first_start}

-- the first page of what is read-only after relocation, or 0 if there is none
abbrev pub first_of : ℕ → Option Extent → ℕ
first_of page (Some relro) = down page relro.start
first_of page None = 0

-- what the checks of the other segments ask of the loads
abbrev pub wanted_of : ℕ → ElfFile → Others → Wanted
wanted_of page file others = record {
  offset = (header_fields file.header.pt2).ph_offset;
  first = first_of page others.relro;
  phdr = unwrap_or others.phdr 0;
  tls = others.tls;
}

-- the bytes of a template, if there is one, are in the memory of a load
abbrev pub holds_some : Option Tls → Segment → Bool
holds_some (Some tls) load = nat_le load.address tls.address
    && nat_le (tls.address + tls.file_size) (load.address + load.mem_size)
holds_some None load = false

-- the first page that is in no load, after one more
abbrev pub covered_with : ℕ → ℕ → Segment → ℕ
covered_with page covered load = if holds_address page covered load then load_end page load else covered

-- what is found, after one more load
abbrev pub pass_with : ℕ → Wanted → Pass → Segment → Pass
pass_with page wanted pass load = record {
  start = if is_none pass.end then load_start page load else pass.start;
  end = Some (load_end page load);
  is_placed = if holds_offset wanted.offset load then is_put_at wanted.offset wanted.phdr (Some load) else pass.is_placed;
  covered = covered_with page pass.covered load;
  is_held = pass.is_held || holds_some wanted.tls load;
}

-- what is found of these loads
pub record IsPassOf (page : ℕ) (wanted : Wanted) (loads : List Segment) (pass : Pass) : Type 0 where
  pub start_is : pass.start ≡ first_start page loads
  pub placed_is : pass.is_placed ≡ is_put_at wanted.offset wanted.phdr (holder_in wanted.offset None loads)
  pub covered_is : pass.covered ≡ covered_to page wanted.first loads
  pub held_is : pass.is_held ≡ list_any (holds_some wanted.tls) loads

-- the loads don't put the program header table where PT_PHDR says, where they do or not
abbrev pub is_elsewhere : ElfFile → Others → Bool → Bool
is_elsewhere file others placed =
    if is_some others.phdr then not placed else kind_of file.header == 3 && is_some others.interpreter

-- the path of an interpreter can't be used
abbrev pub is_wrong_path : List ℕ → Option Extent → Bool
is_wrong_path input (Some path) = nat_lt path.size 2 || nat_lt 4096 path.size
    || nat_lt (length input) (path.start + path.size)
    || not (slice_index input (path.start + path.size - 1) == 0)
is_wrong_path input None = false

-- what is read-only after relocation extends past a page
abbrev pub is_past_covered : ℕ → ℕ → Option Extent → Bool
is_past_covered page covered (Some relro) = nat_lt covered (down page (relro.start + relro.size))
is_past_covered page covered None = false

-- the template can't be used, where its bytes are in one load or not
abbrev pub is_wrong_template : Bool → Option Tls → Bool
is_wrong_template held (Some tls) = nat_lt tls.mem_size tls.file_size || not (is_power_of_two tls.align)
    || (not (tls.file_size == 0) && not held)
is_wrong_template held None = false
