-- The mappings of one load.
use Rattle.std.specs.Prelude.{ℕ, min, nat_lt, List, [], ◌∷◌, Option, Some, if◌then◌else◌}
use Rattle.elf_loading.specs.Types.{Loader, Mapping, Parts, Segment}
use Rattle.elf_loading.specs.LoadCheck.{load_end, load_start}
use Rattle.elf_loading.specs.Mappings.{mapped_end}
use Rattle.elf_loading.specs.Pages.{down}
use Rattle.elf_loading.specs.declared.mapping.Contents.TheVariants.{File, Zero, NoAccess}
use Rattle.elf_loading.specs.declared.mapping.Loader.TheVariants.{Glibc}

-- where the mappings of a load and of the gap before it begin
abbrev pub first_mapped : ℕ → Loader → Option ℕ → Segment → ℕ
first_mapped page Glibc (Some before) load = min before (load_start page load)
first_mapped page _ _ load = load_start page load

-- the mappings of a load, and of the gap before it
abbrev pub parts_of : ℕ → Loader → Option ℕ → Segment → Parts
parts_of page by before load = record {
  at = first_mapped page by before load;
  start = load_start page load;
  middle = mapped_end page by load;
  end = load_end page load;
  flags = load.flags;
  offset = down page load.offset;
}

-- the pages of zeros from an address on, before others
abbrev pub zeros_from : ℕ → Parts → List Mapping → List Mapping
zeros_from at parts others = if nat_lt at parts.end
    then record { start = at; end = parts.end; flags = parts.flags; contents = Zero } ∷ others else others

-- the pages of the file from an address on, and those of zeros, before others
abbrev pub pages_from : ℕ → Parts → List Mapping → List Mapping
pages_from at parts others = if nat_lt at parts.middle
    then record { start = at; end = parts.middle; flags = parts.flags; contents = File parts.offset } ∷ zeros_from parts.middle parts others
    else zeros_from at parts others

-- the mappings that are still to be returned, before others
unfoldable pub parts_before : Parts → List Mapping → List Mapping
parts_before parts others = if nat_lt parts.at parts.start
    then record { start = parts.at; end = parts.start; flags = record { 0 = 0 }; contents = NoAccess } ∷ pages_from parts.start parts others
    else pages_from parts.at parts others

-- the mappings that are still to be returned
abbrev pub parts_rest : Parts → List Mapping
parts_rest parts = parts_before parts []
