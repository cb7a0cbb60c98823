-- The mappings of a file, as Linux makes them for a program and its interpreter, and glibc for a library.
use Rattle.std.specs.Prelude.{◌≤◌, ◌<◌, ℕ, ◌==◌, not, nat_lt, Bool, true, List, [], ◌∷◌, Option, Some, None, if◌then◌else◌}
use Rattle.std.specs.List.{cons_option}
use Rattle.elf_loading.specs.Types.{Contents, Flags, Loader, Mapping, Segment}
use Rattle.elf_loading.specs.LoadCheck.{file_end, load_end, load_start}
use Rattle.elf_loading.specs.Pages.{down}
use Rattle.elf_loading.specs.declared.mapping.Loader.TheVariants.{Kernel, Glibc}
use Rattle.elf_loading.specs.declared.mapping.Contents.TheVariants.{File, Zero, NoAccess}

-- a loader maps pages of the file for a load: Linux does not for a load without bytes
abbrev pub maps_file : Loader → Segment → Bool
maps_file Kernel load = not (load.file_size == 0)
maps_file Glibc load = true

-- the end of the pages of the file that a loader maps for a load
abbrev pub mapped_end : ℕ → Loader → Segment → ℕ
mapped_end page by load = if maps_file by load then file_end page load else load_start page load

-- a mapping, unless it is empty
abbrev pub mapping_if : ℕ → ℕ → Flags → Contents → Option Mapping
mapping_if start end flags contents =
    if nat_lt start end then Some (record { start = start; end = end; flags = flags; contents = contents }) else None

-- the pages between the load before and a load, which glibc maps without access, and Linux leaves to others
abbrev pub gap_mapping : ℕ → Loader → Option ℕ → Segment → Option Mapping
gap_mapping page Glibc (Some before) load = mapping_if before (load_start page load) (record { 0 = 0 }) NoAccess
gap_mapping page _ _ load = None

-- the pages of the file, from the page of the load's offset on
abbrev pub file_mapping : ℕ → Loader → Segment → Option Mapping
file_mapping page by load =
    mapping_if (load_start page load) (mapped_end page by load) load.flags (File (down page load.offset))

-- the pages of zeros after those of the file
abbrev pub zero_mapping : ℕ → Loader → Segment → Option Mapping
zero_mapping page by load = mapping_if (mapped_end page by load) (load_end page load) load.flags Zero

-- the mappings of loads in order; `before` is the end of the load before the first
unfoldable pub mappings_of : ℕ → Loader → Option ℕ → List Segment → List Mapping
mappings_of page by before [] = []
mappings_of page by before (load ∷ loads) =
    cons_option (gap_mapping page by before load)
    (cons_option (file_mapping page by load)
    (cons_option (zero_mapping page by load)
    (mappings_of page by (Some (load_end page load)) loads)))

-- an address is in a mapping
pub record IsMapped (address : ℕ) (mapping : Mapping) : Type 0 where
  pub begins : mapping.start ≤ address
  pub ends : address < mapping.end

-- mappings are not empty and follow each other between two addresses
abbrev pub FollowEachOther : ℕ → ℕ → List Mapping → Type 0
FollowEachOther low high [] = low ≤ high
FollowEachOther low high (mapping ∷ mappings) =
    (low ≤ mapping.start) × (mapping.start < mapping.end) × FollowEachOther mapping.end high mappings
