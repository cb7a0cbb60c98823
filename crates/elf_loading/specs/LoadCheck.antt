-- Why a load can't be mapped, as Linux and glibc decide it (this project's own list).
use Rattle.std.specs.Prelude.{ℕ, ◌+◌, ◌%◌, ◌==◌, ◌&&◌, ◌||◌, bit_and, not, nat_le, nat_lt, Bool, List, [], ◌∷◌, ◌++◌, Option, Some, is_none, unwrap_or, Result, Ok}
use Rattle.std.specs.Int.{is_power_of_two}
use Rattle.elf_base.specs.FirstError.{and_then, unless}
use Rattle.elf_loading.specs.Types.{LoadError, Segment}
use Rattle.elf_loading.specs.Pages.{down, up}
use Rattle.elf_loading.specs.declared.error.LoadError.TheVariants as error

-- the first page of a load
abbrev pub load_start : ℕ → Segment → ℕ
load_start page load = down page load.address

-- the end of the pages with bytes of the file
abbrev pub file_end : ℕ → Segment → ℕ
file_end page load = up page (load.address + load.file_size)

-- the end of the pages of a load
abbrev pub load_end : ℕ → Segment → ℕ
load_end page load = up page (load.address + load.mem_size)

-- the address is not that of a page's first byte
abbrev pub is_inside_page : ℕ → Segment → Bool
is_inside_page page load = not (load.address % page == 0)

-- the first load has no bytes in the file, or a load has none in memory and begins inside a page
abbrev pub is_empty_load : ℕ → Bool → Segment → Bool
is_empty_load page is_first load =
    (is_first && load.file_size == 0) || (load.mem_size == 0 && is_inside_page page load)

-- the alignment means none, or is a power of two
abbrev pub is_alignment : ℕ → Bool
is_alignment align = align == 0 || is_power_of_two align

-- the bytes extend past the end of a file with `len` bytes; of a load without bytes that begins inside a page,
-- the page of the file
abbrev pub is_past_data : ℕ → ℕ → Segment → Bool
is_past_data page len load = nat_lt len (load.offset + load.file_size)
    || (load.file_size == 0 && is_inside_page page load && nat_le len (down page load.offset))

-- a load has zeros after its bytes, and is not both readable and writable (PF_R, PF_W)
abbrev pub has_shut_zeros : Segment → Bool
has_shut_zeros load = nat_lt load.file_size load.mem_size && not (bit_and load.flags.0 6 == 6)

-- the reasons why a load can't be mapped, in order; `before` is the end of the load before it
abbrev pub load_rows : ℕ → ℕ → ℕ → Option ℕ → Segment → List (Bool × LoadError)
load_rows page limit len before load =
    (nat_lt load.mem_size load.file_size, error.FileSize)
    ∷ (is_empty_load page (is_none before) load, error.Empty)
    ∷ (not (load.address % page == load.offset % page), error.Misaligned)
    ∷ (not (is_alignment load.align), error.Alignment)
    ∷ (nat_le limit load.address || nat_lt limit (load_end page load), error.Range)
    ∷ (is_past_data page len load, error.Data)
    ∷ (nat_lt (load_start page load) (unwrap_or before 0), error.Overlap)
    ∷ (has_shut_zeros load, error.Zeros)
    ∷ []

-- the end of a load, or why it can't be mapped
unfoldable pub check_load : ℕ → ℕ → ℕ → Option ℕ → Segment → Result ℕ LoadError
check_load page limit len before load = unless (load_rows page limit len before load) (load_end page load)

-- the end of the last load, if there is one, or the first reason why a load can't be mapped
unfoldable pub check_loads : ℕ → ℕ → ℕ → Option ℕ → List Segment → Result (Option ℕ) LoadError
check_loads page limit len before [] = Ok before
check_loads page limit len before (load ∷ loads) =
    and_then (check_load page limit len before load) (λ end. check_loads page limit len (Some end) loads)

-- the reasons of loads, load by load
abbrev pub loads_rows : ℕ → ℕ → ℕ → Option ℕ → List Segment → List (Bool × LoadError)
loads_rows page limit len before [] = []
loads_rows page limit len before (load ∷ loads) =
    load_rows page limit len before load ++ loads_rows page limit len (Some (load_end page load)) loads

-- the bytes of a load are within its memory, and its pages end at a limit or before it
abbrev pub fits_below : ℕ → ℕ → Segment → Bool
fits_below page limit load = nat_le load.file_size load.mem_size && nat_le (load_end page load) limit

-- an address is in the pages of a load
abbrev pub holds_address : ℕ → ℕ → Segment → Bool
holds_address page address load = nat_le (load_start page load) address && nat_lt address (load_end page load)
