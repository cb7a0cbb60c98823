-- The bytes that memory holds once a file is mapped (gABI, "Program Header", p_filesz and p_memsz; the slack of
-- pages as Linux and glibc leave it).
use Rattle.std.specs.Prelude.{◌≡◌, ◌⊎◌, ℕ, ◌+◌, ◌-◌, ◌&&◌, not, nat_le, nat_lt, slice_index, Bool, List, Option, Some, None, option_map, if◌then◌else◌}
use Rattle.std.specs.List.{find}
use Rattle.elf_loading.specs.Types.{Byte, Contents, Loader, Mapping, Segment}
use Rattle.elf_loading.specs.LoadCheck.{holds_address, load_end, load_start}
use Rattle.elf_loading.specs.Mappings.{mapped_end}
use Rattle.elf_loading.specs.Pages.{down}
use Rattle.elf_loading.specs.declared.mapping.Loader.TheVariants.{Kernel, Glibc}
use Rattle.elf_loading.specs.declared.mapping.Contents.TheVariants as contents
use Rattle.elf_loading.specs.declared.bytes.Byte.TheVariants.{File, Zero}

-- a loader writes zeros at an address after the bytes of a load: Linux to the end of the page, if the load has
-- more bytes in memory than in the file; glibc up to the end of the load
abbrev pub is_zeroed : Loader → ℕ → Segment → Bool
is_zeroed Kernel address load =
    nat_lt load.file_size load.mem_size && nat_le (load.address + load.file_size) address
is_zeroed Glibc address load =
    nat_le (load.address + load.file_size) address && nat_lt address (load.address + load.mem_size)

-- the end of the zeros that a loader writes after the bytes of a load
abbrev pub zeroed_end : ℕ → Loader → Segment → ℕ
zeroed_end page Kernel load =
    if nat_lt load.file_size load.mem_size then load_end page load else load.address + load.mem_size
zeroed_end page Glibc load = load.address + load.mem_size

-- the byte at an address is one of the file, if the file has it
abbrev pub is_of_file : ℕ → Loader → ℕ → Segment → Bool
is_of_file page by address load = nat_lt address (mapped_end page by load) && not (is_zeroed by address load)

-- the offset of the byte at an address in the pages of a load
abbrev pub offset_at : ℕ → ℕ → Segment → ℕ
offset_at page address load = down page load.offset + (address - load_start page load)

-- the byte at an address in the pages of a load, of a file with `len` bytes
abbrev pub load_byte : ℕ → Loader → ℕ → ℕ → Segment → Byte
load_byte page by len address load = let offset = offset_at page address load in
    if is_of_file page by address load && nat_lt offset len then File offset else Zero

-- the byte at an address: that of the load whose pages contain it
abbrev pub byte_of : ℕ → Loader → ℕ → ℕ → List Segment → Option Byte
byte_of page by len address loads =
    option_map (load_byte page by len address) (find (holds_address page address) loads)

-- the number of a byte in a file; no byte counts as 0
abbrev pub byte_number : List ℕ → Option Byte → ℕ
byte_number input (Some (File offset)) = slice_index input offset
byte_number input (Some Zero) = 0
byte_number input None = 0

-- the byte at a place in a mapping, by what it holds
abbrev pub HoldsByte : Contents → ℕ → Option Byte → Type 0
HoldsByte (contents.File offset) place byte = (byte ≡ Some (File (offset + place))) ⊎ (byte ≡ Some Zero)
HoldsByte contents.Zero place byte = byte ≡ Some Zero
HoldsByte contents.NoAccess place byte = byte ≡ None

-- the byte at an address in a mapping: one of the file at the place in the mapping, or zero; zero in a mapping of
-- zeros; none in one without access
abbrev pub IsByteOf : Mapping → ℕ → Option Byte → Type 0
IsByteOf mapping address byte = HoldsByte mapping.contents (address - mapping.start) byte
