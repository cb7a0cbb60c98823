-- What a loader asks of the segments other than loads (gABI, "Program Header", p_type).
use Rattle.std.specs.Prelude.{◌≡◌, ℕ, ◌==◌, ◌&&◌, ◌||◌, Bool, is_none, List, Option, Some, None, option_map, if◌then◌else◌}
use Rattle.std.specs.List.{filter, find, last_or}
use Rattle.elf_loading.specs.Types.{Extent, Flags, Others, Segment, Tls}
use Rattle.xmas_elf.specs.Types.{ElfFile}
use Rattle.elf_linking.specs.Segments.{segments_of}
use Rattle.elf_loading.specs.Segments.{is_of_type}

-- the address of a segment
abbrev pub address_of : Segment → ℕ
address_of segment = segment.address

-- the permissions of a segment
abbrev pub flags_of : Segment → Flags
flags_of segment = segment.flags

-- the memory of a segment
abbrev pub memory_of : Segment → Extent
memory_of segment = record { start = segment.address; size = segment.mem_size }

-- the bytes that a segment has in the file
abbrev pub data_of : Segment → Extent
data_of segment = record { start = segment.offset; size = segment.file_size }

-- the template that a segment describes
abbrev pub template_of : Segment → Tls
template_of segment = record {
  address = segment.address;
  file_size = segment.file_size;
  mem_size = segment.mem_size;
  align = segment.align;
}

-- this is what a loader asks of the segments of a list
pub record AreOthersIn (segments : List Segment) (others : Others) : Type 0 where
  pub phdr_is : others.phdr ≡ option_map address_of (last_or None (filter (is_of_type 6 0) segments))
  pub relro_is : others.relro ≡ option_map memory_of (last_or None (filter (is_of_type 0x6474e552 0) segments))
  pub stack_is : others.stack ≡ option_map flags_of (last_or None (filter (is_of_type 0x6474e551 0) segments))
  pub tls_is : others.tls ≡ option_map template_of (last_or None (filter (is_of_type 7 1) segments))
  pub interpreter_is : others.interpreter ≡ option_map data_of (find (is_of_type 3 0) segments)

-- this is what a loader asks of the segments of a file
abbrev pub AreOthersOf : ElfFile → Others → Type 0
AreOthersOf file others = AreOthersIn (segments_of file) others

-- a loader asks for segments of this type, other than loads
abbrev pub is_kept : ℕ → Bool
is_kept kind = kind == 6 || kind == 3 || kind == 7 || kind == 0x6474e552 || kind == 0x6474e551

-- a part of the last segment of a type with at least `size` bytes in memory, after one more
abbrev pub last_with : {A : Type 0} → (Segment → A) → ℕ → ℕ → Option A → Segment → Option A
last_with part kind size last segment = if is_of_type kind size segment then Some (part segment) else last

-- a part of the first segment of a type, after one more
abbrev pub first_with : {A : Type 0} → (Segment → A) → ℕ → Option A → Segment → Option A
first_with part kind first segment =
    if is_none first && is_of_type kind 0 segment then Some (part segment) else first

-- what a loader asks, after one more segment
abbrev pub others_with : Others → Segment → Others
others_with others segment = record {
  phdr = last_with address_of 6 0 others.phdr segment;
  relro = last_with memory_of 0x6474e552 0 others.relro segment;
  stack = last_with flags_of 0x6474e551 0 others.stack segment;
  tls = last_with template_of 7 1 others.tls segment;
  interpreter = first_with data_of 3 others.interpreter segment;
}
