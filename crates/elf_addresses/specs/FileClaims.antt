-- The parts of a file and the bytes of the file that each claims (gABI, "ELF Header", "Sections" and "Program
-- Header"; that a part is cut to the file, and which parts claim bytes, is this project's own).
use Rattle.std.specs.Prelude.{ℕ, ◌+◌, ◌-◌, ◌*◌, ◌==◌, ◌&&◌, ◌||◌, not, Bool, min, nat_lt, List, [], length, slice_get, Option, None, Some, if◌then◌else◌}
use Rattle.std.specs.Option.{option_map_or}
use Rattle.elf_base.specs.FileHeader.{header_fields, pt2_size}
use Rattle.elf_records.specs.ProgramNumbers.{ph_type_number}
use Rattle.xmas_elf.specs.Types.{ElfFile, ProgramHeader, SectionHeader}
use Rattle.xmas_elf.specs.SectionHeader.{program_count_of, section_count_of, section_fields, section_list}
use Rattle.xmas_elf.specs.ProgramHeader.{program_fields, program_list}
use Rattle.elf_addresses.specs.Index.{number_count, word_count}
use Rattle.elf_addresses.specs.declared.claim.Claim.{Claim}

-- the number of bytes of a file
abbrev pub byte_count : ElfFile → ℕ
byte_count file = length file.input.now

-- a range is the offset of its first byte and its size: the part of it that a file of n bytes contains
abbrev pub cut_range : ℕ → ℕ × ℕ → ℕ × ℕ
cut_range n range = (range.0, min range.1 (n - range.0))

-- the ELF header: e_ident, and the rest of it in the layout of the class
abbrev pub elf_header : ElfFile → ℕ × ℕ
elf_header file = cut_range (byte_count file) (0, 16 + pt2_size file.header.pt2)

-- a table of headers; there is none if its offset is 0
abbrev pub table_range : ℕ → ℕ → ℕ → ℕ × ℕ
table_range offset entry_size count = (offset, if offset == 0 then 0 else entry_size * count)

-- the program header table
abbrev pub program_headers : ElfFile → ℕ × ℕ
program_headers file = let part = header_fields file.header.pt2 in
    cut_range (byte_count file) (table_range part.ph_offset part.ph_entry_size (program_count_of file))

-- the section header table
abbrev pub section_headers : ElfFile → ℕ × ℕ
section_headers file = let part = header_fields file.header.pt2 in
    cut_range (byte_count file) (table_range part.sh_offset part.sh_entry_size (section_count_of file))

-- a table has entries: there is one, each of its entries can be read, and their indices have 32 bits
abbrev pub is_whole : ℕ → ℕ → ℕ → Bool
is_whole offset count readable = not (offset == 0) && readable == count && nat_lt count 0x100000000

-- the sections of a file whose section header table is whole
abbrev pub section_parts : ElfFile → List SectionHeader
section_parts file =
    if is_whole (header_fields file.header.pt2).sh_offset (section_count_of file) (length (section_list file)) then section_list file else []

-- the segments of a file whose program header table is whole
abbrev pub segment_parts : ElfFile → List ProgramHeader
segment_parts file =
    if is_whole (header_fields file.header.pt2).ph_offset (program_count_of file) (length (program_list file)) then program_list file else []

-- the bytes of a section: none for SHT_NULL (0) and SHT_NOBITS (8)
abbrev pub section_range : SectionHeader → ℕ × ℕ
section_range section = let fields = section_fields section in
    (fields.offset, if fields.type_ == 0 || fields.type_ == 8 then 0 else fields.size)

-- the bytes of a segment in the file: none for PT_NULL (0) and PT_GNU_RELRO
abbrev pub segment_range : ProgramHeader → ℕ × ℕ
segment_range program = let fields = program_fields program in let type_ = ph_type_number fields.type_ in
    (fields.offset, if type_ == 0 || type_ == 0x6474e552 then 0 else fields.file_size)

-- the range of the part at an index, cut to n bytes
abbrev pub part_range : {H : Type 0} → (H → ℕ × ℕ) → ℕ → List H → ℕ → ℕ × ℕ
part_range range n parts index = option_map_or (λ part. cut_range n (range part)) (slice_get parts index) (0, 0)

-- the claim of a range
abbrev pub claim_with : ℕ → ℕ × ℕ → Claim
claim_with index range = record { begin = range.0; size = range.1; extent = range.1; rank = 0; index = index }

-- the claim of a range, if it is not empty
abbrev pub range_claim : ℕ → ℕ × ℕ → Option Claim
range_claim index range = if range.1 == 0 then None else Some (claim_with index range)

-- the range in the file of the section at an index
abbrev pub section_range_at : ElfFile → ℕ → ℕ × ℕ
section_range_at file = part_range section_range (byte_count file) (section_parts file)

-- the claim of the section at an index
abbrev pub section_claim : ElfFile → ℕ → Option Claim
section_claim file index = range_claim index (section_range_at file index)

-- the range in the file of the segment at an index
abbrev pub segment_range_at : ElfFile → ℕ → ℕ × ℕ
segment_range_at file = part_range segment_range (byte_count file) (segment_parts file)

-- the claim of the segment at an index
abbrev pub segment_claim : ElfFile → ℕ → Option Claim
segment_claim file index = range_claim index (segment_range_at file index)

-- the number of words for the indices of the sections and of the segments
abbrev pub piece_words : ElfFile → ℕ
piece_words file =
    word_count (section_claim file) (length (section_parts file)) + word_count (segment_claim file) (length (segment_parts file))

-- the number of numbers for the ranges of the sections and of the segments
abbrev pub piece_numbers : ElfFile → ℕ
piece_numbers file =
    number_count (section_claim file) (length (section_parts file)) + number_count (segment_claim file) (length (segment_parts file))
