-- Program headers: their fields, their places, and which can be read (gABI, "Program Header": Elf32_Phdr and
-- Elf64_Phdr).
-- The program headers of a file in order, and an iterator over them (gABI, "Program Header": the program
-- header table).
-- The bytes of a segment in its file (gABI, "Program Header", p_offset and p_filesz; the rule for an
-- empty segment is this project's own).
use Rattle.std.specs.Prelude.{◌≢◌, ℕ, ◌+◌, ◌<◌, ◌≤◌, ◌==◌, ◌||◌, not, nat_lt, List, [], ◌∷◌, length, Result, if◌then◌else◌, ◌≡◌, Option, Ok, Err}
use Rattle.elf_base.specs.Number.{number}
use Rattle.elf_base.specs.FirstError.{unless, and_then}
use Rattle.elf_base.specs.FileHeader.{file_class, file_order, header_fields}
use Rattle.elf_base.specs.declared.error.ElfError.TheVariants.{NoProgramHeaders, ShortProgramHeader, SmallEntry, UnknownClass, NullData}
use Rattle.elf_records.specs.ProgramNumbers.{ph_type_number, ph_type_of, ph_type_raw, is_ph_type}
use Rattle.elf_records.specs.declared.program.Type.TheVariants.{Null}
use Rattle.xmas_elf.specs.Prelude.{ElfError, ElfFile, Header, Order, ProgramHeader, ProgramHeader32, ProgramHeader64, SegmentType, ProgramIter}
use Rattle.xmas_elf.specs.SectionHeader.{program_count_of}
use Rattle.xmas_elf.specs.HeaderTable.{IsKnownClass, entry_place, is_known_class, HeaderStep, header_list, header_rest}
use Rattle.xmas_elf.specs.declared.program.program_header.ProgramHeader.TheVariants.{Ph32, Ph64}
use Rattle.xmas_elf.specs.Ranges.{IsRange, range_of}

-- a program header of class 32, of 32 bytes
abbrev pub program_header_32 : Order → ℕ → List ℕ → ProgramHeader32
program_header_32 order place bytes = record {
  type_ = ph_type_raw (number order 4 place bytes);
  offset = number order 4 (place + 4) bytes;
  virtual_addr = number order 4 (place + 8) bytes;
  physical_addr = number order 4 (place + 12) bytes;
  file_size = number order 4 (place + 16) bytes;
  mem_size = number order 4 (place + 20) bytes;
  flags = record { 0 = number order 4 (place + 24) bytes };
  align = number order 4 (place + 28) bytes;
}

-- a program header of class 64, of 56 bytes
abbrev pub program_header_64 : Order → ℕ → List ℕ → ProgramHeader64
program_header_64 order place bytes = record {
  type_ = ph_type_raw (number order 4 place bytes);
  flags = record { 0 = number order 4 (place + 4) bytes };
  offset = number order 8 (place + 8) bytes;
  virtual_addr = number order 8 (place + 16) bytes;
  physical_addr = number order 8 (place + 24) bytes;
  file_size = number order 8 (place + 32) bytes;
  mem_size = number order 8 (place + 40) bytes;
  align = number order 8 (place + 48) bytes;
}

-- the fields of class 32 in the record of class 64
abbrev pub program_64 : ProgramHeader32 → ProgramHeader64
program_64 header = record {
  type_ = header.type_;
  flags = header.flags;
  offset = header.offset;
  virtual_addr = header.virtual_addr;
  physical_addr = header.physical_addr;
  file_size = header.file_size;
  mem_size = header.mem_size;
  align = header.align;
}

-- the fields of a program header, of either class
abbrev pub program_fields : ProgramHeader → ProgramHeader64
program_fields (Ph32 header) = program_64 header
program_fields (Ph64 header) = header

-- the type of a segment, or that it is unknown
abbrev pub segment_type : ProgramHeader64 → Result SegmentType ElfError
segment_type segment = ph_type_of (ph_type_number segment.type_)

-- the size of a program header in bytes
abbrev pub program_record_size : ProgramHeader → ℕ
program_record_size (Ph32 header) = 32
program_record_size (Ph64 header) = 56

-- the size of a program header in bytes, by the class
abbrev pub program_header_size : ℕ → ℕ
program_header_size class = if class == 1 then 32 else 56

-- the offset of entry `index` of the program header table
abbrev pub program_place : Header → ℕ → ℕ
program_place header index = let part = header_fields header.pt2 in
    entry_place part.ph_offset part.ph_entry_size index

-- the program header at a place, in the layout of the class
abbrev pub program_at_place : ℕ → Order → ℕ → List ℕ → ProgramHeader
program_at_place class order place input =
    if class == 1 then Ph32 (program_header_32 order place input) else Ph64 (program_header_64 order place input)

-- the program header at an index, in the class and byte order of the ELF header
abbrev pub program_at_index : List ℕ → Header → ℕ → ProgramHeader
program_at_index input header index =
    program_at_place (file_class header) (file_order header) (program_place header index) input

-- program header `index` of a table with `count` entries can be read: the table has such an entry, which is
-- in the input and large enough for its class
pub record HasProgramEntry (input : List ℕ) (header : Header) (count index : ℕ) : Type 0 where
  pub counted : index < count
  pub placed : (header_fields header.pt2).ph_offset ≢ 0
  pub within : program_place header (index + 1) ≤ length input
  pub class : IsKnownClass (file_class header)
  pub large : program_header_size (file_class header) ≤ (header_fields header.pt2).ph_entry_size

-- program header `index`, or the first reason why it can't be read
unfoldable pub program_entry : List ℕ → Header → ℕ → ℕ → Result ProgramHeader ElfError
program_entry input header count index = let part = header_fields header.pt2 in unless (
    (not (nat_lt index count) || part.ph_offset == 0 || part.ph_entry_size == 0, NoProgramHeaders)
    ∷ (not (is_known_class (file_class header)), UnknownClass)
    ∷ (nat_lt (length input) (program_place header (index + 1)), ShortProgramHeader)
    ∷ (nat_lt part.ph_entry_size (program_header_size (file_class header)), SmallEntry)
    ∷ []) (program_at_index input header index)

-- program header `index` can be read, where the count is that of the ELF header
abbrev pub HasProgramHeader : List ℕ → Header → ℕ → Type 0
HasProgramHeader input header = HasProgramEntry input header (header_fields header.pt2).ph_count

-- that program header, or why it cannot be read
abbrev pub program_by_u16 : List ℕ → Header → ℕ → Result ProgramHeader ElfError
program_by_u16 input header = program_entry input header (header_fields header.pt2).ph_count

-- program header `index` can be read, where the count is the number of segments of the file
abbrev pub HasProgram : ElfFile → ℕ → Type 0
HasProgram file = HasProgramEntry file.input.now file.header (program_count_of file)

-- that program header, or why it cannot be read
abbrev pub program_of : ElfFile → ℕ → Result ProgramHeader ElfError
program_of file = program_entry file.input.now file.header (program_count_of file)

-- the program headers of a file by index, up to their number or the first that can't be read
abbrev pub program_list : ElfFile → List ProgramHeader
program_list file = header_list (program_of file) (program_count_of file)

-- the program headers that an iterator has not yet returned
abbrev pub program_rest : ProgramIter → List ProgramHeader
program_rest iter = header_rest (program_of iter.file.now) (program_count_of iter.file.now) iter.next_index

-- one call of `next`, which keeps the file
abbrev pub ProgramStep : ProgramIter → Option ProgramHeader → ProgramIter → Type 0
ProgramStep old result new = (new.file ≡ old.file)
    × HeaderStep program_rest (λ iter. iter.next_index) (λ iter. program_of iter.file.now) old result new

-- a segment has data: its type is known and not Null, and its range is empty or within the input
pub record HasSegmentData (file : ElfFile) (segment : ProgramHeader64) : Type 0 where
  pub kind : SegmentType
  pub typed : segment_type segment ≡ Ok kind
  pub not_null : kind ≢ Null
  pub within : segment.file_size ≢ 0 → segment.offset + segment.file_size ≤ length file.input.now

-- `range` is the data of a segment: bytes of its size in the file, at its offset unless it is empty
pub record IsSegmentData (file : ElfFile) (segment : ProgramHeader64) (range : List ℕ) : Type 0 where
  pub count_is : length range ≡ segment.file_size
  pub lies_there : segment.file_size ≢ 0 → IsRange file.input.now segment.offset segment.file_size range

-- the data of a segment, or why it has none, as a function; an empty segment has no bytes, whatever its
-- offset
unfoldable pub segment_data_of : ElfFile → ProgramHeader64 → Result (List ℕ) ElfError
segment_data_of file segment = and_then (segment_type segment) (λ kind. if is_ph_type Null kind then Err NullData
    else (if segment.file_size == 0 then Ok [] else range_of file.input.now segment.offset segment.file_size))
