-- The segments of a file: the records of its program header table (gABI, "Program Header": Elf32_Phdr and Elf64_Phdr).
-- As in Linux and glibc, the header alone says how many there are, and there are none if the entries have another size
-- or the table extends past the end of the file.
use Rattle.std.specs.Prelude.{◌≡◌, ℕ, zero, suc, ◌+◌, ◌*◌, ◌==◌, ◌&&◌, nat_le, Bool, List, [], ◌∷◌, length, if◌then◌else◌, Result, Ok}
use Rattle.elf_base.specs.FileHeader.{file_class, file_order, header_fields}
use Rattle.elf_base.specs.Number.{number}
use Rattle.elf_base.specs.declared.bytes.Order.{Order}
use Rattle.elf_base.specs.declared.error.ElfError.{ElfError}
use Rattle.xmas_elf.specs.Ranges.{range_of}
use Rattle.xmas_elf.specs.declared.ElfFile.{ElfFile}
use Rattle.elf_base.specs.declared.header.Header.{Header}
use Rattle.elf_linking.specs.declared.segments.Segment.{Segment}

-- the record of class 32 at an offset
abbrev pub segment_32 : Order → List ℕ → ℕ → Segment
segment_32 order input place = record {
  kind = number order 4 place input;
  flags = record { 0 = number order 4 (place + 24) input };
  offset = number order 4 (place + 4) input;
  address = number order 4 (place + 8) input;
  file_size = number order 4 (place + 16) input;
  mem_size = number order 4 (place + 20) input;
  align = number order 4 (place + 28) input;
}

-- the record of class 64 at an offset
abbrev pub segment_64 : Order → List ℕ → ℕ → Segment
segment_64 order input place = record {
  kind = number order 4 place input;
  flags = record { 0 = number order 4 (place + 4) input };
  offset = number order 8 (place + 8) input;
  address = number order 8 (place + 16) input;
  file_size = number order 8 (place + 32) input;
  mem_size = number order 8 (place + 40) input;
  align = number order 8 (place + 48) input;
}

-- the size of a record: 32 bytes in class 32, 56 in class 64
abbrev pub segment_size : Bool → ℕ
segment_size narrow = if narrow then 32 else 56

-- the record at an offset
abbrev pub segment_at : Bool → Order → List ℕ → ℕ → Segment
segment_at narrow order input place = if narrow then segment_32 order input place else segment_64 order input place

-- this many records from an offset on, one after the other
abbrev pub segments_at : Bool → Order → List ℕ → ℕ → ℕ → List Segment
segments_at narrow order input place zero = []
segments_at narrow order input place (suc count) =
    segment_at narrow order input place ∷ segments_at narrow order input (place + segment_size narrow) count

-- the size of the program header table in bytes
abbrev pub table_size : Header → ℕ
table_size header = (header_fields header.pt2).ph_count * segment_size (file_class header == 1)

-- the entries of the table have the size of the class, and it is in the file
abbrev pub is_whole : ElfFile → Bool
is_whole file = let part = header_fields file.header.pt2 in part.ph_entry_size == segment_size (file_class file.header == 1)
    && nat_le (part.ph_offset + table_size file.header) (length file.input.now)

-- the segments of a file, in the order of their records
abbrev pub segments_of : ElfFile → List Segment
segments_of file = if is_whole file then segments_at (file_class file.header == 1) (file_order file.header)
    file.input.now (header_fields file.header.pt2).ph_offset (header_fields file.header.pt2).ph_count else []

-- the bytes of a segment in a file, or that they extend past its end; an empty segment has none, whatever its offset
abbrev pub segment_bytes : ElfFile → Segment → Result (List ℕ) ElfError
segment_bytes file segment =
    if segment.file_size == 0 then Ok [] else range_of file.input.now segment.offset segment.file_size
