-- Section headers: their fields, their places, and which can be read (gABI, "Sections": Elf32_Shdr and
-- Elf64_Shdr).
-- The number of sections and segments of a file, and the section that contains the names (gABI, "ELF Header",
-- e_shnum, e_phnum and e_shstrndx): numbers that need more than 16 bits are in section header 0. The results
-- if it cannot be read are this project's own.
-- The section headers of a file in order, and an iterator over them (gABI, "Sections": the section header
-- table).
use Rattle.std.specs.Prelude.{ℕ, ◌+◌, ◌<◌, ◌≤◌, ◌==◌, not, nat_le, nat_lt, List, [], ◌∷◌, length, Err, Result, if◌then◌else◌, Option, None, Ok, option_map, ◌≡◌}
use Rattle.std.specs.Option.{ok_or, option_map_or}
use Rattle.std.specs.Result.{result_ok}
use Rattle.elf_base.specs.Number.{number}
use Rattle.elf_base.specs.FirstError.{unless}
use Rattle.elf_base.specs.FileHeader.{file_class, file_order, header_fields}
use Rattle.elf_base.specs.declared.error.ElfError.TheVariants.{ReservedIndex, ShortSectionHeader, SmallEntry, UnknownClass}
use Rattle.elf_records.specs.SectionNumbers.{sh_type_number, sh_type_of, sh_type_raw}
use Rattle.xmas_elf.specs.Prelude.{ElfError, ElfFile, Header, Order, SectionHeader, SectionHeader_, ShType, SectionIter}
use Rattle.xmas_elf.specs.HeaderTable.{IsKnownClass, entry_place, is_known_class, HeaderStep, header_list, header_rest}
use Rattle.xmas_elf.specs.declared.sections.section_header.SectionHeader.TheVariants.{Sh32, Sh64}

-- the fields of a section header, as numbers
pub record SectionFields : Type 0 where
  pub name : ℕ
  pub type_ : ℕ
  pub flags : ℕ
  pub address : ℕ
  pub offset : ℕ
  pub size : ℕ
  pub link : ℕ
  pub info : ℕ
  pub align : ℕ
  pub entry_size : ℕ

-- a section header of class 32, of 40 bytes
abbrev pub section_header_32 : Order → ℕ → List ℕ → SectionHeader_ ℕ
section_header_32 order place bytes = record {
  name = number order 4 place bytes;
  type_ = sh_type_raw (number order 4 (place + 4) bytes);
  flags = number order 4 (place + 8) bytes;
  address = number order 4 (place + 12) bytes;
  offset = number order 4 (place + 16) bytes;
  size = number order 4 (place + 20) bytes;
  link = number order 4 (place + 24) bytes;
  info = number order 4 (place + 28) bytes;
  align = number order 4 (place + 32) bytes;
  entry_size = number order 4 (place + 36) bytes;
}

-- a section header of class 64, of 64 bytes
abbrev pub section_header_64 : Order → ℕ → List ℕ → SectionHeader_ ℕ
section_header_64 order place bytes = record {
  name = number order 4 place bytes;
  type_ = sh_type_raw (number order 4 (place + 4) bytes);
  flags = number order 8 (place + 8) bytes;
  address = number order 8 (place + 16) bytes;
  offset = number order 8 (place + 24) bytes;
  size = number order 8 (place + 32) bytes;
  link = number order 4 (place + 40) bytes;
  info = number order 4 (place + 44) bytes;
  align = number order 8 (place + 48) bytes;
  entry_size = number order 8 (place + 56) bytes;
}

-- the fields of a record of either class
abbrev pub record_fields : SectionHeader_ ℕ → SectionFields
record_fields header = record {
  name = header.name;
  type_ = sh_type_number header.type_;
  flags = header.flags;
  address = header.address;
  offset = header.offset;
  size = header.size;
  link = header.link;
  info = header.info;
  align = header.align;
  entry_size = header.entry_size;
}

-- the fields of a section header, of either class
abbrev pub section_fields : SectionHeader → SectionFields
section_fields (Sh32 header) = record_fields header
section_fields (Sh64 header) = record_fields header

-- the type of a section, or that it is unknown
abbrev pub section_type : SectionHeader → Result ShType ElfError
section_type section = sh_type_of (section_fields section).type_

-- the size of a section header in bytes, by the class
abbrev pub section_header_size : ℕ → ℕ
section_header_size class = if class == 1 then 40 else 64

-- the offset of entry `index` of the section header table
abbrev pub section_place : Header → ℕ → ℕ
section_place header index = let part = header_fields header.pt2 in
    entry_place part.sh_offset part.sh_entry_size index

-- the section header at a place, in the layout of the class
abbrev pub section_at_place : ℕ → Order → ℕ → List ℕ → SectionHeader
section_at_place class order place input =
    if class == 1 then Sh32 (section_header_32 order place input) else Sh64 (section_header_64 order place input)

-- the section header at an index, in the class and byte order of the ELF header
abbrev pub section_at_index : List ℕ → Header → ℕ → SectionHeader
section_at_index input header index =
    section_at_place (file_class header) (file_order header) (section_place header index) input

-- entry `index` of the section header table can be read: it is within the input and large enough for its
-- class
pub record HasSectionEntry (input : List ℕ) (header : Header) (index : ℕ) : Type 0 where
  pub within : section_place header (index + 1) ≤ length input
  pub class : IsKnownClass (file_class header)
  pub large : section_header_size (file_class header) ≤ (header_fields header.pt2).sh_entry_size

-- section header `index`, or the first reason why it can't be read
unfoldable pub section_entry : List ℕ → Header → ℕ → Result SectionHeader ElfError
section_entry input header index = unless (
    (nat_lt (length input) (section_place header (index + 1)), ShortSectionHeader)
    ∷ (not (is_known_class (file_class header)), UnknownClass)
    ∷ (nat_lt (header_fields header.pt2).sh_entry_size (section_header_size (file_class header)), SmallEntry)
    ∷ []) (section_at_index input header index)

-- section header `index` can be read by a 16-bit index: `index` is not reserved (gABI, "Sections", special
-- section indexes: SHN_LORESERVE to SHN_HIRESERVE)
pub record HasSectionHeader (input : List ℕ) (header : Header) (index : ℕ) : Type 0 where
  pub unreserved : index < 0xff00
  pub entry : HasSectionEntry input header index

-- the section header at a 16-bit index, or the first reason why it can't be read
unfoldable pub section_by_u16 : List ℕ → Header → ℕ → Result SectionHeader ElfError
section_by_u16 input header index =
    if nat_le 0xff00 index then Err ReservedIndex else section_entry input header index

-- section header `index` of a file, by any index
abbrev pub section_of : ElfFile → ℕ → Result SectionHeader ElfError
section_of file index = section_entry file.input.now file.header index

-- section header 0, if there is a section header table and it can be read
unfoldable pub first_section : ElfFile → Option SectionHeader
first_section file =
    if (header_fields file.header.pt2).sh_offset == 0 then None else result_ok (section_of file 0)

-- the same by the bytes, the offset of the table, the size of an entry, the class and the order
abbrev pub first_by : List ℕ → ℕ → ℕ → ℕ → Order → Option SectionHeader
first_by input offset entry_size class order = if offset == 0 then None else result_ok (unless (
    (nat_lt (length input) (entry_place offset entry_size 1), ShortSectionHeader)
    ∷ (not (is_known_class class), UnknownClass)
    ∷ (nat_lt entry_size (section_header_size class), SmallEntry)
    ∷ []) (section_at_place class order (entry_place offset entry_size 0) input))

-- the number of sections: that of the ELF header, or if it is 0, the size of section header 0, if there is
-- one
unfoldable pub section_count_of : ElfFile → ℕ
section_count_of file = let count = (header_fields file.header.pt2).sh_count in
    if count == 0 then option_map_or (λ first. (section_fields first).size) (first_section file) 0 else count

-- the number of segments: that of the ELF header, or if it is 0xffff (PN_XNUM), the info of section header 0,
-- if there is one
unfoldable pub program_count_of : ElfFile → ℕ
program_count_of file = let count = (header_fields file.header.pt2).ph_count in
    if count == 0xffff then option_map_or (λ first. (section_fields first).info) (first_section file) 0xffff else count

-- the index of the section that contains the names: that of the ELF header, or if it is 0xffff (SHN_XINDEX),
-- the link of section header 0; other reserved indices are errors
unfoldable pub shstr_index_of : ElfFile → Result ℕ ElfError
shstr_index_of file = let index = (header_fields file.header.pt2).sh_str_index in
    if index == 0xffff then ok_or (option_map (λ first. (section_fields first).link) (first_section file)) ReservedIndex
    else (if nat_le 0xff00 index then Err ReservedIndex else Ok index)

-- the section headers of a file by index, up to their number or the first that can't be read
abbrev pub section_list : ElfFile → List SectionHeader
section_list file = header_list (section_of file) (section_count_of file)

-- the section headers that an iterator has not yet returned
abbrev pub section_rest : SectionIter → List SectionHeader
section_rest iter = header_rest (section_of iter.file.now) (section_count_of iter.file.now) iter.next_index

-- one call of `next`, which keeps the file
abbrev pub SectionStep : SectionIter → Option SectionHeader → SectionIter → Type 0
SectionStep old result new = (new.file ≡ old.file)
    × HeaderStep section_rest (λ iter. iter.next_index) (λ iter. section_of iter.file.now) old result new
