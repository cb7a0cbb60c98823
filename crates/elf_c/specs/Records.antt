-- The records that the exports fill, by the values of the library (this project's own).
use Rattle.std.specs.Prelude.{◌≡◌, ◌<◌, ◌≤◌, ℕ, ◌+◌, ◌-◌, ◌%◌, ◌==◌, nat_lt, Bool, List, [], ◌∷◌, length, slice_get, Option, None, Some, Result, Ok, Err, if◌then◌else◌}
use Rattle.std.specs.Str.{is_utf8}
use Rattle.elf_base.specs.Message.{error_number}
use Rattle.elf_base.specs.FirstError.{and_then, unless}
use Rattle.elf_base.specs.Table.{records}
use Rattle.elf_base.specs.Text.{text_of}
use Rattle.elf_base.specs.declared.error.ElfError.{ElfError}
use Rattle.elf_base.specs.declared.error.ElfError.TheVariants.{NotMultiple, ShortSectionOffset}
use Rattle.elf_linking.specs.declared.sections.TheConstants.{SHT_RELR}
use Rattle.elf_records.specs.ProgramNumbers.{ph_type_number}
use Rattle.xmas_elf.specs.Checks.{section_check}
use Rattle.xmas_elf.specs.First.{IsFirstAt, NoneBelow}
use Rattle.xmas_elf.specs.SectionHeader.{program_count_of, section_count_of, section_fields, section_list}
use Rattle.xmas_elf.specs.NameTable.{HasName, names_section_of, section_named}
use Rattle.xmas_elf.specs.Ranges.{range_of}
use Rattle.xmas_elf.specs.SectionData.{section_data_of}
use Rattle.xmas_elf.specs.ProgramHeader.{segment_data_of}
use Rattle.xmas_elf.specs.Types.{ElfFile, ProgramHeader64, SectionHeader}
use Rattle.elf_c.specs.declared.file.Counts.{Counts}
use Rattle.elf_c.specs.declared.names.Name.{Name}
use Rattle.elf_c.specs.declared.names.Range.{Range}
use Rattle.elf_c.specs.declared.sections.Section.{Section}
use Rattle.elf_c.specs.declared.segments.Segment.{Segment}
use Rattle.elf_c.specs.declared.status.AnyError.{AnyError}
use Rattle.elf_c.specs.declared.status.AnyError.TheVariants.{Elf, NoRecord, NotFound}

-- the record of an item, or that there is none
abbrev pub record_or_none : {A T : Type 0} → (A → T) → Option A → Result T AnyError
record_or_none value None = Err NoRecord
record_or_none value (Some item) = Ok (value item)

-- the record of the item at an index, or that there is none
abbrev pub record_in : {A T : Type 0} → (A → T) → List A → ℕ → Result T AnyError
record_in value items index = record_or_none value (slice_get items index)

-- the number of sections and segments of a file
abbrev pub counts_of : ElfFile → Counts
counts_of file = record { sections = section_count_of file; segments = program_count_of file }

-- the byte range at an offset, of a size
abbrev pub range_at : ℕ → ℕ → Range
range_at offset size = record { offset = offset; size = size }

-- a range lies in the input
abbrev pub LiesIn : List ℕ → Range → Type 0
LiesIn input range = range.offset + range.size ≤ length input

-- the ranges of the first `count` names lie in the input
abbrev pub AllLieIn : List ℕ → ℕ → List Name → Type 0
AllLieIn input count names = (k : ℕ) (name : Name) → k < count → slice_get names k ≡ Some name → LiesIn input name.range

-- the numbers of a section header
abbrev pub section_record : SectionHeader → Section
section_record section = let fields = section_fields section in record {
  flags = fields.flags;
  address = fields.address;
  offset = fields.offset;
  size = fields.size;
  align = fields.align;
  entry_size = fields.entry_size;
  name = fields.name;
  type_ = fields.type_;
  link = fields.link;
  info = fields.info;
}

-- the value of the record at an index of bytes that are a whole number of records of a size, or why there is none
abbrev pub record_among : {A T : Type 0} → (A → T) → ℕ → (List ℕ → A) → List ℕ → ℕ → Result T AnyError
record_among value size decode bytes index =
    if length bytes % size == 0 then record_in value (records size decode bytes) index else Err (Elf NotMultiple)

-- 1 for true, otherwise 0
abbrev pub flag_number : Bool → ℕ
flag_number is = if is then 1 else 0

-- the record of a section that was found
abbrev pub section_found : Option SectionHeader → Result Section AnyError
section_found None = Err NotFound
section_found (Some section) = Ok (section_record section)

-- the first section with a name, which must be UTF-8
abbrev pub found_section : ElfFile → List ℕ → Result Section AnyError
found_section file name = if is_utf8 name then section_found (section_named file name) else Err NotFound

-- the result is the least index of a section with the name, or that no section has it
abbrev pub FindsIndex : ElfFile → List ℕ → Result ℕ AnyError → Type 0
FindsIndex file name (Ok index) = IsFirstAt (λ section. HasName file section name) (section_list file) index
FindsIndex file name (Err why) =
    (why ≡ NotFound) × NoneBelow (λ section. HasName file section name) (section_list file) (length (section_list file))

-- a section is of type SHT_RELR (gABI, "Sections", sh_type), which the table of types of `xmas_elf` lacks
abbrev pub is_relr_type : SectionHeader → Bool
is_relr_type section = (section_fields section).type_ == SHT_RELR

-- the only error in a section header: a type that is neither in that table nor SHT_RELR
abbrev pub section_checked : SectionHeader → Result (Unit {0}) ElfError
section_checked section = if is_relr_type section then Ok tt else section_check section

-- the bytes of a section, or why it has none: for SHT_RELR the byte range of its offset and size
abbrev pub section_bytes : ElfFile → SectionHeader → Result (List ℕ) ElfError
section_bytes file section = if is_relr_type section
    then range_of file.input.now (section_fields section).offset (section_fields section).size
    else section_data_of file section

-- the range of a section's data, or why it has none
abbrev pub section_data_range : ElfFile → SectionHeader → Result Range ElfError
section_data_range file section = and_then (section_bytes file section)
    (λ _. Ok (range_at (section_fields section).offset (section_fields section).size))

-- the numbers of a program header
abbrev pub segment_record : ProgramHeader64 → Segment
segment_record segment = record {
  offset = segment.offset;
  virtual_addr = segment.virtual_addr;
  physical_addr = segment.physical_addr;
  file_size = segment.file_size;
  mem_size = segment.mem_size;
  align = segment.align;
  type_ = ph_type_number segment.type_;
  flags = segment.flags.0;
}

-- the range of a segment's data, or why it has none: for an empty one the empty range at 0
abbrev pub segment_data_range : ElfFile → ProgramHeader64 → Result Range ElfError
segment_data_range file segment = and_then (segment_data_of file segment)
    (λ _. Ok (range_at (if segment.file_size == 0 then 0 else segment.offset) segment.file_size))

-- the range of the text at an index of a part of the input, or why there is none
abbrev pub text_range : List ℕ → Range → ℕ → Result Range ElfError
text_range input part index = and_then (range_of input part.offset part.size) (λ bytes.
    and_then (text_of bytes index) (λ text. Ok (range_at (part.offset + index) (length text))))

-- the range of the name table, or why there is none: from the offset of its section to the end of the input
abbrev pub names_range : ElfFile → Result Range ElfError
names_range file = and_then (names_section_of file) (λ section. unless (
    (nat_lt (length file.input.now) (section_fields section).offset, ShortSectionOffset)
    ∷ []) (range_at (section_fields section).offset (length file.input.now - (section_fields section).offset)))

-- the range of a section's name by that of the name table, or why there is none: at the section's index there
abbrev pub name_range_by : List ℕ → Result Range ElfError → SectionHeader → Result Range ElfError
name_range_by input names section = and_then names (λ part. text_range input part (section_fields section).name)

-- the range of a section's name by the name table of the file
abbrev pub name_range : ElfFile → SectionHeader → Result Range ElfError
name_range file section = name_range_by file.input.now (names_range file) section

-- the range of a name with its status: the empty range at 0 if there is an error
abbrev pub name_answer : Result Range ElfError → Name
name_answer (Ok range) = record { range = range; status = 0 }
name_answer (Err error) = record { range = range_at 0 0; status = error_number error }
