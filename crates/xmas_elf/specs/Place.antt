-- The places in the input of the returned slices (this project's own): they share its memory.
use Rattle.std.specs.Prelude.{◌≢◌, ℕ, ◌+◌, Bool, true, false, List, codes, length, IsSomeAnd}
use Rattle.std.specs.Borrow.{Bor}
use Rattle.elf_base.specs.Lent.{LiesAt}
use Rattle.elf_base.specs.Table.{table_bytes}
use Rattle.elf_records.specs.Note.{note_name_size, rounded_up}
use Rattle.xmas_elf.specs.Prelude.{ElfFile, NoteHeader, ProgramHeader64, SectionData, SectionHeader, SegmentData}
use Rattle.xmas_elf.specs.BuildId.{IsNoteSection}
use Rattle.xmas_elf.specs.HashTable.{hash_bytes}
use Rattle.xmas_elf.specs.NameTable.{IsFirstNamed, section_named}
use Rattle.xmas_elf.specs.SectionHeader.{section_fields}
use Rattle.xmas_elf.specs.declared.program.content.SegmentData.TheVariants as segment_data
use Rattle.xmas_elf.specs.declared.sections.content.SectionData.TheVariants as section_data

-- the data of a section is at its offset in the input
abbrev pub LiesAsSection : ElfFile → SectionHeader → Bor (List ℕ) → Type 0
LiesAsSection file section = LiesAt file.input (section_fields section).offset

-- the data of the first section with a name is at its offset in the input
abbrev pub LiesAsNamed : ElfFile → List ℕ → Bor (List ℕ) → Type 0
LiesAsNamed file name part = IsSomeAnd (section_named file name) (λ section. LiesAsSection file section part)

-- the string table of symbols is that section's data: .dynstr for symbols for dynamic linking, otherwise
-- .strtab
abbrev pub LiesAsSymbolStrings : Bool → ElfFile → Bor (List ℕ) → Type 0
LiesAsSymbolStrings true file = LiesAsNamed file (codes ".dynstr")
LiesAsSymbolStrings false file = LiesAsNamed file (codes ".strtab")

-- the data of a segment is at its offset in the input; the empty slice of an empty segment may be anywhere
abbrev pub LiesAsSegment : ElfFile → ProgramHeader64 → Bor (List ℕ) → Type 0
LiesAsSegment file segment part = segment.file_size ≢ 0 → LiesAt file.input segment.offset part

-- which bytes of some data are returned: none, all, or those after the first `count`
pub data Part : Type 0 where
  nothing : Part
  all : Bor (List ℕ) → Part
  after : ℕ → Bor (List ℕ) → Part

-- the bytes that a value of `SectionData` borrows: all data, or those after the flags of a group or after the
-- header of a note
abbrev pub section_part : SectionData → Part
section_part section_data.Empty = nothing
section_part (section_data.Undefined bytes) = all bytes
section_part (section_data.StrArray bytes) = all bytes
section_part (section_data.SymbolTable32 table) = all (table_bytes table)
section_part (section_data.SymbolTable64 table) = all (table_bytes table)
section_part (section_data.DynSymbolTable32 table) = all (table_bytes table)
section_part (section_data.DynSymbolTable64 table) = all (table_bytes table)
section_part (section_data.FnArray32 table) = all (table_bytes table)
section_part (section_data.FnArray64 table) = all (table_bytes table)
section_part (section_data.Rela32 table) = all (table_bytes table)
section_part (section_data.Rela64 table) = all (table_bytes table)
section_part (section_data.Rel32 table) = all (table_bytes table)
section_part (section_data.Rel64 table) = all (table_bytes table)
section_part (section_data.Dynamic32 table) = all (table_bytes table)
section_part (section_data.Dynamic64 table) = all (table_bytes table)
section_part (section_data.SymTabShIndex table) = all (table_bytes table)
section_part (section_data.Group flags table) = after 4 (table_bytes table)
section_part (section_data.Note64 header body) = after 12 body
section_part (section_data.HashTable table) = all (hash_bytes table)

-- the bytes that a value of `SegmentData` borrows
abbrev pub segment_part : SegmentData → Part
segment_part segment_data.Empty = nothing
segment_part (segment_data.Undefined bytes) = all bytes
segment_part (segment_data.Dynamic32 table) = all (table_bytes table)
segment_part (segment_data.Dynamic64 table) = all (table_bytes table)
segment_part (segment_data.Note64 header body) = after 12 body

-- the part is one of data that begins at place `start` of `whole`
abbrev pub PartLies : Bor (List ℕ) → ℕ → Part → Type 0
PartLies whole start nothing = Unit {0}
PartLies whole start (all bytes) = LiesAt whole start bytes
PartLies whole start (after count bytes) = LiesAt whole (start + count) bytes

-- a build id is in a note section with this name, after the note's header, its name and the padding of the
-- name to a multiple of four
pub record LiesAsBuildId (file : ElfFile) (id : Bor (List ℕ)) : Type 0 where
  pub index : ℕ
  pub section : SectionHeader
  pub header : NoteHeader
  pub body : List ℕ
  pub named : IsFirstNamed file (codes ".note.gnu.build-id") index section
  pub in_section : IsNoteSection file section header body
  pub lies : LiesAt file.input ((section_fields section).offset + (12 + rounded_up (note_name_size header))) id

-- the rest of an alternate link follows the text's zero byte in the section
pub record LiesAsRest (file : ElfFile) (text : List ℕ) (rest : Bor (List ℕ)) : Type 0 where
  pub index : ℕ
  pub section : SectionHeader
  pub named : IsFirstNamed file (codes ".gnu_debugaltlink") index section
  pub lies : LiesAt file.input ((section_fields section).offset + (length text + 1)) rest
