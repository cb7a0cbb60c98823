-- The bytes of a section in its file (gABI, "Sections", sh_offset and sh_size; that type NoBits is no
-- exception is this project's own), and those of a section found by its name (gABI, "Special Sections"; that
-- the first section with a name is the one found is this project's own).
use Rattle.std.specs.Prelude.{◌≡◌, ◌≢◌, ℕ, ◌+◌, ◌≤◌, ◌==◌, ◌||◌, nat_lt, List, length, Option, None, Some, Result, Ok, Err, if◌then◌else◌}
use Rattle.std.specs.Option.{ok_or}
use Rattle.elf_base.specs.FirstError.{and_then}
use Rattle.elf_records.specs.SectionNumbers.{has_sh_type, is_sh_type}
use Rattle.elf_records.specs.declared.sections.ShType.TheVariants.{Null}
use Rattle.elf_base.specs.declared.error.ElfError.TheVariants.{DataRange, NullData}
use Rattle.xmas_elf.specs.Prelude.{ElfError, ElfFile, SectionHeader, ShType}
use Rattle.xmas_elf.specs.NameTable.{IsFirstNamed, section_named}
use Rattle.xmas_elf.specs.Ranges.{IsRange, range_of}
use Rattle.xmas_elf.specs.SectionHeader.{section_fields, section_type}

-- a section has data: its type is known and not Null, and its range is within the input
pub record HasSectionData (file : ElfFile) (section : SectionHeader) : Type 0 where
  pub kind : ShType
  pub typed : section_type section ≡ Ok kind
  pub not_null : kind ≢ Null
  pub within : (section_fields section).offset + (section_fields section).size ≤ length file.input.now

-- the bytes of a section: those of the input at its offset, of its size
abbrev pub IsSectionData : ElfFile → SectionHeader → List ℕ → Type 0
IsSectionData file section =
    IsRange file.input.now (section_fields section).offset (section_fields section).size

-- the data of a section, or why it has none, as a function
unfoldable pub section_data_of : ElfFile → SectionHeader → Result (List ℕ) ElfError
section_data_of file section = and_then (section_type section) (λ kind. if is_sh_type Null kind then Err NullData
    else range_of file.input.now (section_fields section).offset (section_fields section).size)

-- the range of the bytes that a file stores for a section: its offset and its size; none for the types SHT_NULL, 0,
-- and SHT_NOBITS, 8 (gABI, "Sections", sh_type)
abbrev pub stored_range_of : ElfFile → SectionHeader → Result (Option (ℕ × ℕ)) ElfError
stored_range_of file section = let fields = section_fields section in
    if fields.type_ == 0 || fields.type_ == 8 then Ok None
    else (if nat_lt (length file.input.now) (fields.offset + fields.size) then Err DataRange
    else Ok (Some (fields.offset, fields.size)))

-- `bytes` are the data of the first section with the name
pub record IsDataNamed (file : ElfFile) (name bytes : List ℕ) : Type 0 where
  pub index : ℕ
  pub section : SectionHeader
  pub first : IsFirstNamed file name index section
  pub there : HasSectionData file section
  pub is_data : IsSectionData file section bytes

-- `bytes` are the data of the first section with the name, and its type is `kind`
pub record IsTypedData (file : ElfFile) (name : List ℕ) (kind : ShType) (bytes : List ℕ) : Type 0 where
  pub named : IsDataNamed file name bytes
  pub typed : section_type named.section ≡ Ok kind

-- the data of the first section with the name, or the error for no such section, for another type, or for its
-- data
abbrev pub typed_data_of : ElfFile → List ℕ → ShType → ElfError → ElfError → Result (List ℕ) ElfError
typed_data_of file name kind none other = and_then (ok_or (section_named file name) none)
    (λ section. if has_sh_type kind (section_type section) then section_data_of file section else Err other)
