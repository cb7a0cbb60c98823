-- The symbols of a symbol table by its section header, with the string table that it is linked to, and its section
-- indices (gABI, "Symbol Table" and "Sections", sh_link, SHT_SYMTAB and SHT_SYMTAB_SHNDX).
use Rattle.std.specs.Prelude.{◌≡◌, ◌≢◌, ℕ, ◌%◌, ◌==◌, List, [], length, Option, None, Some, Result, Ok, Err, IsOkAnd, IsSomeAnd, if◌then◌else◌}
use Rattle.std.specs.Borrow.{Bor}
use Rattle.elf_base.specs.FileHeader.{file_order}
use Rattle.elf_base.specs.FirstError.{and_then}
use Rattle.elf_base.specs.Table.{table_bytes, table_data, table_order}
use Rattle.elf_base.specs.declared.error.ElfError.TheVariants.{NotMultiple}
use Rattle.elf_addresses.specs.declared.symbols.AddressSymbols.{AddressSymbols}
use Rattle.elf_linking.specs.References.{file_machine}
use Rattle.xmas_elf.specs.First.{FindsFirstAt}
use Rattle.xmas_elf.specs.Place.{LiesAsSection}
use Rattle.xmas_elf.specs.SectionData.{section_data_of}
use Rattle.xmas_elf.specs.SectionHeader.{section_fields, section_list, section_of}
use Rattle.xmas_elf.specs.Types.{ElfError, ElfFile, SectionHeader}

-- a section has the type SHT_SYMTAB
abbrev pub IsSymtabSection : SectionHeader → Type 0
IsSymtabSection section = (section_fields section).type_ ≡ 2

-- a section has the type SHT_SYMTAB_SHNDX and is linked to the section at an index
abbrev pub IsIndexSection : ℕ → SectionHeader → Type 0
IsIndexSection index section = ((section_fields section).type_ ≡ 18) × ((section_fields section).link ≡ index)

-- the data of the section at an index
abbrev pub data_at : ElfFile → ℕ → Result (List ℕ) ElfError
data_at file index = and_then (section_of file index) (λ section. section_data_of file section)

-- the data of a section, and of the section that it is linked to
abbrev pub parts_of : ElfFile → ℕ → Result (List ℕ × List ℕ) ElfError
parts_of file index = and_then (section_of file index) (λ section.
    and_then (section_data_of file section) (λ bytes.
    and_then (data_at file (section_fields section).link) (λ strings. Ok (bytes, strings))))

-- the bytes of a reference
abbrev pub lent_bytes : Result (Bor (List ℕ)) ElfError → Result (List ℕ) ElfError
lent_bytes (Ok part) = Ok part.now
lent_bytes (Err error) = Err error

-- data that can be read and is of whole words, or else nothing
abbrev pub whole_words : Result (List ℕ) ElfError → List ℕ
whole_words (Ok bytes) = if length bytes % 4 == 0 then bytes else []
whole_words (Err error) = []

-- such data of the section at an index, if there is one
abbrev pub words_at : ElfFile → Option ℕ → List ℕ
words_at file None = []
words_at file (Some place) = whole_words (data_at file place)

-- the data of the first section of section indices that is linked to a section
pub record IsIndexData (file : ElfFile) (index : ℕ) (bytes : List ℕ) : Type 0 where
  pub place : Option ℕ
  pub first : FindsFirstAt (IsIndexSection index) (section_list file) place
  pub bytes_are : bytes ≡ words_at file place

-- the symbols of the section at an index
pub record IsSymtab {E : Type 0} {r : _} (file : ElfFile) (index : ℕ) (symbols : AddressSymbols E r) : Type 0 where
  pub parts : parts_of file index ≡ Ok (table_data symbols.table, symbols.strings.now)
  pub order : table_order symbols.table ≡ file_order file.header
  pub indices : IsIndexData file index (table_data symbols.indices)
  pub index_order : table_order symbols.indices ≡ file_order file.header
  pub machine : symbols.machine ≡ file_machine file

-- The places of the symbols, of their names and of their section indices in the input.

-- data is that of the section at an index
abbrev pub LiesAsDataAt : ElfFile → ℕ → Bor (List ℕ) → Type 0
LiesAsDataAt file index part = IsOkAnd (section_of file index) (λ section. LiesAsSection file section part)

-- symbols are the data of the section at an index, and names that of the section that it is linked to
abbrev pub LieAsParts : ElfFile → ℕ → Bor (List ℕ) → Bor (List ℕ) → Type 0
LieAsParts file index symbols names = IsOkAnd (section_of file index) (λ section.
    LiesAsSection file section symbols × LiesAsDataAt file (section_fields section).link names)

-- words are the data of the section at an index; the empty slice may be anywhere
abbrev pub LieAsWords : ElfFile → Option ℕ → Bor (List ℕ) → Type 0
LieAsWords file place words = length words.now ≢ 0 → IsSomeAnd place (λ index. LiesAsDataAt file index words)

-- section indices are those of the first section of them that is linked to a section
abbrev pub LieAsIndices : ElfFile → ℕ → Bor (List ℕ) → Type 0
LieAsIndices file index words =
    (place : Option ℕ) × FindsFirstAt (IsIndexSection index) (section_list file) place × LieAsWords file place words

-- the places of the symbols of the section at an index
abbrev pub LieAsSymtab : {E : Type 0} → {r : _} → ElfFile → ℕ → AddressSymbols E r → Type 0
LieAsSymtab file index symbols = LieAsParts file index (table_bytes symbols.table) symbols.strings
    × LieAsIndices file index (table_bytes symbols.indices)

-- why the section at an index has no symbols: an error of a section, or its data is not a whole number of symbols
pub data IsSymtabFailed (size : ℕ) (file : ElfFile) (index : ℕ) : ElfError → Type 0 where
  no_parts : (error : ElfError) → parts_of file index ≡ Err error → IsSymtabFailed size file index error
  not_whole : (parts : List ℕ × List ℕ) → parts_of file index ≡ Ok parts → length parts.0 % size ≢ 0
      → IsSymtabFailed size file index NotMultiple
