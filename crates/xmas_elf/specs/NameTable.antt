-- The names of sections, and a section by its name (gABI, "String Table" and "ELF Header", e_shstrndx; that
-- the table extends past its section, of any type, is this project's own).
use Rattle.std.specs.Prelude.{◌≡◌, ◌≢◌, ℕ, ◌<◌, ◌≤◌, ◌+◌, nat_lt, Bool, false, List, [], ◌∷◌, length, drop, Option, Result, Ok, Err, IsOkAnd, if◌then◌else◌}
use Rattle.std.specs.Borrow.{Bor}
use Rattle.std.specs.List.{find}
use Rattle.std.specs.Str.{bytes_eq}
use Rattle.elf_base.specs.Lent.{LiesAt}
use Rattle.elf_base.specs.FirstError.{and_then, unless}
use Rattle.elf_base.specs.Text.{EndsInZero, IsText, bytes_up_to_zero_of, text_of}
use Rattle.elf_base.specs.TextCompared.{TextCompared}
use Rattle.elf_records.specs.SectionNumbers.{is_sh_type}
use Rattle.elf_records.specs.declared.sections.ShType.TheVariants.{Null}
use Rattle.elf_base.specs.declared.error.ElfError.TheVariants.{NullName, ShortSectionOffset}
use Rattle.xmas_elf.specs.Prelude.{ElfError, ElfFile, SectionHeader, ShType}
use Rattle.xmas_elf.specs.SectionHeader.{section_count_of, section_fields, section_list, section_of, section_type, shstr_index_of}
use Rattle.xmas_elf.specs.First.{FindsFirst}
use Rattle.xmas_elf.specs.HeaderTable.{EachBelow}

-- the section that contains the names, or why it can't be read
unfoldable pub names_section_of : ElfFile → Result SectionHeader ElfError
names_section_of file = and_then (shstr_index_of file) (section_of file)

-- `table` is the name table: the input from the offset of that section to the end of the input, whatever the
-- type and size of the section
pub record IsNameTable (file : ElfFile) (table : List ℕ) : Type 0 where
  pub section : SectionHeader
  pub names : names_section_of file ≡ Ok section
  pub within : (section_fields section).offset ≤ length file.input.now
  pub table_is : table ≡ drop (section_fields section).offset file.input.now

-- the name table, or why there is none, as a function
unfoldable pub name_table_of : ElfFile → Result (List ℕ) ElfError
name_table_of file = and_then (names_section_of file) (λ section. unless (
    (nat_lt (length file.input.now) (section_fields section).offset, ShortSectionOffset)
    ∷ []) (drop (section_fields section).offset file.input.now))

-- the place of the name table in the input
abbrev pub LiesAsNameTable : ElfFile → Bor (List ℕ) → Type 0
LiesAsNameTable file table =
    IsOkAnd (names_section_of file) (λ section. LiesAt file.input (section_fields section).offset table)

-- the place of the name at an index of the name table
abbrev pub LiesAsName : ElfFile → ℕ → Bor (List ℕ) → Type 0
LiesAsName file index name = IsOkAnd (names_section_of file)
    (λ section. LiesAt file.input ((section_fields section).offset + index) name)

-- `name` are the bytes at an index of the name table, up to a zero byte
pub record IsNameBytesAt (file : ElfFile) (index : ℕ) (name : List ℕ) : Type 0 where
  pub table : List ℕ
  pub in_table : IsNameTable file table
  pub ended : EndsInZero table index name

-- the bytes at an index of the name table, or why there are none, as a function
unfoldable pub shstr_bytes_of : ElfFile → ℕ → Result (List ℕ) ElfError
shstr_bytes_of file index = and_then (name_table_of file) (λ table. bytes_up_to_zero_of table index)

-- `name` is the text at an index of the name table
pub record IsNameAt (file : ElfFile) (index : ℕ) (name : List ℕ) : Type 0 where
  pub table : List ℕ
  pub in_table : IsNameTable file table
  pub is_text : IsText table index name

-- the text at an index of the name table, or why there is none, as a function
unfoldable pub shstr_of : ElfFile → ℕ → Result (List ℕ) ElfError
shstr_of file index = and_then (name_table_of file) (λ table. text_of table index)

-- the result of a comparison with the text at an index of the name table; nothing is compared if there is no
-- name table
abbrev pub NameCompared : Result (List ℕ) ElfError → ℕ → List ℕ → Bool → ℕ → Type 0
NameCompared (Ok table) index name answer count = TextCompared table index name answer count
NameCompared (Err error) index name answer count = (answer ≡ false) × (count ≡ 0)

-- a section has a name: its type is known and not Null, and the name is in the name table
pub record HasName (file : ElfFile) (section : SectionHeader) (name : List ℕ) : Type 0 where
  pub kind : ShType
  pub typed : section_type section ≡ Ok kind
  pub not_null : kind ≢ Null
  pub named : IsNameAt file (section_fields section).name name

-- a section has a name of these bytes, which need not be UTF-8
pub record HasNameBytes (file : ElfFile) (section : SectionHeader) (name : List ℕ) : Type 0 where
  pub kind : ShType
  pub typed : section_type section ≡ Ok kind
  pub not_null : kind ≢ Null
  pub named : IsNameBytesAt file (section_fields section).name name

-- the name of a section by what is at an index of the name table
abbrev pub named_by : (ℕ → Result (List ℕ) ElfError) → SectionHeader → Result (List ℕ) ElfError
named_by name_at section = and_then (section_type section)
    (λ kind. if is_sh_type Null kind then Err NullName else name_at (section_fields section).name)

-- the name of a section, or why it has none, as a function
unfoldable pub name_of : ElfFile → SectionHeader → Result (List ℕ) ElfError
name_of file section = named_by (shstr_of file) section

-- the bytes of the name of a section, or why it has none, as a function
unfoldable pub name_bytes_of : ElfFile → SectionHeader → Result (List ℕ) ElfError
name_bytes_of file section = named_by (shstr_bytes_of file) section

-- section header `index` has the name, and none before it does
pub record IsFirstNamed (file : ElfFile) (name : List ℕ) (index : ℕ) (section : SectionHeader) : Type 0 where
  pub below : index < section_count_of file
  pub is_header : section_of file index ≡ Ok section
  pub named : HasName file section name
  pub first : EachBelow (section_of file) (λ earlier. ¬ HasName file earlier name) index

-- the result of a search for the name in the list of sections
abbrev pub FindsNamed : ElfFile → List ℕ → Option SectionHeader → Type 0
FindsNamed file name found = FindsFirst (λ section. HasName file section name) (section_list file) found

-- whether the name of a section is this one
abbrev pub is_name : List ℕ → Result (List ℕ) ElfError → Bool
is_name name (Ok text) = bytes_eq text name
is_name name (Err error) = false

-- the first section of the list with the name, as a function
unfoldable pub section_named : ElfFile → List ℕ → Option SectionHeader
section_named file name = find (λ section. is_name name (name_of file section)) (section_list file)
