-- How many bytes the string tables of a file have together (gABI, "Sections": SHT_STRTAB).
use Rattle.std.specs.Prelude.{◌≡◌, ℕ, Bool, IsTrue, Err, if◌then◌else◌}
use Rattle.elf_callers.specs.Totals.{IsFirstWithout, IsTotal}
use Rattle.xmas_elf.specs.SectionData.{HasSectionData, section_data_of}
use Rattle.xmas_elf.specs.SectionHeader.{section_fields, section_list, section_type}
use Rattle.xmas_elf.specs.SectionNumbers.{has_sh_type}
use Rattle.xmas_elf.specs.ShType.TheVariants.{StrTab}
use Rattle.xmas_elf.specs.Types.{ElfError, ElfFile, SectionHeader}

-- a section is a string table
abbrev pub is_string_table : SectionHeader → Bool
is_string_table section = has_sh_type StrTab (section_type section)

-- its bytes lie in the file, if it is one
abbrev pub LiesThere : ElfFile → SectionHeader → Type 0
LiesThere file section = IsTrue (is_string_table section) → HasSectionData file section

-- how many bytes it adds
abbrev pub string_size : SectionHeader → ℕ
string_size section = if is_string_table section then (section_fields section).size else 0

-- the string tables of a file are all there, and have so many bytes
abbrev pub IsStringTotal : ElfFile → ℕ → Type 0
IsStringTotal file = IsTotal (LiesThere file) string_size (section_list file)

-- the first one that isn't is rejected for this
abbrev pub IsStringError : ElfFile → ElfError → Type 0
IsStringError file error = (section : SectionHeader)
    × IsFirstWithout (LiesThere file) (section_list file) section × (section_data_of file section ≡ Err error)
