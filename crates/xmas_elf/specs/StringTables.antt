-- The string tables of symbols, found by their names, and their texts (gABI, "Special Sections": .strtab and
-- .dynstr, and "String Table"; that only the type of .strtab is checked is this project's own).
use Rattle.std.specs.Prelude.{ℕ, List, codes, Result}
use Rattle.std.specs.Option.{ok_or}
use Rattle.elf_base.specs.FirstError.{and_then}
use Rattle.elf_base.specs.Text.{IsText, text_of}
use Rattle.elf_records.specs.declared.sections.ShType.TheVariants.{StrTab}
use Rattle.elf_base.specs.declared.error.ElfError.TheVariants.{NoDynstr, NoStrtab, StrtabType}
use Rattle.xmas_elf.specs.Prelude.{ElfError, ElfFile}
use Rattle.xmas_elf.specs.NameTable.{section_named}
use Rattle.xmas_elf.specs.SectionData.{IsDataNamed, IsTypedData, section_data_of, typed_data_of}

-- `table` is the string table of symbols: the data of .strtab, whose type is StrTab
abbrev pub IsStrtab : ElfFile → List ℕ → Type 0
IsStrtab file = IsTypedData file (codes ".strtab") StrTab

-- `table` is the string table of the symbols for dynamic linking: the data of .dynstr, of any type
abbrev pub IsDynstr : ElfFile → List ℕ → Type 0
IsDynstr file = IsDataNamed file (codes ".dynstr")

-- `text` is the text at an index of a table, which contains its zero byte
pub record IsTextIn (IsTable : List ℕ → Type 0) (index : ℕ) (text : List ℕ) : Type 0 where
  pub table : List ℕ
  pub in_table : IsTable table
  pub is_text : IsText table index text

-- `text` is the text at an index of .strtab
abbrev pub IsString : ElfFile → ℕ → List ℕ → Type 0
IsString file = IsTextIn (IsStrtab file)

-- `text` is the text at an index of .dynstr
abbrev pub IsDynString : ElfFile → ℕ → List ℕ → Type 0
IsDynString file = IsTextIn (IsDynstr file)

-- the data of .strtab, or why there is none, as a function
unfoldable pub strtab_of : ElfFile → Result (List ℕ) ElfError
strtab_of file = typed_data_of file (codes ".strtab") StrTab NoStrtab StrtabType

-- the data of .dynstr, or why there is none, as a function
unfoldable pub dynstr_of : ElfFile → Result (List ℕ) ElfError
dynstr_of file = and_then (ok_or (section_named file (codes ".dynstr")) NoDynstr) (section_data_of file)

-- the text at an index of .strtab, or why there is none, as a function
unfoldable pub string_of : ElfFile → ℕ → Result (List ℕ) ElfError
string_of file index = and_then (strtab_of file) (λ table. text_of table index)

-- the text at an index of .dynstr, or why there is none, as a function
unfoldable pub dyn_string_of : ElfFile → ℕ → Result (List ℕ) ElfError
dyn_string_of file index = and_then (dynstr_of file) (λ table. text_of table index)
