-- The report on the hash table of a file (this project's own; gABI, "Sections", sh_link of a section of type
-- SHT_HASH: the index of the symbol table).
use Rattle.std.specs.Prelude.{◌≡◌, ℕ, Option, None, Some, Result, Ok, Err}
use Rattle.elf_base.specs.FirstError.{and_then}
use Rattle.elf_records.specs.declared.sections.ShType.TheVariants.{Hash}
use Rattle.xmas_elf.specs.Prelude.{ElfError, ElfFile, HashTable, SectionHeader}
use Rattle.xmas_elf.specs.Content.{Content, dyn_symbols_32, dyn_symbols_64, hash_table, symbols_32, symbols_64, table_of}
use Rattle.xmas_elf.specs.First.{FindsFirst}
use Rattle.xmas_elf.specs.HashTable.{IsCheck, hash_data, hash_order}
use Rattle.xmas_elf.specs.SectionContent.{section_content_of}
use Rattle.xmas_elf.specs.SectionHeader.{section_fields, section_list, section_of, section_type}
use Rattle.xmas_elf.specs.Symbol.{Symbols}
use Rattle.xmas_elf.specs.Symbols.{dyn_symbols_in_32, dyn_symbols_in_64, symbols_in_32, symbols_in_64}
use Rattle.xmas_elf.specs.declared.report.hash.HashVerdict.{HashVerdict}
use Rattle.xmas_elf.specs.declared.report.hash.HashVerdict.TheVariants.{NoTable, NoSymbols, Checked}

-- the verdict is the result of the check of a hash table with these symbols
abbrev pub IsVerdictOf : {E : Type 0} → HashTable → Symbols E → HashVerdict → Type 0
IsVerdictOf table symbols verdict =
    (answer : Result (Unit {0}) ElfError) × (verdict ≡ Checked answer) × IsCheck table symbols answer

-- the verdict on a hash table by the contents of the section that it links to; `NoSymbols` if these are no
-- symbols
abbrev pub IsLinkedVerdict : ElfFile → HashTable → Result Content ElfError → HashVerdict → Type 0
IsLinkedVerdict file table (Ok (table_of symbols_32 order bytes)) = IsVerdictOf table (symbols_in_32 file order bytes)
IsLinkedVerdict file table (Ok (table_of symbols_64 order bytes)) = IsVerdictOf table (symbols_in_64 file order bytes)
IsLinkedVerdict file table (Ok (table_of dyn_symbols_32 order bytes)) =
    IsVerdictOf table (dyn_symbols_in_32 file order bytes)
IsLinkedVerdict file table (Ok (table_of dyn_symbols_64 order bytes)) =
    IsVerdictOf table (dyn_symbols_in_64 file order bytes)
IsLinkedVerdict file table _ = λ verdict. verdict ≡ NoSymbols

-- the contents of the section at this index, or why they can't be read
abbrev pub content_at : ElfFile → ℕ → Result Content ElfError
content_at file index = and_then (section_of file index) (section_content_of file)

-- the result of a search for a section of type Hash in the list of sections
abbrev pub FindsHash : ElfFile → Option SectionHeader → Type 0
FindsHash file found = FindsFirst (λ section. section_type section ≡ Ok Hash) (section_list file) found

-- the verdict on the hash table of a file, in its first section of type Hash
pub data IsHashVerdict (file : ElfFile) : HashVerdict → Type 0 where
  none : FindsHash file None → IsHashVerdict file NoTable
  failed : (section : SectionHeader) (error : ElfError) → FindsHash file (Some section)
      → section_content_of file section ≡ Err error → IsHashVerdict file (Checked (Err error))
  linked : (section : SectionHeader) (table : HashTable) (verdict : HashVerdict) → FindsHash file (Some section)
      → section_content_of file section ≡ Ok (hash_table (hash_order table) (hash_data table))
      → IsLinkedVerdict file table (content_at file (section_fields section).link) verdict
      → IsHashVerdict file verdict
