-- The section of a symbol (gABI, "Symbol Table", st_shndx, and "Sections": special section indexes and
-- SHT_SYMTAB_SHNDX; the order of the errors is this project's own).
use Rattle.std.specs.Prelude.{◌≡◌, ◌≢◌, ℕ, ◌*◌, ◌%◌, ◌<◌, ◌==◌, ◌||◌, ◌⊎◌, nat_le, not, Bool, List, [], ◌∷◌, length, drop, take, codes, Result, Err, if◌then◌else◌}
use Rattle.elf_base.specs.FileHeader.{file_order}
use Rattle.elf_base.specs.Number.{number}
use Rattle.elf_base.specs.FirstError.{and_then, unless}
use Rattle.elf_records.specs.declared.sections.ShType.TheVariants.{SymTabShIndex}
use Rattle.elf_base.specs.declared.error.ElfError.TheVariants.{ExpectedShIndex, NoShIndex, NotMultiple, ReservedSymbolIndex, SymbolIndex}
use Rattle.xmas_elf.specs.Prelude.{ElfError, ElfFile, SectionHeader}
use Rattle.xmas_elf.specs.SectionHeader.{section_by_u16, section_of}
use Rattle.xmas_elf.specs.SectionData.{IsTypedData, typed_data_of}
use Rattle.xmas_elf.specs.Symbol.{SymbolFields}

-- `table` is the data of .symtab_shndx, whose type is SymTabShIndex
abbrev pub IsIndexTable : ElfFile → List ℕ → Type 0
IsIndexTable file = IsTypedData file (codes ".symtab_shndx") SymTabShIndex

-- `index` is word `self_index` of that table, which has a word of four bytes for each symbol
pub record IsWideIndex (file : ElfFile) (self_index index : ℕ) : Type 0 where
  pub table : List ℕ
  pub in_table : IsIndexTable file table
  pub whole : length table % 4 ≡ 0
  pub below : self_index * 4 < length table
  pub word : index ≡ number (file_order file.header) 4 0 (take 4 (drop (self_index * 4) table))

-- `index` is that of the section of symbol `self_index`: the symbol's own, if it is not reserved; if it is
-- 0xffff (SHN_XINDEX), the one in .symtab_shndx; and never 0 (SHN_UNDEF)
pub record IsSectionIndex (file : ElfFile) (symbol : SymbolFields) (self_index index : ℕ) : Type 0 where
  pub defined : index ≢ 0
  pub is : ((symbol.shndx < 0xff00) × (index ≡ symbol.shndx)) ⊎ ((symbol.shndx ≡ 0xffff) × IsWideIndex file self_index index)

-- the data of .symtab_shndx, or why there is none, as a function
unfoldable pub index_table_of : ElfFile → Result (List ℕ) ElfError
index_table_of file = typed_data_of file (codes ".symtab_shndx") SymTabShIndex NoShIndex ExpectedShIndex

-- word `self_index` of .symtab_shndx, or why there is none, as a function
unfoldable pub wide_index_of : ElfFile → ℕ → Result ℕ ElfError
wide_index_of file self_index = and_then (index_table_of file) (λ table. unless (
    (not (length table % 4 == 0), NotMultiple)
    ∷ (nat_le (length table) (self_index * 4), SymbolIndex)
    ∷ []) (number (file_order file.header) 4 0 (take 4 (drop (self_index * 4) table))))

-- the indices of symbols that have no section: SHN_UNDEF, SHN_ABS and SHN_COMMON
abbrev pub is_sectionless : ℕ → Bool
is_sectionless index = index == 0 || (index == 0xfff1 || index == 0xfff2)

-- section header `index`, except for 0
abbrev pub defined_section_of : ElfFile → ℕ → Result SectionHeader ElfError
defined_section_of file index = if index == 0 then Err ReservedSymbolIndex else section_of file index

-- the section of symbol `self_index`, or the first reason why it has none
unfoldable pub symbol_section_of : ElfFile → SymbolFields → ℕ → Result SectionHeader ElfError
symbol_section_of file symbol self_index =
    if is_sectionless symbol.shndx then Err ReservedSymbolIndex
    else (if symbol.shndx == 0xffff then and_then (wide_index_of file self_index) (defined_section_of file)
    else section_by_u16 file.input.now file.header symbol.shndx)
