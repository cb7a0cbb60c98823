-- The symbols of a section, as numbers (gABI, "Symbol Table").
use Rattle.std.specs.Prelude.{ℕ, List, Result, Err}
use Rattle.elf_base.specs.FirstError.{and_then}
use Rattle.elf_base.specs.Table.{records}
use Rattle.elf_base.specs.declared.error.ElfError.{ElfError}
use Rattle.xmas_elf.specs.Content.{Content, dyn_symbols_32, dyn_symbols_64, symbols_32, symbols_64, table_of}
use Rattle.xmas_elf.specs.ReportHash.{content_at}
use Rattle.xmas_elf.specs.SectionContent.{section_content_of}
use Rattle.xmas_elf.specs.SectionHeader.{section_fields, section_of}
use Rattle.xmas_elf.specs.Symbol.{SymbolFields, dyn_entry_32, dyn_entry_32_fields, dyn_entry_64, dyn_entry_64_fields, entry_32, entry_32_fields, entry_64, entry_64_fields}
use Rattle.xmas_elf.specs.declared.ElfFile.{ElfFile}
use Rattle.xmas_elf.specs.declared.sections.section_header.SectionHeader.{SectionHeader}
use Rattle.elf_c.specs.Records.{record_in, name_answer, section_data_range, text_range}
use Rattle.elf_c.specs.Status.{and_so}
use Rattle.elf_c.specs.declared.names.Name.{Name}
use Rattle.elf_c.specs.declared.names.Range.{Range}
use Rattle.elf_c.specs.declared.status.AnyError.{AnyError}
use Rattle.elf_c.specs.declared.status.AnyError.TheVariants.{OtherData}
use Rattle.elf_c.specs.declared.symbols.Symbol.{Symbol}

-- the numbers of a symbol
abbrev pub symbol_record : SymbolFields → Symbol
symbol_record fields = record {
  value = fields.value;
  size = fields.size;
  name = fields.name;
  shndx = fields.shndx;
  info = fields.info;
  other = fields.other;
}

-- the value of the symbol at an index of the contents of a section, or why there is none
abbrev pub symbol_record_at : {T : Type 0} → (SymbolFields → T) → ℕ → Content → Result T AnyError
symbol_record_at value index (table_of symbols_32 order bytes) =
    record_in (λ e. value (entry_32_fields e)) (records 16 (entry_32 order) bytes) index
symbol_record_at value index (table_of symbols_64 order bytes) =
    record_in (λ e. value (entry_64_fields e)) (records 24 (entry_64 order) bytes) index
symbol_record_at value index (table_of dyn_symbols_32 order bytes) =
    record_in (λ e. value (dyn_entry_32_fields e)) (records 16 (dyn_entry_32 order) bytes) index
symbol_record_at value index (table_of dyn_symbols_64 order bytes) =
    record_in (λ e. value (dyn_entry_64_fields e)) (records 24 (dyn_entry_64 order) bytes) index
symbol_record_at value index _ = Err OtherData

-- the numbers of the symbol at an index of the contents of a section
abbrev pub symbol_record_in : ℕ → Content → Result Symbol AnyError
symbol_record_in index content = symbol_record_at symbol_record index content

-- the contents of the section that the section at an index links to (sh_link), or why they can't be read
abbrev pub linked_content : ElfFile → ℕ → Result Content ElfError
linked_content file index =
    and_then (section_of file index) (λ header. content_at file (section_fields header).link)

-- the range of the string table that a section links to, or why it can't be read (sh_link)
abbrev pub linked_range : ElfFile → SectionHeader → Result Range ElfError
linked_range file section = and_then (section_of file (section_fields section).link) (section_data_range file)

-- the range of a symbol's name in such a table, or why there is none
abbrev pub table_name_range : List ℕ → Result Range ElfError → SymbolFields → Name
table_name_range input strings fields = name_answer (and_then strings (λ part. text_range input part fields.name))

-- the range of the name of the symbol at an index of the section at an index
abbrev pub symbol_name_at : ElfFile → ℕ → ℕ → Result Name AnyError
symbol_name_at file section index = and_so (section_of file section) (λ header.
    and_so (section_content_of file header) (symbol_record_at (table_name_range file.input.now (linked_range file header)) index))
