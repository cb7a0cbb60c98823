-- The contents of a section, by its type (gABI, "Sections", sh_type).
use Rattle.std.specs.Prelude.{ℕ, Bool, true, false, List, Result, Ok, if◌then◌else◌}
use Rattle.elf_base.specs.FileHeader.{file_class, file_order}
use Rattle.elf_base.specs.FirstError.{and_then}
use Rattle.elf_base.specs.Table.{table_data, table_order}
use Rattle.elf_records.specs.declared.sections.ShType.TheVariants as sh_type
use Rattle.xmas_elf.specs.Prelude.{ElfError, ElfFile, Order, SectionData, SectionHeader, ShType}
use Rattle.xmas_elf.specs.Content.{Content, by_class, dyn_symbols_32, dyn_symbols_64, dynamic_32, dynamic_64, empty, functions_32, functions_64, group, group_content, hash_table, hash_table_content, note_64, note_content, rel_32, rel_64, rela_32, rela_64, section_indices, strings, symbols_32, symbols_64, table_of, undefined, whole_table}
use Rattle.xmas_elf.specs.HashTable.{hash_data, hash_order}
use Rattle.xmas_elf.specs.Ranges.{range_of}
use Rattle.xmas_elf.specs.SectionHeader.{section_fields, section_type}
use Rattle.xmas_elf.specs.declared.sections.content.SectionData.TheVariants as section_data

-- the contents in a value of `SectionData`
abbrev pub section_content : SectionData → Content
section_content section_data.Empty = empty
section_content (section_data.Undefined bytes) = undefined bytes.now
section_content (section_data.StrArray bytes) = strings bytes.now
section_content (section_data.SymbolTable32 table) = table_of symbols_32 (table_order table) (table_data table)
section_content (section_data.SymbolTable64 table) = table_of symbols_64 (table_order table) (table_data table)
section_content (section_data.DynSymbolTable32 table) = table_of dyn_symbols_32 (table_order table) (table_data table)
section_content (section_data.DynSymbolTable64 table) = table_of dyn_symbols_64 (table_order table) (table_data table)
section_content (section_data.FnArray32 table) = table_of functions_32 (table_order table) (table_data table)
section_content (section_data.FnArray64 table) = table_of functions_64 (table_order table) (table_data table)
section_content (section_data.Rela32 table) = table_of rela_32 (table_order table) (table_data table)
section_content (section_data.Rela64 table) = table_of rela_64 (table_order table) (table_data table)
section_content (section_data.Rel32 table) = table_of rel_32 (table_order table) (table_data table)
section_content (section_data.Rel64 table) = table_of rel_64 (table_order table) (table_data table)
section_content (section_data.Dynamic32 table) = table_of dynamic_32 (table_order table) (table_data table)
section_content (section_data.Dynamic64 table) = table_of dynamic_64 (table_order table) (table_data table)
section_content (section_data.SymTabShIndex table) = table_of section_indices (table_order table) (table_data table)
section_content (section_data.Group flags table) = group flags (table_order table) (table_data table)
section_content (section_data.Note64 header body) = note_64 header body.now
section_content (section_data.HashTable table) = hash_table (hash_order table) (hash_data table)

-- the contents of bytes in a section of this type, which has bytes, in a file of this class and byte order,
-- or why they are malformed
abbrev pub content_of_section : ShType → ℕ → Order → List ℕ → Result Content ElfError
content_of_section sh_type.StrTab class order bytes = Ok (strings bytes)
content_of_section sh_type.SymTab class order bytes = by_class symbols_32 symbols_64 class order bytes
content_of_section sh_type.DynSym class order bytes = by_class dyn_symbols_32 dyn_symbols_64 class order bytes
content_of_section sh_type.InitArray class order bytes = by_class functions_32 functions_64 class order bytes
content_of_section sh_type.FiniArray class order bytes = by_class functions_32 functions_64 class order bytes
content_of_section sh_type.PreInitArray class order bytes = by_class functions_32 functions_64 class order bytes
content_of_section sh_type.Rela class order bytes = by_class rela_32 rela_64 class order bytes
content_of_section sh_type.Rel class order bytes = by_class rel_32 rel_64 class order bytes
content_of_section sh_type.Dynamic class order bytes = by_class dynamic_32 dynamic_64 class order bytes
content_of_section sh_type.SymTabShIndex class order bytes = whole_table section_indices order bytes
content_of_section sh_type.Group class order bytes = group_content order bytes
content_of_section sh_type.Note class order bytes = note_content class order bytes
content_of_section sh_type.Hash class order bytes = hash_table_content order bytes
content_of_section _ class order bytes = Ok (undefined bytes)

-- sections of this type have no bytes in the file (SHT_NULL and SHT_NOBITS)
abbrev pub has_no_bytes : ShType → Bool
has_no_bytes sh_type.Null = true
has_no_bytes sh_type.NoBits = true
has_no_bytes _ = false

-- the contents of a section of this type in a file, or why it has none
abbrev pub content_in : ElfFile → SectionHeader → ShType → Result Content ElfError
content_in file section kind = if has_no_bytes kind then Ok empty
    else and_then (range_of file.input.now (section_fields section).offset (section_fields section).size)
    (content_of_section kind (file_class file.header) (file_order file.header))

-- the contents of a section, or the first reason why it has none
unfoldable pub section_content_of : ElfFile → SectionHeader → Result Content ElfError
section_content_of file section = and_then (section_type section) (content_in file section)
