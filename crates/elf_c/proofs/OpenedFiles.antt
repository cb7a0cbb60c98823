-- The symbols of a file: those of a section, or those of the dynamic segment.
use Rattle.std.proofs.Common.{◌≡◌, ◌<◌, ◌↔◌, ℕ, Option, None, Some, Ok, IsOk, sym}
use Rattle.std.specs.Prelude.{MatchOption}
use Rattle.xmas_elf.specs.declared.ElfFile.{ElfFile}
use Rattle.elf_c.specs.DynamicSymbols.{IsFileTable, IsSegmentTable}
use Rattle.elf_c.specs.SymbolTables.{LieWithin, symbol_by, table_of_section}
use Rattle.elf_c.specs.Symbols.{symbol_record}
use Rattle.elf_c.specs.declared.symbol_tables.SymbolTable.{SymbolTable}
use Rattle.elf_c.proofs.OpenedDynamics as segments
use Rattle.elf_c.proofs.OpenedSymbols as sections

-- what holds of the symbols of each section, and of those of the segment, holds of those of the file
of_file : (P : Type 0) (file : ElfFile) (table : SymbolTable) → ((section : ℕ) → table_of_section file section ≡ Ok table → P) → (IsSegmentTable file (Ok table) → P) → IsFileTable file (Ok table) → P
of_file P file table section segment is = by_found is.0 is.2
  where
    by_found : (found : Option ℕ) → MatchOption found (IsSegmentTable file (Ok table)) (λ index. Ok table ≡ table_of_section file index) → P
    by_found None made = segment made
    by_found (Some index) made = section index (sym made)

pub file_within : (file : ElfFile) (table : SymbolTable) → IsFileTable file (Ok table) → LieWithin file.input.now table
file_within file table = of_file _ file table (λ section made. sections.section_within file section table made) (segments.segment_within file table)

pub file_count : (file : ElfFile) (table : SymbolTable) → IsFileTable file (Ok table) → (index : ℕ) → IsOk (symbol_by symbol_record file.input.now table index) ↔ (index < table.count)
file_count file table is index = of_file _ file table (λ section made. sections.opened_count file section table made index)
    (λ made. segments.opened_count file table made index) is
