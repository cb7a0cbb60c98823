-- The section header table, prepared for repeated access (gABI, "Sections": the section header table).
use Rattle.std.specs.Prelude.{ℕ, List, Result, IfOk, drop}
use Rattle.std.specs.Borrow.{Bor}
use Rattle.elf_base.specs.Lent.{LiesAt}
use Rattle.xmas_elf.specs.Prelude.{ElfError, ElfFile, SectionHeader}
use Rattle.xmas_elf.specs.SectionHeader.{section_list}
use Rattle.xmas_elf.specs.declared.sections.table.SectionTable.{SectionTable}
use Rattle.xmas_elf.specs.declared.sections.table.SectionTableIter.{SectionTableIter}

-- the file of a table
abbrev pub section_table_file : SectionTable → ElfFile
section_table_file table = table.file.now

-- the name table that a table borrows, or the error for it
abbrev pub section_table_names : SectionTable → Result (Bor (List ℕ)) ElfError
section_table_names table = table.names

-- a name is in that name table at its index
abbrev pub LiesInNames : SectionTable → ℕ → Result (Bor (List ℕ)) ElfError → Type 0
LiesInNames table index result =
    IfOk result (λ name. IfOk (section_table_names table) (λ names. LiesAt names index name))

-- the section headers of a table: those of its file
abbrev pub table_sections : SectionTable → List SectionHeader
table_sections table = section_list (section_table_file table)

-- the section headers that an iterator over a table has not yet returned
abbrev pub table_sections_rest : SectionTableIter → List SectionHeader
table_sections_rest iter = drop iter.next_index (table_sections iter.table)
