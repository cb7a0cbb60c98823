-- The program header table, prepared for repeated access (gABI, "Program Header").
use Rattle.std.specs.Prelude.{List, drop}
use Rattle.xmas_elf.specs.Prelude.{ElfFile, ProgramHeader}
use Rattle.xmas_elf.specs.ProgramHeader.{program_list}
use Rattle.xmas_elf.specs.declared.program.table.ProgramTable.{ProgramTable}
use Rattle.xmas_elf.specs.declared.program.table.ProgramTableIter.{ProgramTableIter}

-- the file of a table
abbrev pub program_table_file : ProgramTable → ElfFile
program_table_file table = table.file.now

-- the program headers of a table: those of its file
abbrev pub table_program_headers : ProgramTable → List ProgramHeader
table_program_headers table = program_list (program_table_file table)

-- the program headers that an iterator over a table has not yet returned
abbrev pub table_program_headers_rest : ProgramTableIter → List ProgramHeader
table_program_headers_rest iter = drop iter.next_index (table_program_headers iter.table)
