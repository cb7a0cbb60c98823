use Rattle.std.proofs.Common.{◌≡◌}
use Rattle.std.specs.List.{find}
use Rattle.xmas_elf.specs.SymbolRange.{is_template}
use Rattle.xmas_elf.specs.ProgramHeader.{program_list, program_rest}
use Rattle.xmas_elf.proofs.symbol_table.file_ranges.template.Given as goal

-- a search of the remaining segments has the result of a search of all segments
abbrev pub invariant-loop-program : goal.invariant-loop-program
invariant-loop-program l = find is_template (program_rest l.program-iterator) ≡ find is_template (program_list l.file)
