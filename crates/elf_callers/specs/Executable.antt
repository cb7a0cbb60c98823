-- Segments that can be executed.
use Rattle.std.specs.Int.{IsBitSet}
use Rattle.xmas_elf.specs.ProgramHeader.{program_fields}
use Rattle.xmas_elf.specs.Types.{ProgramHeader}

-- the flag of execution is set (PF_X)
abbrev pub IsExecutable : ProgramHeader → Type 0
IsExecutable program = IsBitSet (program_fields program).flags.0 0
