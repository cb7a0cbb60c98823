use Rattle.std.proofs.Common.{◌^◌, ◌<◌, length}
use Rattle.elf_callers.specs.Executable.{IsExecutable}
use Rattle.xmas_elf.specs.SectionHeader.{program_count_of}
use Rattle.xmas_elf.specs.ProgramHeader.{program_list, program_of, program_rest}
use Rattle.xmas_elf.proofs.lemmas.HeaderList.{HasPassed}
use Rattle.elf_callers.proofs.callers.indices.executable_with_index.Given as goal

-- no segment so far is executable
abbrev pub invariant-loop-program : goal.invariant-loop-program
invariant-loop-program l = let file = l.fn.file in
    HasPassed (program_of file) (program_count_of file) (λ program. ¬ IsExecutable program) (program_rest l.program-iterator) l.index
    × (length (program_list file) < 2 ^ 59)
