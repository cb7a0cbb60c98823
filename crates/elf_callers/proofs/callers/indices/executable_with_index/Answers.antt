use Rattle.std.proofs.Common.{rules, sym, ◌∙◌}
use Rattle.elf_callers.specs.Executable.{IsExecutable}
use Rattle.xmas_elf.specs.SectionHeader.{program_count_of}
use Rattle.xmas_elf.specs.ProgramHeader.{program_of}
use Rattle.xmas_elf.proofs.lemmas.HeaderList.{first_of_rest, has_passed_one}
use Rattle.elf_callers.proofs.callers.indices.executable_with_index.Goals as goal

pub returns-then-is_execute : goal.returns-then-is_execute
returns-then-is_execute c =
    let file = c.args.file.now in
    let so_far = c.loop-program.invariant.0 in
    let executable : IsExecutable c.in-Some.program = search rules in
    let first = first_of_rest (program_of file) (program_count_of file) c.loop-program.index c.in-Some.program _ (sym so_far.left ∙ c.in-Some.ensures.steps) in
    (first.0, executable, so_far.passed)

pub loop-program-preserved : goal.loop-program-preserved
loop-program-preserved c =
    let other : ¬ IsExecutable c.in-Some.program = search rules in
    (has_passed_one _ _ _ _ _ _ c.in-Some.program c.in-Some.ensures.steps other c.loop-program.invariant.0, c.loop-program.invariant.1)
