use Rattle.std.proofs.Common.{arith}
use Rattle.std.proofs.lemmas.Bool.Decides.{nat_tests}
use Rattle.xmas_elf.proofs.SectionLists.{length-section_list}
use Rattle.xmas_elf.proofs.ProgramLists.{length-program_list}
use Rattle.xmas_elf.proofs.header.sanity_check.Goals as goal

pub returns-clause-sections : goal.returns-clause-sections
returns-clause-sections c =
    grind (arith, nat_tests, length-section_list)

pub returns-clause-segments : goal.returns-clause-segments
returns-clause-segments c =
    grind (arith, nat_tests, length-program_list)
