use Rattle.std.proofs.Common.{subst}
use Rattle.elf_c.specs.Versions.{AllNamesLieIn}
use Rattle.elf_c.proofs.GivenRanges.{given_here}
use Rattle.elf_c.proofs.versions.xmas_elf_dynamic_symbol_versions.Goals as goal

pub returns-clause-within : goal.returns-clause-within
returns-clause-within c = λ zero. subst (λ f. AllNamesLieIn f.input.now c.give.new.out c.fill_versions.new.out) c.file.ensures
    (given_here (λ count. AllNamesLieIn c.file.result.input.now count c.fill_versions.new.out) c.fill_versions.result c.args.count.now c.give.result c.give.new.out c.fill_versions.ensures.within c.give.ensures zero)
