use Rattle.elf_c.specs.Records.{AllLieIn}
use Rattle.elf_c.proofs.GivenRanges.{given_here}
use Rattle.elf_c.proofs.StoredNames.{section_name_lies, stored_lie}
use Rattle.elf_c.proofs.names.xmas_elf_section_names.Goals as goal

pub returns-clause-within : goal.returns-clause-within
returns-clause-within c = given_here (λ count. AllLieIn c.args.input.now count c.fill.new.out) c.fill.result c.args.count.now c.give.result c.give.new.out
    (stored_lie c.args.input.now _ _ c.args.first c.args.out.now c.fill.result c.fill.new.out c.fill.ensures
    (λ section. section_name_lies c.args.input.now _ section)) c.give.ensures
