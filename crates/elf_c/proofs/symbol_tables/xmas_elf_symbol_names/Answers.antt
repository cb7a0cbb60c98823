use Rattle.elf_c.specs.Records.{AllLieIn}
use Rattle.elf_c.proofs.GivenRanges.{given_here}
use Rattle.elf_c.proofs.StoredNames.{stored_names_lie}
use Rattle.elf_c.proofs.symbol_tables.xmas_elf_symbol_names.Goals as goal

pub returns-clause-within : goal.returns-clause-within
returns-clause-within c = given_here (λ count. AllLieIn c.args.input.now count c.fill_names.new.out) c.fill_names.result c.args.count.now c.give.result c.give.new.out
    (stored_names_lie c.args.input.now c.args.table.now c.args.first c.args.out.now c.fill_names.result c.fill_names.new.out c.fill_names.ensures) c.give.ensures
