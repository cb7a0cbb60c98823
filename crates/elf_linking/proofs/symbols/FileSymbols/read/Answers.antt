use Rattle.std.proofs.Common.{rules}
use Rattle.std.proofs.lemmas.Result.{err_from_is_err_and}
use Rattle.elf_linking.specs.FileSymbols.{narrow, no_class, wide}
use Rattle.elf_linking.proofs.symbols.FileSymbols.read.Goals as goal

pub returns-in_err-table_of-in-ThirtyTwo : goal.returns-in_err-table_of-in-ThirtyTwo
returns-in_err-table_of-in-ThirtyTwo c =
    let p = err_from_is_err_and c.from_residual.result c.from_residual.ensures.1 in
    rw (p.1, p.2) (narrow _ (search rules) c.in_err-table_of-in-ThirtyTwo.ensures)

pub returns-in_err-table_of-in-SixtyFour : goal.returns-in_err-table_of-in-SixtyFour
returns-in_err-table_of-in-SixtyFour c =
    let p = err_from_is_err_and c.from_residual-in_err-table_of-in-SixtyFour.result c.from_residual-in_err-table_of-in-SixtyFour.ensures.1 in
    rw (p.1, p.2) (wide _ (search rules) c.in_err-table_of-in-SixtyFour.ensures)

pub returns-in-None : goal.returns-in-None
returns-in-None c = no_class (search rules) (search rules)
