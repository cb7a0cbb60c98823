use Rattle.elf_c.proofs.load_all.xmas_elf_relocate_all.Goals as goal

pub returns-clause-exact : goal.returns-clause-exact
returns-clause-exact c =
    let exact = rw (c.when_of-when.ensures, c.page_of.ensures.value) at c.relocate_all-answer.ensures.exact in (c.relocate_all-answer.result, exact, c.give_or_fail.ensures)
