use Rattle.xmas_elf.specs.HashTable.{good, faulty, missing}
use Rattle.xmas_elf.proofs.hash.HashTable.check_lent.Goals as goal

pub returns-in-Ok : goal.returns-in-Ok
returns-in-Ok g c = good (record { ends = c.in-Ok.ensures; holds = c.holds_all_lent.ensures.yes c.if-holds_all_lent.true })

pub returns-in-Ok-2 : goal.returns-in-Ok-2
returns-in-Ok-2 g c =
    let (i, e, name, global, lost) = c.holds_all_lent.ensures.no c.if-holds_all_lent.false in
    missing i e name c.in-Ok.ensures global lost

pub returns-in-Err : goal.returns-in-Err
returns-in-Err g c =
    let (k, below, before, fault) = c.in-Err.ensures in
    faulty k c.in-Err.error below before fault
