use Rattle.std.proofs.Common.{Err, refl}
use Rattle.elf_linking.proofs.any_table.AnyTable.lookup_where.Goals as goal

pub returns-in-Err-clause-answer : goal.returns-in-Err-clause-answer
returns-in-Err-clause-answer g c = λ d.
    let (n, looks) = c.in-Err.ensures.answer d in
    (n, rw c.in-Sysv.is (Err c.in-Err.failure, looks, refl))
