use Rattle.std.proofs.Common.{◌≡◌, None, Some, arith}
use Rattle.elf_linking.specs.GnuHash.{no_run, start_at, gnu_start_of, too_early}
use Rattle.elf_linking.specs.Layouts.{gnu_hash_number}
use Rattle.elf_linking.proofs.Looks.{goes_by, start_bucket}
use Rattle.elf_linking.proofs.gnu_hash.GnuHashTable.search.Goals as goal

pub follow_chain-requires-clause-above : goal.follow_chain-requires-clause-above
follow_chain-requires-clause-above g c =
    let starts : start_at c.args.self.now (gnu_hash_number c.args.name.now) ≡ Some c.in-Some.from = cc in
    (start_bucket _ _ _ starts).2

pub returns-in_default-clause-answer : goal.returns-in_default-clause-answer
returns-in_default-clause-answer g c = λ d.
    let none : gnu_start_of c.args.self.now c.args.name.now ≡ None = cc in
    no_run none

pub returns-then-from-first_symbol-clause-answer : goal.returns-then-from-first_symbol-clause-answer
returns-then-from-first_symbol-clause-answer g c = λ d.
    let starts : gnu_start_of c.args.self.now c.args.name.now ≡ Some c.in-Some.from = cc in
    too_early c.in-Some.from starts (omega arith)

pub returns-clause-answer : goal.returns-clause-answer
returns-clause-answer g c = λ d.
    let starts : gnu_start_of c.args.self.now c.args.name.now ≡ Some c.in-Some.from = cc in
    goes_by _ _ _ _ _ _ _ _ c.gnu_hash-hash.ensures starts (omega arith) (c.follow_chain.ensures.answer d)
