use Rattle.std.proofs.Common.{lit<, sym, subst}
use Rattle.std.specs.List.{before_first}
use Rattle.elfsym.specs.Lines.{Asks, by_version, is_at, newest}
use Rattle.elfsym.proofs.lines.asked.Goals as goal

pub returns-in-Some : goal.returns-in-Some
returns-in-Some c =
    let reference = c.args.reference.now in
    let (before, after, has_one) = c.in-Some.ensures.byte (lit< tt) (λ w o found. found) in
    subst (λ name. Asks reference name c.exact.result) (sym before)
    (subst (λ wanted. Asks reference (before_first is_at reference) wanted) (sym c.exact.ensures)
    (by_version c.in-Some.version has_one after))

pub returns-in-None : goal.returns-in-None
returns-in-None c = newest (c.in-None.ensures.byte (lit< tt) (λ w o found. found))
