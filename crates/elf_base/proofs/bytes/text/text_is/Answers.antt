use Rattle.std.proofs.Common.{◌∙◌, subst, sym}
use Rattle.elf_base.proofs.TextComparisons.{Answers, answers, has_no_zero}
use Rattle.elf_base.proofs.bytes.text.text_is.Goals as goal

answer : (c : goal.After-front_is) → Answers c.args.data.now c.args.start c.args.text.now c.front_is.result.0 c.front_is.result.1
answer c =
    let wanted = c.as_bytes-wanted.result.now in
    subst (λ t. Answers c.args.data.now c.args.start t c.front_is.result.0 c.front_is.result.1) c.as_bytes-wanted.ensures.value
    (answers c.args.data.now c.args.start wanted c.front_is.result.0 c.front_is.result.1 c.if-start-data.false c.as_bytes-wanted.ensures.utf8
    (has_no_zero wanted c.memchr.result c.memchr.ensures (sym c.is_some.ensures ∙ c.if-is_some.false)) c.front_is.ensures)

pub returns-clause-is : goal.returns-clause-is
returns-clause-is c = let a = answer c in (a.yes, a.no)

pub returns-clause-compared : goal.returns-clause-compared
returns-clause-compared c = (answer c).compared
