use Rattle.elf_base.proofs.TextComparisons.{ends}
use Rattle.elf_base.proofs.bytes.text.has_bytes_at.Goals as goal

pub returns-then-is_equal : goal.returns-then-is_equal
returns-then-is_equal c =
    ends c.args.data.now c.args.start c.args.wanted.now c.is_none.result c.memchr.result
    c.if-data-start.false c.if-wanted-rest.false (c.is_equal.ensures.0 c.if-is_equal.true)
    c.if-rest-wanted-ne0.false c.memchr.ensures c.is_none.ensures
