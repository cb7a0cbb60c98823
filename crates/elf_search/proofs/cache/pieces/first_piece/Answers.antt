use Rattle.elf_search.proofs.NamePieces.{starts_byte, starts_empty, starts_number}
use Rattle.elf_search.proofs.cache.pieces.first_piece.Goals as goal
use Rattle.std.proofs.Common.{arith, ◌∙◌, sym}

pub returns-in-empty : goal.returns-in-empty
returns-in-empty c = starts_empty c.args.bytes.now c.in-empty.len_below

pub returns-then-is_digit : goal.returns-then-is_digit
returns-then-is_digit c = starts_number c.args.bytes.now c.number.result.0 c.number.result.1.now c.from.result c.from.ensures c.in-len1-up.len_at_least (sym c.is_digit.ensures ∙ c.if-is_digit.true) c.number.ensures.pieces c.number.ensures.shorter c.number.ensures.is_number

pub returns-else-is_digit : goal.returns-else-is_digit
returns-else-is_digit c = starts_byte c.args.bytes.now c.in-len1-up.len_at_least (sym c.is_digit.ensures ∙ c.if-is_digit.false) (omega (arith, c.type_inv.bytes 0))
