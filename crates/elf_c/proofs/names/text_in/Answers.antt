use Rattle.std.proofs.Common.{◌+◌, ◌≤◌, length, arith}
use Rattle.elf_base.proofs.Texts.{zero_within}
use Rattle.elf_c.proofs.names.text_in.Goals as goal

pub returns-clause-within : goal.returns-clause-within
returns-clause-within c =
    let text = c.in_ok-text.text.now in
    let part = c.args.part.now in
    let ends = zero_within c.in_ok-bytes.bytes.now c.args.index text c.in_ok-text.ensures.text.ended in
    let long = c.in_ok-bytes.ensures.within.0 in
    let fits = c.in_ok-bytes.ensures.within.1 in
    let sum : part.offset + c.args.index + length text ≤ length c.args.input.now = omega (arith, ends, long, fits) in sum
