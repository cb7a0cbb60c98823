use Rattle.std.proofs.Common.{IfOk, sym, subst}
use Rattle.elf_c.specs.Parsed.{file_of}
use Rattle.elf_c.specs.Records.{LiesIn}
use Rattle.elf_c.proofs.GivenRanges.{address_lies, given_range_here}
use Rattle.elf_c.proofs.addresses.xmas_elf_bytes_at.Goals as goal

pub returns-clause-within : goal.returns-clause-within
returns-clause-within c = let file = c.file.result in
    given_range_here file (file_of c.args.input c.args.header.now) c.range_at.result c.args.out.now c.give.result c.give.new.out c.file.ensures
    (subst (λ r. IfOk r (LiesIn file.input.now)) (sym c.range_at.ensures) (address_lies file c.args.address c.args.count)) c.give.ensures
