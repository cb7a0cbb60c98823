use Rattle.std.proofs.Common.{IfOk, sym, subst}
use Rattle.elf_c.specs.Parsed.{file_of}
use Rattle.elf_c.specs.Records.{LiesIn}
use Rattle.elf_c.proofs.GivenRanges.{segment_data_lies, given_range}
use Rattle.elf_c.proofs.segments.xmas_elf_segment_data.Goals as goal

pub returns-clause-within : goal.returns-clause-within
returns-clause-within c = let file = c.file.result in
    given_range file (file_of c.args.input c.args.header.now) c.segment_range_at.result c.args.out.now c.give.result c.give.new.out c.file.ensures
    (subst (λ r. IfOk r (LiesIn file.input.now)) (sym c.segment_range_at.ensures) (segment_data_lies file c.args.index)) c.give.ensures
