use Rattle.std.proofs.Common.{arith}
use Rattle.elf_linking.specs.SegmentsLeft.{segments_left}
use Rattle.elf_linking.proofs.lemmas.SegmentsLeft as left
use Rattle.elf_loading.proofs.Others.{none_left}
use Rattle.elf_loading.proofs.segments.sort.Goals as goal

pub returns-clause-others : goal.returns-clause-others
returns-clause-others c =
    none_left (segments_left c.args.segments) c.loop-left.others (segments_left c.loop-left.left)
    (left.none_left c.loop-left.left (λ some. omega (arith, some, c.loop-left-test.false, c.count_left.ensures.is))) c.loop-left.invariant.0
