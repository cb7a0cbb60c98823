use Rattle.std.proofs.Common.{◌≡◌}
use Rattle.elf_linking.specs.SegmentsLeft.{left_count}
use Rattle.elf_loading.specs.LoadsAmong.{loads_among}
use Rattle.elf_loading.proofs.loads.Loads.step.Given as goal

abbrev pub invariant-loop-segments : goal.invariant-loop-segments
invariant-loop-segments l = loads_among l.segments ≡ loads_among l.self.segments

abbrev pub decreases-loop-segments : goal.decreases-loop-segments
decreases-loop-segments l = left_count l.segments
