use Rattle.std.proofs.Common.{◌≡◌, ◌+◌, ◌≤◌, length}
use Rattle.elf_loading.proofs.Others.{AreLeft}
use Rattle.elf_linking.specs.SegmentsLeft.{left_count, segments_left}
use Rattle.elf_loading.specs.LoadsAmong.{loads_among}
use Rattle.elf_loading.proofs.segments.sort.Given as goal

abbrev pub invariant-loop-left : goal.invariant-loop-left
invariant-loop-left l = AreLeft (segments_left l.segments) l.others (segments_left l.left)
    × (l.count + length (loads_among l.left) ≡ length (loads_among l.segments))
    × (l.count + left_count l.left ≤ left_count l.segments)

abbrev pub decreases-loop-left : goal.decreases-loop-left
decreases-loop-left l = left_count l.left
