use Rattle.std.proofs.Common.{◌≡◌}
use Rattle.elf_linking.specs.BuildIds.{id_by_segments, id_in_segments}
use Rattle.elf_linking.specs.SegmentsLeft.{segments_left}
use Rattle.elf_linking.proofs.build_ids.build_id_of_segments.Given as goal

-- a search of the remaining segments has the result of a search of all segments
abbrev pub invariant-loop-segment : goal.invariant-loop-segment
invariant-loop-segment l =
    id_in_segments l.fn.file (segments_left l.segment-iterator) ≡ id_by_segments l.fn.file
