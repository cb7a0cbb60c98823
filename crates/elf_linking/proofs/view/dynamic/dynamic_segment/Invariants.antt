use Rattle.std.proofs.Common.{◌≡◌, ◌==◌}
use Rattle.std.specs.Prelude.{None, filter}
use Rattle.std.specs.List.{last_or}
use Rattle.elf_linking.specs.Segments.{segments_of}
use Rattle.elf_linking.specs.SegmentsLeft.{segments_left}
use Rattle.elf_linking.specs.declared.segments.Segment.{Segment}
use Rattle.elf_linking.proofs.view.dynamic.dynamic_segment.Given as goal

-- a search of the remaining segments from the one found so far has the result of a search of all segments
abbrev pub invariant-loop-segment : goal.invariant-loop-segment
invariant-loop-segment l = last_or l.found (filter (λ (segment : Segment). segment.kind == 2) (segments_left l.segment-iterator)) ≡ last_or None (filter (λ (segment : Segment). segment.kind == 2) (segments_of l.file))
