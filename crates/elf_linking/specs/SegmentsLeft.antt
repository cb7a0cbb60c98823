-- An iterator over the segments of a file.
use Rattle.std.specs.Prelude.{ℕ, List}
use Rattle.elf_linking.specs.Segments.{segment_at, segments_at}
use Rattle.elf_linking.specs.declared.segments.Segment.{Segment}
use Rattle.elf_linking.specs.declared.segments.Segments.{Segments}

-- the number of segments that an iterator has not yet returned
abbrev pub left_count : Segments → ℕ
left_count iter = iter.left

-- the segments that an iterator has not yet returned
abbrev pub segments_left : Segments → List Segment
segments_left iter = segments_at iter.is_narrow iter.order iter.input.now iter.place iter.left

-- the first of them, if there is one
abbrev pub next_segment : Segments → Segment
next_segment iter = segment_at iter.is_narrow iter.order iter.input.now iter.place
