-- The loads among the segments that an iterator has not yet returned.
use Rattle.std.specs.Prelude.{List}
use Rattle.std.specs.List.{filter}
use Rattle.elf_linking.specs.SegmentsLeft.{segments_left}
use Rattle.elf_linking.specs.declared.segments.Segment.{Segment}
use Rattle.elf_linking.specs.declared.segments.Segments.{Segments}
use Rattle.elf_loading.specs.Segments.{is_load}

-- the loads among the segments that are left
abbrev pub loads_among : Segments → List Segment
loads_among segments = filter is_load (segments_left segments)
