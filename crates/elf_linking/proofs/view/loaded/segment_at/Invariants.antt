use Rattle.std.proofs.Common.{◌≡◌}
use Rattle.std.specs.Prelude.{None, filter}
use Rattle.std.specs.List.{last_or}
use Rattle.elf_linking.specs.Loaded.{has_file_bytes}
use Rattle.elf_linking.specs.Segments.{segments_of}
use Rattle.elf_linking.specs.SegmentsLeft.{segments_left}
use Rattle.elf_linking.proofs.view.loaded.segment_at.Given as goal

-- a search of the remaining segments from the one found so far has the result of a search of all segments
abbrev pub invariant-loop-segment : goal.invariant-loop-segment
invariant-loop-segment l = last_or l.found (filter (has_file_bytes l.address l.count) (segments_left l.segment-iterator)) ≡ last_or None (filter (has_file_bytes l.address l.count) (segments_of l.file))
