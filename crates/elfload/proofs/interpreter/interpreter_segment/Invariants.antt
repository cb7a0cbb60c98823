use Rattle.std.proofs.Common.{◌≡◌}
use Rattle.std.specs.List.{find}
use Rattle.elf_linking.specs.Segments.{segments_of}
use Rattle.elf_linking.specs.SegmentsLeft.{segments_left}
use Rattle.elf_loading.specs.Segments.{is_of_type}
use Rattle.elfload.proofs.interpreter.interpreter_segment.Given as goal

-- a search of the segments that are left finds what one of all does
abbrev pub invariant-loop-segment : goal.invariant-loop-segment
invariant-loop-segment l = find (is_of_type 3 0) (segments_left l.segment-iterator) ≡ find (is_of_type 3 0) (segments_of l.file)
