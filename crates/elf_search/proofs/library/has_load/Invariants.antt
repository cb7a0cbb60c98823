use Rattle.std.proofs.Common.{◌≡◌}
use Rattle.elf_linking.specs.Segments.{segments_of}
use Rattle.elf_linking.specs.SegmentsLeft.{segments_left}
use Rattle.elf_search.specs.Library.{has_load}
use Rattle.elf_search.proofs.library.has_load.Given as goal

abbrev pub invariant-loop-segment : goal.invariant-loop-segment
invariant-loop-segment l = has_load (segments_left l.segment-iterator) ≡ has_load (segments_of l.file)
