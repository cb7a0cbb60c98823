use Rattle.std.proofs.Common.{◌≡◌}
use Rattle.elf_linking.specs.Segments.{segments_of}
use Rattle.elf_linking.specs.SegmentsLeft.{segments_left}
use Rattle.elf_library.specs.Segments.{dynamic_address}
use Rattle.elf_library.proofs.DynamicSearch.{dynamic_after}
use Rattle.elf_library.proofs.segments.dynamic_address.Given as goal

abbrev pub invariant-loop-segment : goal.invariant-loop-segment
invariant-loop-segment l = dynamic_after l.last (segments_left l.segment-iterator) ≡ dynamic_address (segments_of l.file)
