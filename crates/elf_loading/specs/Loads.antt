-- An iterator over the loads of a file.
use Rattle.std.specs.Prelude.{List}
use Rattle.elf_linking.specs.declared.segments.Segment.{Segment}
use Rattle.elf_loading.specs.LoadsAmong.{loads_among}
use Rattle.elf_loading.specs.declared.loads.Loads.{Loads}

-- the loads that an iterator has not yet returned
abbrev pub loads_left : Loads → List Segment
loads_left iter = loads_among iter.segments
