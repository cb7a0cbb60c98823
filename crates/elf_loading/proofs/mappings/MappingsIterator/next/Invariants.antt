use Rattle.std.proofs.Common.{◌≡◌, length}
use Rattle.elf_loading.specs.Loads.{loads_left}
use Rattle.elf_loading.specs.MappingParts.{parts_before}
use Rattle.elf_loading.specs.Mappings.{mappings_of}
use Rattle.elf_loading.specs.MappingsLeft.{mappings_left}
use Rattle.elf_loading.proofs.mappings.MappingsIterator.next.Given as goal

abbrev pub invariant-loop-mapping : goal.invariant-loop-mapping
invariant-loop-mapping l = parts_before l.parts (mappings_of l.self.page l.self.by l.self.before (loads_left l.self.loads)) ≡ mappings_left l.initial.self

abbrev pub decreases-loop-mapping : goal.decreases-loop-mapping
decreases-loop-mapping l = length (loads_left l.self.loads)
