use Rattle.std.proofs.Common.{◌≡◌}
use Rattle.std.specs.List.{list_any}
use Rattle.elf_loading.specs.Loads.{loads_left}
use Rattle.elf_loading.specs.Segments.{loads_of}
use Rattle.elf_loading.specs.Words.{has_zeros}
use Rattle.elf_loading.proofs.words.is_in_zeros.Given as goal

-- the loads that are passed have no such zeros
abbrev pub invariant-loop-load : goal.invariant-loop-load
invariant-loop-load l = list_any (has_zeros l.address l.width) (loads_of l.file) ≡ list_any (has_zeros l.address l.width) (loads_left l.load-iterator)
