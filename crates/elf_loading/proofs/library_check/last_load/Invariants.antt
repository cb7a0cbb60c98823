use Rattle.std.proofs.Common.{◌≡◌, None}
use Rattle.std.specs.List.{last_or}
use Rattle.elf_loading.specs.Loads.{loads_left}
use Rattle.elf_loading.proofs.library_check.last_load.Given as goal

abbrev pub invariant-loop-load : goal.invariant-loop-load
invariant-loop-load l = last_or l.last (loads_left l.load-iterator) ≡ last_or None (loads_left l.fn.loads)
