use Rattle.std.proofs.Common.{◌≡◌}
use Rattle.std.specs.List.{list_any}
use Rattle.elf_loading.specs.LoaderCheck.{is_too_aligned}
use Rattle.elf_loading.specs.Loads.{loads_left}
use Rattle.elf_loading.proofs.library_check.are_too_aligned.Given as goal

abbrev pub invariant-loop-load : goal.invariant-loop-load
invariant-loop-load l = list_any (is_too_aligned l.page l.limit l.size) (loads_left l.load-iterator) ≡ list_any (is_too_aligned l.page l.limit l.size) (loads_left l.fn.loads)
