use Rattle.std.proofs.Common.{◌≡◌}
use Rattle.std.specs.List.{list_all}
use Rattle.elf_loading.specs.LoaderCheck.{is_nothing_at}
use Rattle.elf_loading.specs.Loads.{loads_left}
use Rattle.elf_loading.proofs.program_check.are_nothing_at.Given as goal

abbrev pub invariant-loop-load : goal.invariant-loop-load
invariant-loop-load l = list_all (is_nothing_at l.address) (loads_left l.load-iterator) ≡ list_all (is_nothing_at l.address) (loads_left l.fn.loads)
