use Rattle.std.proofs.Common.{◌≡◌}
use Rattle.elf_loading.specs.LoaderCheck.{check_each, kernel_rows}
use Rattle.elf_loading.specs.Loads.{loads_left}
use Rattle.elf_loading.proofs.program_check.check_kernel_loads.Given as goal

abbrev pub invariant-loop-load : goal.invariant-loop-load
invariant-loop-load l = check_each (kernel_rows l.page l.limit l.len) (loads_left l.load-iterator) ≡ check_each (kernel_rows l.page l.limit l.len) (loads_left l.fn.loads)
