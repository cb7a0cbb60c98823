use Rattle.std.proofs.Common.{◌≡◌}
use Rattle.elf_loading.specs.LoaderCheck.{check_each, command_rows}
use Rattle.elf_loading.specs.Loads.{loads_left}
use Rattle.elf_loading.proofs.library_check.check_commands.Given as goal

abbrev pub invariant-loop-load : goal.invariant-loop-load
invariant-loop-load l = check_each (command_rows l.page) (loads_left l.load-iterator) ≡ check_each (command_rows l.page) (loads_left l.fn.loads)
