use Rattle.std.proofs.Common.{◌≡◌}
use Rattle.std.specs.List.{list_any}
use Rattle.elf_loading.specs.LoaderCheck.{has_template}
use Rattle.elf_loading.specs.Loads.{loads_left}
use Rattle.elf_loading.proofs.library_check.has_some_template.Given as goal

abbrev pub invariant-loop-load : goal.invariant-loop-load
invariant-loop-load l = list_any (has_template l.page l.tls) (loads_left l.load-iterator) ≡ list_any (has_template l.page l.tls) (loads_left l.fn.loads)
