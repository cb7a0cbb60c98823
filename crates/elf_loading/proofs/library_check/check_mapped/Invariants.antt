use Rattle.std.proofs.Common.{◌≡◌}
use Rattle.elf_loading.specs.LoaderCheck.{check_each, segment_rows_in}
use Rattle.elf_loading.specs.Loads.{loads_left}
use Rattle.elf_loading.proofs.library_check.check_mapped.Given as goal

abbrev pub invariant-loop-load : goal.invariant-loop-load
invariant-loop-load l = check_each (segment_rows_in l.page l.len l.pages.start l.pages.end) (loads_left l.load-iterator) ≡ check_each (segment_rows_in l.page l.len l.pages.start l.pages.end) (loads_left l.fn.loads)
