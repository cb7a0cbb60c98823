use Rattle.std.proofs.Common.{◌≡◌, true}
use Rattle.std.specs.List.{find, list_all}
use Rattle.elf_loading.specs.LoadCheck.{fits_below, holds_address}
use Rattle.elf_loading.specs.Loads.{loads_left}
use Rattle.elf_loading.specs.Segments.{loads_of}
use Rattle.elf_loading.proofs.plan.LoadPlan.find_byte.Given as goal
use Rattle.elf_loading.specs.Plan.{plan_file}

abbrev pub invariant-loop-load : goal.invariant-loop-load
invariant-loop-load l = record {
  left : find (holds_address l.self.page l.address) (loads_left l.load-iterator) ≡ find (holds_address l.self.page l.address) (loads_of (plan_file l.self));
  fit : list_all (fits_below l.self.page l.self.limit) (loads_left l.load-iterator) ≡ true;
}
