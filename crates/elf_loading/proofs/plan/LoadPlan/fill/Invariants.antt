use Rattle.std.proofs.Common.{◌≡◌, ℕ, ◌+◌, true, length, get_or}
use Rattle.std.specs.List.{find, list_all}
use Rattle.elf_loading.specs.LoadCheck.{fits_below, holds_address}
use Rattle.elf_loading.specs.Loads.{loads_left}
use Rattle.elf_loading.specs.Plan.{plan_loads}
use Rattle.elf_loading.specs.Spans.{first_start, last_end}
use Rattle.elf_loading.proofs.Filled.{AreBetween, IsFilled}
use Rattle.elf_loading.proofs.plan.LoadPlan.fill.Given as goal

-- the bytes are those of the loads so far, and zero where a load that is left has a page
abbrev pub invariant-loop-load : goal.invariant-loop-load
invariant-loop-load l =
    let rest = loads_left l.load-iterator in
    let loads = plan_loads l.self in
    let start = first_start l.self.page loads in record {
      len : length l.image ≡ length l.fn.image;
      fit : list_all (fits_below l.self.page l.self.limit) rest ≡ true;
      between : AreBetween l.self.page start (last_end l.self.page 0 loads) rest;
      filled : (i : ℕ) → IsFilled l.self.input.now l.self.page l.by (start + i)
          (find (holds_address l.self.page (start + i)) rest) (find (holds_address l.self.page (start + i)) loads) (get_or l.image i 0);
    }
