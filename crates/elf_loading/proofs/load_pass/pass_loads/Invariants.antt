use Rattle.elf_loading.proofs.LoadPasses.{IsLeft}
use Rattle.elf_loading.specs.Loads.{loads_left}
use Rattle.elf_loading.proofs.load_pass.pass_loads.Given as goal

abbrev pub invariant-loop-load : goal.invariant-loop-load
invariant-loop-load l = IsLeft l.page l.limit l.len l.wanted (loads_left l.fn.loads) l.pass (loads_left l.load-iterator)
