use Rattle.std.proofs.Common.{◌+◌, ◌<◌, ◌^◌, arith}
use Rattle.elf_loading.specs.Pages.{down}
use Rattle.elf_loading.proofs.FileChecks.{passes_covered, passes_relro_fits}
use Rattle.elf_loading.proofs.plan.LoadPlan.relro.Goals as goal
use Rattle.elf_loading.specs.Plan.{plan_file}

pub overflow_cast-result : goal.overflow_cast-result
overflow_cast-result c =
    let plan = c.args.self.now in
    let relro = c.in_ok-relro.relro in
    let fits : down plan.page (relro.start + relro.size) < 2 ^ 64 = passes_relro_fits (plan_file plan) plan.page plan.limit plan.end relro plan.checked c.in_ok-relro.ensures (omega arith) (omega arith) in
    omega (arith, fits, c.end_down.ensures)

pub returns-clause-covered : goal.returns-clause-covered
returns-clause-covered c = λ address from to.
    let plan = c.args.self.now in
    passes_covered (plan_file plan) plan.page plan.limit plan.end c.in_ok-relro.relro plan.checked c.in_ok-relro.ensures address
    (omega (arith, c.down.ensures, from)) (omega (arith, c.end_down.ensures, to))
