use Rattle.elf_loading.proofs.FileChecks.{passes_path}
use Rattle.elf_loading.proofs.plan.LoadPlan.interpreter.Goals as goal
use Rattle.elf_loading.specs.Plan.{plan_file}

pub unreachable-requires : goal.unreachable-requires
unreachable-requires c =
    let plan = c.args.self.now in
    passes_path (plan_file plan) plan.page plan.limit plan.end c.in_ok-place.place c.in-Err.field-0 plan.checked c.in_ok-place.ensures c.in-Err.ensures.failed
