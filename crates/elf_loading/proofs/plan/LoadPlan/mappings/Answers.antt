use Rattle.elf_loading.specs.Plan.{plan_file}
use Rattle.elf_loading.proofs.FileChecks.{passes_follow}
use Rattle.elf_loading.proofs.plan.LoadPlan.mappings.Goals as goal

pub returns-clause-follow : goal.returns-clause-follow
returns-clause-follow c =
    let plan = c.args.self.now in
    passes_follow (plan_file plan) plan.page plan.limit plan.end c.args.by plan.paged plan.checked
