use Rattle.elf_c.proofs.LoadPlans.{mappings_filled}
use Rattle.elf_loading.specs.MappingsLeft.{mappings_left}
use Rattle.elf_c.proofs.load_plans.fill_mappings.Goals as goal

pub returns-clause-exact : goal.returns-clause-exact
returns-clause-exact c = mappings_filled c.args.file.now c.args.page c.args.limit c.args.by c.in_ok-plan.plan (mappings_left c.mappings.result)
    c.args.first c.args.out.now c.fill_in_order.new.out c.fill_in_order.result c.in_ok-plan.ensures.exact c.mappings.ensures.all c.fill_in_order.ensures
