use Rattle.std.proofs.Common.{rules, refl, length, take}
use Rattle.elf_loading.specs.LoadScope.{loaded_objects, loaded_plans}
use Rattle.elf_c.specs.LoadAll.{all_misfit, all_unplanned, all_unread}
use Rattle.elf_c.proofs.LoadAll.{all_by}
use Rattle.elf_c.proofs.load_all.relocate_objects.Goals as goal

pub returns-in-Err-clause-exact : goal.returns-in-Err-clause-exact
returns-in-Err-clause-exact g c = all_unread c.in-Err.failed.0 c.in-Err.failed.1 c.in-Err.ensures (search rules) refl

pub returns-in-Err-plans_of-clause-exact : goal.returns-in-Err-plans_of-clause-exact
returns-in-Err-plans_of-clause-exact g c =
    all_unplanned (take (length c.args.loads.now) c.in-Ok.objects.all) c.in-Err-plans_of.failed.0 c.in-Err-plans_of.failed.1 c.in-Ok.ensures (search rules) (search rules) refl

pub returns-then-not-is_whole-clause-exact : goal.returns-then-not-is_whole-clause-exact
returns-then-not-is_whole-clause-exact g c =
    all_misfit (take (length c.args.loads.now) c.in-Ok.objects.all) (take (length c.args.loads.now) c.in-Ok-plans_of.plans.all) c.in-Ok.ensures (search rules) (λ fits. search rules) (search rules) refl

pub returns-clause-exact : goal.returns-clause-exact
returns-clause-exact g c =
    all_by g.E.LinkedSymbol.CLASS g.E.Record.SIZE g.E.Entry.fields c.args.loads.now c.args.when c.args.page c.args.limit (loaded_objects c.new-planned.result) (loaded_plans c.new-planned.result) _
    (take (length c.args.loads.now) c.in-Ok.objects.all) (take (length c.args.loads.now) c.in-Ok-plans_of.plans.all) c.args.memory.now c.relocate_each.new.memory c.relocate_each.result
    c.relocate_each.ensures.exact (search rules) c.in-Ok.ensures (search rules) (search rules) (search rules) (search rules)
