use Rattle.std.proofs.Common.{rules, length, take}
use Rattle.elf_loading.specs.LoadScope.{loaded_objects, loaded_plans}
use Rattle.elf_c.specs.LoadImages.{unchecked, unplanned}
use Rattle.elf_c.proofs.LoadImages.{checked_by}
use Rattle.elf_c.proofs.load_images.check_objects.Goals as goal

pub returns-in-Err : goal.returns-in-Err
returns-in-Err g c = unchecked c.in-Err.failed.0 c.in-Err.failed.1 c.in-Err.ensures (search rules)

pub returns-in-Err-plans_of : goal.returns-in-Err-plans_of
returns-in-Err-plans_of g c =
    unplanned (take (length c.args.loads.now) c.in-Ok.objects.all) c.in-Err-plans_of.failed.0 c.in-Err-plans_of.failed.1 c.in-Ok.ensures (search rules) (search rules)

pub returns : goal.returns
returns g c =
    checked_by g.E.LinkedSymbol.CLASS g.E.Record.SIZE g.E.Entry.fields c.args.loads.now c.args.of c.args.page c.args.limit (loaded_objects c.new-planned.result)
    (take (length c.args.loads.now) c.in-Ok.objects.all) c.in-Ok.ensures (search rules) (loaded_plans c.new-planned.result) (take (length c.args.loads.now) c.in-Ok-plans_of.plans.all) (search rules) (search rules) _ c.check_words.result c.as_failure.result
    c.check_words.ensures.exact c.check_words.ensures.first c.as_failure.ensures
