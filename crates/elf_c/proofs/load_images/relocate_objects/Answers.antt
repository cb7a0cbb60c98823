use Rattle.std.proofs.Common.{rules, refl, length, take}
use Rattle.elf_loading.specs.LoadScope.{loaded_objects, loaded_plans}
use Rattle.elf_c.specs.LoadImages.{unmapped, unrelocated}
use Rattle.elf_c.proofs.LoadImages.{relocated_by}
use Rattle.elf_c.proofs.load_images.relocate_objects.Goals as goal

pub returns-in-Err-clause-exact : goal.returns-in-Err-clause-exact
returns-in-Err-clause-exact g c = unrelocated c.in-Err.failed.0 c.in-Err.failed.1 c.in-Err.ensures (search rules) refl

pub returns-in-Err-plans_of-clause-exact : goal.returns-in-Err-plans_of-clause-exact
returns-in-Err-plans_of-clause-exact g c =
    unmapped (take (length c.args.loads.now) c.in-Ok.objects.all) c.in-Err-plans_of.failed.0 c.in-Err-plans_of.failed.1 c.in-Ok.ensures (search rules) (search rules) refl

pub returns-clause-exact : goal.returns-clause-exact
returns-clause-exact g c =
    relocated_by g.E.LinkedSymbol.CLASS g.E.Record.SIZE g.E.Entry.fields c.args.loads.now c.args.of c.args.page c.args.limit (loaded_objects c.new-planned.result)
    (take (length c.args.loads.now) c.in-Ok.objects.all) c.in-Ok.ensures (search rules) (loaded_plans c.new-planned.result) (take (length c.args.loads.now) c.in-Ok-plans_of.plans.all) (search rules) (search rules) c.args.when c.args.image.now c.write_words-answer.new.image
    c.write_words-answer.result c.as_failure.result _ _ c.write_words-answer.ensures.exact c.write_words-answer.ensures.once c.write_words-answer.ensures.errors c.write_words-answer.ensures.first (search rules) (search rules) c.as_failure.ensures
