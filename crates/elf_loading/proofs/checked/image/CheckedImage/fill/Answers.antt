use Rattle.std.proofs.Common.{◌≡◌, IsOk, length, refl, sym, ◌∙◌, subst}
use Rattle.elf_loading.specs.LoadScope.{loaded_objects, loaded_plans}
use Rattle.elf_loading.specs.Plan.{plan_size}
use Rattle.elf_loading.proofs.CheckedImages.{mapped_known}
use Rattle.elf_loading.proofs.checked.image.CheckedImage.fill.Goals as goal

pub returns-in-Ok-clause-bytes : goal.returns-in-Ok-clause-bytes
returns-in-Ok-clause-bytes g c =
    let inside = c.self.inside in
    let size : length c.fill.new.image ≡ plan_size inside.plan.now = c.fill.auto.image ∙ c.fill.ensures.size.0 (subst (λ r. IsOk r) (sym c.in-Ok.is) refl) in
    let mapped = mapped_known g.E.Entry.fields (loaded_objects inside.loads).now (loaded_plans inside.loads).now inside.index inside.own.now inside.plan.now c.args.by c.fill.new.image c.self.invariant size c.in-Ok.ensures.bytes in
    rw (← c.self.view_is) mapped
