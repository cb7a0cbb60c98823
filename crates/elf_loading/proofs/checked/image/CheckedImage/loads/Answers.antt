use Rattle.elf_loading.specs.LoadScope.{loaded_objects, loaded_plans}
use Rattle.elf_loading.proofs.CheckedImages.{at_known}
use Rattle.elf_loading.proofs.checked.image.CheckedImage.loads.Goals as goal

pub returns : goal.returns
returns g c =
    let inside = c.self.inside in
    let known = at_known g.E.Entry.fields (loaded_objects inside.loads).now (loaded_plans inside.loads).now inside.index inside.own.now inside.plan.now c.self.invariant in
    rw (← c.self.view_is) known
