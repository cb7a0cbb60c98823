-- The result and the bytes are those that the lists say, by what the scope returns and writes.
use Rattle.std.proofs.Common.{Err, length, sym, ap, ◌∙◌, subst}
use Rattle.std.specs.Prelude.{IfOk}
use Rattle.elf_loading.specs.CheckedImage.{image_parts, image_result}
use Rattle.elf_loading.specs.LoadScope.{loaded_objects, loaded_plans}
use Rattle.elf_loading.specs.OneWord.{IsByOneWordIn}
use Rattle.elf_loading.specs.Relocate.{IsRelocationIn}
use Rattle.elf_loading.specs.declared.error.LoadError.{LoadError}
use Rattle.elf_loading.specs.declared.words.Binding.TheVariants.{Now}
use Rattle.elf_loading.proofs.CheckedImages.{relocated_in}
use Rattle.elf_loading.proofs.CheckedResults.{fault_is, left_by, ok_is, result_is, written_in}
use Rattle.elf_loading.proofs.checked.image.CheckedImage.relocate.Goals as goal

pub image_error-requires : goal.image_error-requires
image_error-requires g c =
    let inside = c.self.inside in
    let lists = image_parts g.E.Entry.fields (loaded_objects inside.loads).now (loaded_plans inside.loads).now inside.index inside.own.now inside.plan.now in
    let known = image_result lists c.args.places.now c.args.others.now (length c.args.image.now) in
    let is = result_is g.E.Entry.fields (loaded_objects inside.loads) (loaded_plans inside.loads) inside.index inside.own.now inside.plan.now c.args.places c.args.others
    c.self.invariant c.args.image.now c.relocate.new.image c.relocate.result c.relocate.ensures.exact in
    left_by known c.in-Err.error (sym c.in-Err.is ∙ is)

pub returns-in-Ok-clause-exact : goal.returns-in-Ok-clause-exact
returns-in-Ok-clause-exact g c =
    let inside = c.self.inside in
    let lists = image_parts g.E.Entry.fields (loaded_objects inside.loads).now (loaded_plans inside.loads).now inside.index inside.own.now inside.plan.now in
    let known = image_result lists c.args.places.now c.args.others.now (length c.args.image.now) in
    let is = result_is g.E.Entry.fields (loaded_objects inside.loads) (loaded_plans inside.loads) inside.index inside.own.now inside.plan.now c.args.places c.args.others
    c.self.invariant c.args.image.now c.relocate.new.image c.relocate.result c.relocate.ensures.exact in
    rw (← c.self.view_is) (ok_is known c.in-Ok.count (sym c.in-Ok.is ∙ is))

pub returns-in-Ok-clause-bytes : goal.returns-in-Ok-clause-bytes
returns-in-Ok-clause-bytes g c =
    let inside = c.self.inside in
    let done = subst (λ result. IfOk result (λ count. IsByOneWordIn g.E.Entry.fields (loaded_objects inside.loads) (loaded_plans inside.loads) inside.index Now c.args.places c.args.others c.args.image.now c.relocate.new.image))
    c.in-Ok.is c.relocate.ensures.once in
    let written = relocated_in g.E.Entry.fields (loaded_objects inside.loads) (loaded_plans inside.loads) inside.index inside.own.now inside.plan.now c.args.places c.args.others
    c.self.invariant c.args.image.now c.relocate.new.image c.relocate.ensures.len done in
    rw (← c.self.view_is) written

pub returns-in-Err-clause-exact : goal.returns-in-Err-clause-exact
returns-in-Err-clause-exact g c =
    let inside = c.self.inside in
    let lists = image_parts g.E.Entry.fields (loaded_objects inside.loads).now (loaded_plans inside.loads).now inside.index inside.own.now inside.plan.now in
    let known = image_result lists c.args.places.now c.args.others.now (length c.args.image.now) in
    let is = result_is g.E.Entry.fields (loaded_objects inside.loads) (loaded_plans inside.loads) inside.index inside.own.now inside.plan.now c.args.places c.args.others
    c.self.invariant c.args.image.now c.relocate.new.image c.relocate.result c.relocate.ensures.exact in
    rw (← c.self.view_is) (fault_is known c.image_error.result (ap (λ (e : LoadError). Err e) c.image_error.ensures ∙ sym c.in-Err.is ∙ is))

pub returns-in-Err-clause-before : goal.returns-in-Err-clause-before
returns-in-Err-clause-before g c =
    let inside = c.self.inside in
    let done = subst (λ result. IsRelocationIn g.E.Entry.fields (loaded_objects inside.loads) (loaded_plans inside.loads) inside.index Now c.args.places c.args.others c.args.image.now c.relocate.new.image result)
    c.in-Err.is c.relocate.ensures.exact in
    let written = written_in g.E.Entry.fields (loaded_objects inside.loads) (loaded_plans inside.loads) inside.index inside.own.now inside.plan.now c.args.places c.args.others
    c.self.invariant c.args.image.now c.relocate.new.image c.in-Err.error c.relocate.ensures.len done in
    rw (← c.self.view_is) written
