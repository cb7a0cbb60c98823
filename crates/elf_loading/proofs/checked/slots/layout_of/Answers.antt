use Rattle.std.proofs.Common.{◌≡◌, Some, length, refl, slice_get, subst}
use Rattle.std.proofs.lemmas.Option.{slice_get_read}
use Rattle.elf_loading.proofs.ImageLayouts.{layout_is}
use Rattle.elf_loading.proofs.checked.slots.layout_of.Goals as goal

pub returns : goal.returns
returns g c =
    let objects = c.objects.result.now in
    let plans = c.plans.result.now in
    let index = c.args.image.now.index in
    let own = c.in_ok-own.own.now in
    let plan = c.in_ok-plan.plan.now in
    let own_there : slice_get objects index ≡ Some own = subst (λ i. slice_get objects i ≡ Some own) c.index.ensures
    (slice_get_read objects (length objects) c.index.result own refl c.in_ok-own.ensures.lookup.3.0 c.in_ok-own.ensures.lookup.1) in
    let plan_there : slice_get plans index ≡ Some plan = subst (λ i. slice_get plans i ≡ Some plan) c.index-2.ensures
    (slice_get_read plans (length plans) c.index-2.result plan refl c.in_ok-plan.ensures.lookup.3.0 c.in_ok-plan.ensures.lookup.1) in
    let layout = layout_is g.E.Entry.fields objects plans index c.args.image.now
    (rw (c.objects.ensures, c.plans.ensures) c.loads-loads.ensures) own plan own_there plan_there in
    rw (c.byte_order.ensures, c.file.ensures, c.span.ensures.value) layout
