use Rattle.std.proofs.Common.{subst}
use Rattle.elfload.specs.Ends.{by_image, by_plan, by_text}
use Rattle.elfload.specs.Images.{AreAllChecked, IsImageError}
use Rattle.elfload.proofs.Stops.{always}
use Rattle.linking_programs.proofs.Objects.{if_err_so}
use Rattle.elfload.proofs.printing.print_checked.Goals as goal
use Rattle.program_ends.proofs.Ends.{stop_so}

pub returns-in-Err-clause-stopped : goal.returns-in-Err-clause-stopped
returns-in-Err-clause-stopped g c =
    stop_so _ _ _ _ _ _ c.in-Err.stop (λ failed why. by_plan c.args.objects.now c.requires.own why) (λ never. absurd never) (λ short. short) c.in-Err.ensures.failed

pub returns-in-Ok-check_images-clause-checked : goal.returns-in-Ok-check_images-clause-checked
returns-in-Ok-check_images-clause-checked g c = always c.write_asked.result _ (record {
  objects = c.args.objects.now;
  objects_are = c.requires.own;
  plans = c.in-Ok.plans.items;
  plans_are = c.in-Ok.ensures.plans;
  checked = subst (AreAllChecked g.E.Record.SIZE g.E.Entry.fields c.args.objects.now) c.deref.ensures.value c.in-Ok-check_images.ensures;
})

pub returns-in-Ok-check_images-clause-stopped : goal.returns-in-Ok-check_images-clause-stopped
returns-in-Ok-check_images-clause-stopped g c =
    let all = subst (AreAllChecked g.E.Record.SIZE g.E.Entry.fields c.args.objects.now) c.deref.ensures.value c.in-Ok-check_images.ensures in
    if_err_so _ _ _ _ _ _ _ c.write_asked.result (λ failed why. by_text c.args.objects.now c.in-Ok.plans.items c.requires.own c.in-Ok.ensures.plans all why)
    (λ written. record { objects = c.args.objects.now; objects_are = c.requires.own; plans = c.in-Ok.plans.items; plans_are = c.in-Ok.ensures.plans; checked = all }) (λ short. short) c.write_asked.ensures

pub returns-clause-stopped : goal.returns-clause-stopped
returns-clause-stopped g c =
    stop_so _ _ _ _ _ _ c.in-Err-check_images.stop
    (λ failed why. by_image c.args.objects.now c.in-Ok.plans.items c.requires.own c.in-Ok.ensures.plans (subst (λ plans. IsImageError g.E.Record.SIZE g.E.Entry.fields c.args.inputs.now c.args.objects.now plans failed) c.deref.ensures.value why))
    (λ never. absurd never) (λ short. short) c.in-Err-check_images.ensures
