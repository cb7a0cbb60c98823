use Rattle.std.proofs.Common.{rules, ◌≡◌, ◌<◌, ◌+◌, ◌++◌, ◌∷◌, [], length, refl, take, sym, ap, subst, ◌∙◌, arith}
use Rattle.std.proofs.lemmas.List.{length_push, take_more}
use Rattle.std.proofs.lemmas.Option.{slice_get_read}
use Rattle.elfload.specs.Images.{ArePlansOf, IsPlanFor}
use Rattle.program_ends.proofs.LineLists.{zip_one_more}
use Rattle.elfload.proofs.Stops.{plan_stops}
use Rattle.elfload.proofs.images.read_plans.Goals as goal

pub loop-index-preserved : goal.loop-index-preserved
loop-index-preserved g c =
    let objects = c.args.objects.now in
    let index = c.loop-index.index in
    let object = c.index-objects-index.result in
    let done = c.loop-index.plans.items in
    let plan = c.in-Ok.plan in
    let below : index < length objects = omega (arith, c.loop-index-test.true) in
    let pushed : c.push.new.self.items ≡ done ++ (plan ∷ []) = search rules in
    let longer : take (index + 1) objects ≡ take index objects ++ (object ∷ []) =
    take_more objects index object below ∙ ap (λ x. take index objects ++ (x ∷ [])) (sym c.index-objects-index.is) in
    let all = zip_one_more (IsPlanFor c.args.page) (take index objects) done object plan c.loop-index.invariant.0 c.in-Ok.ensures in (
      subst (λ xs. ArePlansOf c.args.page xs c.push.new.self.items) (sym longer) (subst (λ ys. ArePlansOf c.args.page (take index objects ++ (object ∷ [])) ys) (sym pushed) all),
      ap length pushed ∙ length_push done plan ∙ ap (λ n. n + 1) c.loop-index.invariant.1,
    )

pub returns-in-Err-clause-failed : goal.returns-in-Err-clause-failed
returns-in-Err-clause-failed g c =
    let objects = c.args.objects.now in
    let index = c.loop-index.index in
    let object = c.index-objects-index.result in
    let below : index < length objects = omega (arith, c.loop-index-test.true) in
    let there = slice_get_read objects (length objects) index object refl below c.index-objects-index.is in
    plan_stops c.args.page c.args.inputs.now objects index object c.loop-index.plans.items c.in-Err.error c.failure_at.result there c.loop-index.invariant.0 c.in-Err.ensures c.failure_at.ensures
