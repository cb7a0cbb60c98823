use Rattle.std.proofs.Common.{rules, ◌≡◌, ◌<◌, ◌*◌, ◌∙◌, ap, arith, length, refl}
use Rattle.std.proofs.lemmas.Option.{slice_get_read}
use Rattle.std.specs.Prelude.{⊤}
use Rattle.elfload.proofs.Checks.{enough_for, image_good, image_failed}
use Rattle.elfload.proofs.Stops.{error_stops}
use Rattle.elfload.specs.Images.{IsWordsError}
use Rattle.elfload.proofs.images.check_words.Goals as goal

pub returns-in-Ok-check_image : goal.returns-in-Ok-check_image
returns-in-Ok-check_image g c =
    image_good g.E.Record.SIZE g.E.Entry.fields _ c.args.objects _ c.args.plans c.args.index _ (c.new-planned.ensures.objects ∙ c.new-scope.ensures) c.new-planned.ensures.plans c.in-Ok-check_image.ensures.exact

pub returns : goal.returns
returns g c =
    let plans = c.args.plans.now in
    let index = c.args.index in
    let error = c.in-Err.error in
    let plan = c.index-plans-index.result in
    let below : index < length plans = omega (arith, c.requires.below, c.requires.planned) in
    let there = slice_get_read plans (length plans) index plan refl below c.index-plans-index.is in
    let counted : length c.deref_mut.result.now ≡ c.in-Some.size = search rules in
    let enough = enough_for plans index plan c.span.result c.in-Some.size _ there c.span.ensures.value c.in-Some.ensures.enough (ap (λ n. 8 * n) counted) in
    error_stops c.args.inputs.now index (IsWordsError g.E.Record.SIZE g.E.Entry.fields c.args.objects.now plans index) ⊥ ⊤ error c.failure_at.result
    (image_failed g.E.Record.SIZE g.E.Entry.fields _ c.args.objects _ c.args.plans index _ (c.new-planned.ensures.objects ∙ c.new-scope.ensures) c.new-planned.ensures.plans error enough c.in-Err.ensures.exact) c.failure_at.ensures
