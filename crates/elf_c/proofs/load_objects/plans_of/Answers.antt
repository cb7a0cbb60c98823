use Rattle.std.proofs.Common.{◌≡◌, [], length, refl, subst, ◌∙◌, arith}
use Rattle.std.proofs.lemmas.List.{length-set}
use Rattle.std.proofs.lemmas.Option.{slice_get_read}
use Rattle.elf_c.specs.LoadObjects.{AreFirstMade, IsPlanFor, LacksPlan}
use Rattle.elf_c.proofs.LoadObjects.{all_made, first_made, one_more_made, unmade_first}
use Rattle.elf_c.proofs.load_objects.plans_of.Goals as goal

pub returns-in-Err : goal.returns-in-Err
returns-in-Err g c =
    let objects = c.args.objects.now in
    let object = c.index-objects-0.result in
    let there = slice_get_read objects (length objects) 0 object refl c.requires.some c.index-objects-0.is in
    unmade_first (IsPlanFor c.args.page c.args.limit) objects (LacksPlan c.args.page c.args.limit) 0 object [] c.in-Err.error there (λ index load below is. absurd (omega (arith, below))) c.in-Err.ensures

pub loop-index-init : goal.loop-index-init
loop-index-init g c =
    let objects = c.args.objects.now in
    let object = c.index-objects-0.result in
    let there = slice_get_read objects (length objects) 0 object refl c.requires.some c.index-objects-0.is in record {
      long = refl;
      first = first_made (IsPlanFor c.args.page c.args.limit) objects object c.in-Ok.first there c.in-Ok.ensures;
    }

pub returns-in-Err-read_plan : goal.returns-in-Err-read_plan
returns-in-Err-read_plan g c =
    let objects = c.args.objects.now in
    let index = c.loop-index.index in
    let object = c.index-objects-index.result in
    let there = slice_get_read objects (length objects) index object refl c.loop-index-test.true c.index-objects-index.is in
    unmade_first (IsPlanFor c.args.page c.args.limit) objects (LacksPlan c.args.page c.args.limit) index object c.loop-index.plans c.in-Err-read_plan.error there c.loop-index.invariant.first c.in-Err-read_plan.ensures

pub loop-index-preserved : goal.loop-index-preserved
loop-index-preserved g c =
    let objects = c.args.objects.now in
    let index = c.loop-index.index in
    let object = c.index-objects-index.result in
    let there = slice_get_read objects (length objects) index object refl c.loop-index-test.true c.index-objects-index.is in
    let long = c.loop-index.invariant.long in
    let fit = c.requires.fit in
    let below = c.loop-index-test.true in record {
      long = length-set c.loop-index.plans index c.in-Ok-read_plan.plan ∙ long;
      first = one_more_made (IsPlanFor c.args.page c.args.limit) objects c.loop-index.plans index object c.in-Ok-read_plan.plan (omega (arith, below, long, fit)) there c.in-Ok-read_plan.ensures c.loop-index.invariant.first;
    }

pub returns : goal.returns
returns g c =
    let objects = c.args.objects.now in
    let most = c.loop-index.auto.index-end c.requires.some in
    let past = c.loop-index-test.false in
    let end : c.loop-index.index ≡ length objects = omega (arith, most, past) in
    all_made (IsPlanFor c.args.page c.args.limit) objects c.loop-index.plans c.loop-index.invariant.long c.requires.fit
    (subst (λ count. AreFirstMade (IsPlanFor c.args.page c.args.limit) objects count c.loop-index.plans) end c.loop-index.invariant.first)
