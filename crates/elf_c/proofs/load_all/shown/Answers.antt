use Rattle.std.proofs.Common.{◌≡◌, ◌<◌, ◌≤◌, ◌+◌, length, refl, ◌∙◌, arith}
use Rattle.std.proofs.lemmas.List.{length-set}
use Rattle.std.proofs.lemmas.Option.{slice_get_read}
use Rattle.elf_c.specs.declared.load_objects.TheConstants.{MOST_OBJECTS}
use Rattle.elf_c.proofs.LoadAll.{behind_fits, behind_image, behind_more, behind_none, order_more, shown_all, shown_more, shown_none, sum_more}
use Rattle.elf_c.proofs.load_all.shown.Goals as goal

pub loop-index-init : goal.loop-index-init
loop-index-init c = record {
  long = refl;
  above = omega arith;
  order = omega arith;
  sum = c.requires.whole;
  here = behind_none c.args.plans.now c.args.of c.args.behind.now;
  set = shown_none c.args.plans.now c.args.of c.args.behind.now MOST_OBJECTS _ refl;
}

pub split_at-requires : goal.split_at-requires
split_at-requires c =
    let there = slice_get_read c.args.plans.now (length c.args.plans.now) c.loop-index.index c.index-plans-index.result refl c.loop-index-test.true c.index-plans-index.is in
    behind_fits c.args.plans.now c.loop-index.index c.size_of.result (length c.loop-index.rest.now) c.index-plans-index.result there c.size_of.ensures c.loop-index.invariant.sum

pub loop-index-preserved : goal.loop-index-preserved
loop-index-preserved c =
    let plans = c.args.plans.now in
    let of = c.args.of in
    let index = c.loop-index.index in
    let size = c.size_of.result in
    let below = c.loop-index-test.true in
    let there = slice_get_read c.args.plans.now (length c.args.plans.now) c.loop-index.index c.index-plans-index.result refl c.loop-index-test.true c.index-plans-index.is in
    let long = c.loop-index.invariant.long in
    let above = c.loop-index.invariant.above in
    let order = c.loop-index.invariant.order in
    let fit = c.requires.fit in record {
      long = length-set c.loop-index.images index c.split_at.result.0 ∙ long;
      above = omega (arith, above);
      order = order_more plans of index size c.index-plans-index.result there c.size_of.ensures order;
      sum = sum_more plans index size (length c.loop-index.rest.now) (length c.split_at.result.1.now) c.index-plans-index.result there c.size_of.ensures c.loop-index.invariant.sum c.split_at.ensures.back_len;
      here = c.split_at.ensures.back ∙ behind_more plans of index size c.args.behind.now c.loop-index.rest.now c.index-plans-index.result there order c.size_of.ensures c.loop-index.invariant.here;
      set = shown_more plans of c.args.behind.now index c.loop-index.images c.split_at.result.0 (omega (arith, below, fit, long)) above
          (c.split_at.ensures.front ∙ behind_image plans of index size c.args.behind.now c.loop-index.rest.now c.index-plans-index.result there c.size_of.ensures c.loop-index.invariant.here) c.loop-index.invariant.set;
    }

pub returns : goal.returns
returns c =
    let most = c.loop-index.auto.index-end (omega (arith, c.requires.below)) in
    let past = c.loop-index-test.false in
    let long = c.loop-index.invariant.long in
    let fit = c.requires.fit in
    shown_all c.args.plans.now c.args.of c.args.behind.now c.loop-index.index c.loop-index.images (omega (arith, fit, long)) (omega (arith, most, past)) c.loop-index.invariant.set
