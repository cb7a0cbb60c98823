use Rattle.std.proofs.Common.{rules, ◌≡◌, ◌<◌, ◌+◌, ◌-◌, length, refl, sym, ap, subst, ◌∙◌, arith}
use Rattle.std.proofs.lemmas.Option.{slice_get_read}
use Rattle.elf_loading.specs.LoadScope.{loaded_objects, loaded_plans}
use Rattle.elf_c.specs.LoadAll.{begin_at, each_relocated, one_failed}
use Rattle.elf_c.proofs.LoadAll.{begin_last, begins_before, begins_next, each_before, each_done, each_more, each_none, fits_before}
use Rattle.elf_c.proofs.load_all.relocate_each.Goals as goal

pub loop-done-init : goal.loop-done-init
loop-done-init g c = record {
  begin_is = begin_last (loaded_plans c.args.planned.now).now (length c.args.memory.now) c.requires.whole;
  size = refl;
  made = each_none g.E.Entry.fields (loaded_objects c.args.planned.now) (loaded_plans c.args.planned.now) c.args.when c.args.places.now c.args.memory.now;
}

pub overflow_sub-begin : goal.overflow_sub-begin
overflow_sub-begin g c =
    let first : length c.plans-plans.result.now - 1 - c.loop-done.done < length c.plans-plans.result.now = omega (arith, c.loop-done-test.true) in
    let there = slice_get_read c.plans-plans.result.now (length c.plans-plans.result.now) (length c.plans-plans.result.now - 1 - c.loop-done.done) c.index-plans-of.result refl first c.index-plans-of.is in
    let begin = subst (λ lent. c.loop-done.begin ≡ begin_at lent.now (length lent.now - c.loop-done.done)) (sym c.plans-plans.ensures) c.loop-done.invariant.begin_is in
    fits_before c.plans-plans.result.now c.loop-done.done c.loop-done.begin c.size_of-begin.result c.index-plans-of.result c.loop-done-test.true there begin c.size_of-begin.ensures

pub relocate_image-requires-clause-begin : goal.relocate_image-requires-clause-begin
relocate_image-requires-clause-begin g c =
    let first : length c.plans-plans.result.now - 1 - c.loop-done.done < length c.plans-plans.result.now = omega (arith, c.loop-done-test.true) in
    let there = slice_get_read c.plans-plans.result.now (length c.plans-plans.result.now) (length c.plans-plans.result.now - 1 - c.loop-done.done) c.index-plans-of.result refl first c.index-plans-of.is in
    let begin = subst (λ lent. c.loop-done.begin ≡ begin_at lent.now (length lent.now - c.loop-done.done)) (sym c.plans-plans.ensures) c.loop-done.invariant.begin_is in
    let own = begins_before c.plans-plans.result.now c.loop-done.done c.loop-done.begin c.size_of-begin.result c.index-plans-of.result c.loop-done-test.true there begin c.size_of-begin.ensures in
    subst (λ lent. c.loop-done.begin - c.size_of-begin.result ≡ begin_at lent.now (length c.plans-plans.result.now - 1 - c.loop-done.done)) c.plans-plans.ensures own

pub returns-in-Err-clause-exact : goal.returns-in-Err-clause-exact
returns-in-Err-clause-exact g c =
    let count = ap (λ lent. length lent.now) c.plans-plans.ensures in
    let below = c.loop-done-test.true in
    let less : c.loop-done.done < length (loaded_plans c.args.planned.now).now = omega (arith, below, count) in
    let place : length c.plans-plans.result.now - 1 - c.loop-done.done ≡ length (loaded_plans c.args.planned.now).now - 1 - c.loop-done.done = omega (arith, count) in
    one_failed (length c.plans-plans.result.now - 1 - c.loop-done.done) c.loop-done.memory c.loop-done.left c.in-Err.found (omega (arith, less, place))
    (each_before g.E.Entry.fields (loaded_objects c.args.planned.now) (loaded_plans c.args.planned.now) c.args.when c.args.places.now c.args.memory.now c.loop-done.done (length c.plans-plans.result.now - 1 - c.loop-done.done) c.loop-done.memory c.loop-done.left less place c.loop-done.invariant.made)
    c.in-Err.ensures.exact (search rules)

pub loop-done-preserved : goal.loop-done-preserved
loop-done-preserved g c =
    let count = ap (λ lent. length lent.now) c.plans-plans.ensures in
    let below = c.loop-done-test.true in
    let less : c.loop-done.done < length (loaded_plans c.args.planned.now).now = omega (arith, below, count) in
    let place : length c.plans-plans.result.now - 1 - c.loop-done.done ≡ length (loaded_plans c.args.planned.now).now - 1 - c.loop-done.done = omega (arith, count) in
    let first : length c.plans-plans.result.now - 1 - c.loop-done.done < length c.plans-plans.result.now = omega (arith, c.loop-done-test.true) in
    let there = slice_get_read c.plans-plans.result.now (length c.plans-plans.result.now) (length c.plans-plans.result.now - 1 - c.loop-done.done) c.index-plans-of.result refl first c.index-plans-of.is in
    let begin = subst (λ lent. c.loop-done.begin ≡ begin_at lent.now (length lent.now - c.loop-done.done)) (sym c.plans-plans.ensures) c.loop-done.invariant.begin_is in
    let next = begins_next c.plans-plans.result.now c.loop-done.done c.loop-done.begin c.size_of-begin.result c.index-plans-of.result c.loop-done-test.true there begin c.size_of-begin.ensures in record {
      begin_is = subst (λ lent. c.loop-done.begin - c.size_of-begin.result ≡ begin_at lent.now (length lent.now - (c.loop-done.done + 1))) c.plans-plans.ensures next;
      size = c.relocate_image.ensures.len ∙ c.loop-done.invariant.size;
      made = each_more g.E.Entry.fields (loaded_objects c.args.planned.now) (loaded_plans c.args.planned.now) c.args.when c.args.places.now c.args.memory.now c.loop-done.done (length c.plans-plans.result.now - 1 - c.loop-done.done) c.loop-done.memory c.relocate_image.new.memory
          c.loop-done.left c.in-Ok.count c.saturating_add-left.result less place c.loop-done.invariant.made c.in-Ok.ensures.exact c.saturating_add-left.ensures;
    }

pub returns-clause-exact : goal.returns-clause-exact
returns-clause-exact g c =
    let count = ap (λ lent. length lent.now) c.plans-plans.ensures in
    let past = c.loop-done-test.false in
    each_relocated c.loop-done.left
    (each_done g.E.Entry.fields (loaded_objects c.args.planned.now) (loaded_plans c.args.planned.now) c.args.when c.args.places.now c.args.memory.now c.loop-done.done c.loop-done.memory c.loop-done.left (omega (arith, past, count)) c.loop-done.invariant.made) refl
