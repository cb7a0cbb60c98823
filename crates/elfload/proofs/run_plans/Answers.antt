use Rattle.std.proofs.Common.{◌≡◌, ◌≤◌, ◌<◌, List, length, max, arith, subst}
use Rattle.std.proofs.lemmas.List.{take_all}
use Rattle.elfload.specs.Files.{AreBytesLoaded}
use Rattle.elfload.specs.Statuses.{ArePlanEnds}
use Rattle.linking_programs.specs.declared.Input.{Input}
use Rattle.elfload.proofs.Objects.{all_below, one_more_if}
use Rattle.elfload.proofs.PlanEnds.{plans_more, plans_none}
use Rattle.elfload.proofs.run_plans.Goals as goal

pub loop-input-init : goal.loop-input-init
loop-input-init g c = (omega arith, λ zero i below. absurd (omega (arith, below)), plans_none c.args.form c.args.page)

pub loop-input-preserved : goal.loop-input-preserved
loop-input-preserved g c =
    let inputs = c.args.inputs.now in
    let page = c.args.page in
    let index = c.loop-input.input-index in
    let below : index < length inputs = omega (arith, c.loop-input-test.true) in
    let unshut = c.is_shut.ensures.no c.if-is_shut.false in
    let worse : c.worse-status.result ≡ max c.run_plan-own.result c.loop-input.status = c.worse-status.ensures in
    let own_bound : c.run_plan-own.result ≤ 1 = c.run_plan-own.ensures.bound unshut in
    let so_far_bound : c.loop-input.status ≤ 1 = c.loop-input.invariant.0 in
    let (end, ended, own_is) = c.run_plan-own.ensures.ends in (
      omega (arith, worse, own_bound, so_far_bound),
      one_more_if (λ (input : Input). AreBytesLoaded page input.bytes.items) inputs index c.input-item.result below c.input-item.is
          (λ (zero : c.worse-status.result ≡ 0). c.loop-input.invariant.1 (omega (arith, zero, worse)))
          (λ (zero : c.worse-status.result ≡ 0). (c.deref.result, c.deref.ensures.value, c.run_plan-own.ensures.loaded (omega (arith, zero, worse)))),
      plans_more c.args.form page inputs index c.input-item.result c.loop-input.status c.run_plan-own.result c.worse-status.result end _ below c.input-item.is
          c.loop-input.invariant.2 (c.deref.result, c.deref.ensures.value, ended) own_is unshut worse,
    )

pub returns-clause-loaded : goal.returns-clause-loaded
returns-clause-loaded g c =
    let inputs = c.args.inputs.now in
    λ zero. all_below (λ (input : Input). AreBytesLoaded c.args.page input.bytes.items) inputs (λ i below. c.loop-input.invariant.1 zero i (omega (arith, below, c.loop-input-test.false)))

pub returns-clause-ends : goal.returns-clause-ends
returns-clause-ends g c =
    let inputs = c.args.inputs.now in
    λ unshut. subst (λ (those : List Input). ArePlanEnds c.args.form c.args.page those c.loop-input.status)
    (take_all c.loop-input.input-index inputs (omega (arith, c.loop-input-test.false))) c.loop-input.invariant.2
