use Rattle.std.proofs.Common.{◌<◌, ◌++◌, length, ap, ◌∙◌, arith}
use Rattle.std.proofs.lemmas.List.{take_all}
use Rattle.elfload.specs.Starts.{library_steps}
use Rattle.elfload.proofs.StartSteps.{steps_more, steps_none}
use Rattle.elfload.proofs.steps.with_libraries.Goals as goal

pub loop-number-init : goal.loop-number-init
loop-number-init c = steps_none c.args.list.now c.args.steps.items

pub loop-number-preserved : goal.loop-number-preserved
loop-number-preserved c =
    let numbers = c.args.numbers.now in
    let index = c.loop-number.number-index in
    let below : index < length numbers = omega (arith, c.loop-number-test.true) in
    steps_more c.args.list.now c.args.steps.items numbers index _ c.loop-number.steps.items c.in-Some.more.items c.loop-number.invariant below c.place_in.ensures c.in-Some.ensures

pub returns : goal.returns
returns c =
    let numbers = c.args.numbers.now in
    c.loop-number.invariant.are ∙ ap (λ those. c.args.steps.items ++ library_steps c.args.list.now those) (take_all c.loop-number.number-index numbers (omega (arith, c.loop-number-test.false)))
