use Rattle.std.proofs.Common.{ℕ, List, ◌≡◌, ◌<◌, ◌+◌, ◌∙◌, get_or, length, refl, subst, sym, take, arith}
use Rattle.std.proofs.lemmas.List.{get_or_default, length-set}
use Rattle.elfsize.specs.Totals.{AreTotals}
use Rattle.elfsize.specs.declared.totals.Run.{Run}
use Rattle.elfsize.proofs.Sizes.{no_totals, room, totals_step}
use Rattle.elfsize.proofs.totals.add_runs.Goals as goal

pub loop-run-init : goal.loop-run-init
loop-run-init c = (rw c.requires.none (no_totals c.args.runs.now (length c.args.totals.now)), refl)

pub add-requires-clause-within : goal.add-requires-clause-within
add-requires-clause-within c =
    let none : Run = record { part = 0; size = 0 } in
    let here : (get_or c.args.runs.now c.loop-run.run-index none).part < length c.args.totals.now = c.requires.numbers c.loop-run.run-index none c.loop-run-test.true in
    omega (arith, c.loop-run.invariant.1)

pub add-requires-clause-fits : goal.add-requires-clause-fits
add-requires-clause-fits c =
    let runs = c.args.runs.now in
    let index = c.loop-run.run-index in
    let none : Run = record { part = 0; size = 0 } in
    let item = get_or runs index none in
    let here : item.part < length c.args.totals.now = c.requires.numbers index none c.loop-run-test.true in
    let within : item.part < length c.loop-run.totals = omega (arith, c.loop-run.invariant.1) in
    room runs index item c.loop-run-test.true (get_or_default runs index none item c.loop-run-test.true) c.loop-run.totals 18446744073709551616 within c.loop-run.invariant.0 c.requires.fits

pub loop-run-preserved : goal.loop-run-preserved
loop-run-preserved c =
    let runs = c.args.runs.now in
    let index = c.loop-run.run-index in
    let none : Run = record { part = 0; size = 0 } in
    let item = get_or runs index none in
    let here : item.part < length c.args.totals.now = c.requires.numbers index none c.loop-run-test.true in
    let within : item.part < length c.loop-run.totals = omega (arith, c.loop-run.invariant.1) in
    let size = get_or c.loop-run.totals item.part 0 + item.size in
    subst (λ (totals : List ℕ). AreTotals (take (index + 1) runs) totals × (length totals ≡ length c.args.totals.now)) (sym c.add.ensures) (
      totals_step runs index item c.loop-run-test.true (get_or_default runs index none item c.loop-run-test.true) c.loop-run.totals size within refl c.loop-run.invariant.0,
      length-set c.loop-run.totals item.part size ∙ c.loop-run.invariant.1,
    )
