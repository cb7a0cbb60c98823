use Rattle.std.proofs.Common.{rules, ◌<◌, List, ℕ, length, refl, subst, arith}
use Rattle.elfsize.specs.Ends.{IsEndAt}
use Rattle.elfsize.proofs.FileEnds.{none_ended, one_more_end}
use Rattle.elfsize.proofs.run_on_each.Goals as goal

pub loop-path-init : goal.loop-path-init
loop-path-init g c = none_ended c.args.options g.R.File.Read.remaining g.S.AsStr.text _ refl

pub loop-path-preserved : goal.loop-path-preserved
loop-path-preserved g c =
    let remaining = g.R.File.Read.remaining in
    let paths = c.args.paths.now in
    let index = c.loop-path.path-index in
    let below : index < length paths = omega (arith, c.loop-path-test.true) in
    let (end, ended, status_is, sums_are) = c.run_on_path-own.ensures in
    one_more_end c.args.options remaining g.S.AsStr.text paths index c.path-item.result _ _ _ _ _ end below c.path-item.is c.loop-path.invariant
    (subst (λ (text : List ℕ). IsEndAt c.args.options remaining text end) c.as_str-text.ensures ended) status_is (search rules) sums_are
