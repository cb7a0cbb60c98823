use Rattle.std.proofs.Common.{rules, get_or, refl, arith}
use Rattle.elfsize.proofs.Sizes.{listed_step, none_listed}
use Rattle.elfsize.proofs.totals.listed.Goals as goal

pub loop-part-init : goal.loop-part-init
loop-part-init c = none_listed c.args.totals.now c.new-sizes.result.items (search rules)

pub loop-part-preserved : goal.loop-part-preserved
loop-part-preserved c =
    let totals = c.args.totals.now in
    let part = c.loop-part.part in
    rw c.in_ok-push_size.ensures (listed_step totals part (get_or totals part 0) c.loop-part.sizes.items (omega arith) refl c.loop-part.invariant)
