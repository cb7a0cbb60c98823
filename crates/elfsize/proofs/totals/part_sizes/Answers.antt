use Rattle.std.proofs.Common.{ℕ, List, length, subst}
use Rattle.elfsize.specs.Totals.{IsListed}
use Rattle.elfsize.proofs.Sizes.{sorted_sizes}
use Rattle.elfsize.proofs.totals.part_sizes.Goals as goal

pub returns : goal.returns
returns c =
    let sizes = c.in_ok-sizes.sizes.items in
    let list = subst (λ (t : List ℕ). IsListed t (length t) sizes) c.deref.ensures.value c.in_ok-sizes.ensures in
    sorted_sizes c.args.runs.now sizes c.sort.new.sizes.items c.in_ok-totals.totals.items c.in_ok-totals.ensures list c.in_ok-sort.ensures.moved c.in_ok-sort.ensures.sorted
