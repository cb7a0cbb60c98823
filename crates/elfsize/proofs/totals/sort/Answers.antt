use Rattle.std.proofs.Common.{rules}
use Rattle.std.proofs.lemmas.Fn.{always_returns_same}
use Rattle.std.proofs.lemmas.Result.{on_ok_weaker}
use Rattle.elfsize.proofs.Sizes.{larger_order}
use Rattle.elfsize.specs.Totals.{comes_first}
use Rattle.elfsize.proofs.totals.sort.Goals as goal

pub returns-clause-sorted : goal.returns-clause-sorted
returns-clause-sorted c =
    on_ok_weaker c.sort_by.result (λ sorted. sorted comes_first larger_order (always_returns_same _ _ _ (λ a r f' k. search rules))) c.sort_by.ensures.sorted
