use Rattle.std.proofs.Common.{ℕ, List, ◌<◌, ◌∙◌, subst, sym}
use Rattle.std.specs.List.{All}
use Rattle.elfsize.proofs.KindRuns.{kinds_bytes, kinds_small}
use Rattle.elfsize.proofs.sums.kind_totals.Goals as goal
use Rattle.elfsize.specs.Totals.{all_bytes}
use Rattle.elfsize.specs.declared.totals.Run.{Run}

pub part_totals-requires-clause-numbers : goal.part_totals-requires-clause-numbers
part_totals-requires-clause-numbers c =
    subst (λ (kinds : List Run). All (λ (run : Run). run.part < 7) kinds) (sym (c.deref.ensures.value ∙ c.in_ok-kinds.ensures)) (kinds_small c.args.runs.now)

pub part_totals-requires-clause-fits : goal.part_totals-requires-clause-fits
part_totals-requires-clause-fits c =
    subst (λ (kinds : List Run). all_bytes kinds < 18446744073709551616) (sym (c.deref.ensures.value ∙ c.in_ok-kinds.ensures))
    (subst (λ (n : ℕ). n < 18446744073709551616) (sym (kinds_bytes c.args.runs.now)) c.requires)
