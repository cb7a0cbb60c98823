use Rattle.std.proofs.Common.{length, ap, sym, ◌∙◌}
use Rattle.elfload.specs.Starts.{index_or}
use Rattle.elfload.proofs.steps.place_in.Goals as goal

pub returns-in-Some : goal.returns-in-Some
returns-in-Some c = ap (index_or (length c.args.list.now)) (sym c.in-Some.is ∙ c.position_of.ensures)

pub returns-in-None : goal.returns-in-None
returns-in-None c = ap (index_or (length c.args.list.now)) (sym c.in-None.is ∙ c.position_of.ensures)
