use Rattle.std.proofs.Common.{sym, ◌∙◌}
use Rattle.elfload.proofs.FilePlans.{planned, unlimited}
use Rattle.elfload.proofs.images.read_plan.Goals as goal

pub returns-in-Some : goal.returns-in-Some
returns-in-Some g c =
    planned c.args.page c.args.object.now c.file-file.result c.in-Some.limit c.check_load.result c.file-file.ensures (sym c.limit_of.ensures ∙ c.in-Some.is) c.check_load.ensures.exact

pub returns-in-None : goal.returns-in-None
returns-in-None g c = unlimited c.args.page c.args.object.now c.file-file.result c.file-file.ensures (sym c.limit_of.ensures ∙ c.in-None.is)
