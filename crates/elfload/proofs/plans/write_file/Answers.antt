use Rattle.std.proofs.Common.{rules}
use Rattle.elfload.specs.Plans.{no_limit}
use Rattle.elfload.proofs.plans.write_file.Goals as goal

pub returns-in-None : goal.returns-in-None
returns-in-None g c = no_limit (search rules)
