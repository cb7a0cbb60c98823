use Rattle.program_ends.proofs.JsonSpelled.{spelled}
use Rattle.program_ends.proofs.json.spelling_law.Goals as goal

pub returns : goal.returns
returns c = spelled
