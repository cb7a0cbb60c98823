use Rattle.std.proofs.KnownBytes.{Appends-trans}
use Rattle.std.proofs.lemmas.Result.{on_ok_weaker}
use Rattle.elfsize.proofs.changes.write_found.Goals as goal

pub returns : goal.returns
returns g c = on_ok_weaker c.write_kinds.result (λ grown. Appends-trans _ _ _ _ _ c.in_ok-write_lines.ensures grown) c.write_kinds.ensures
