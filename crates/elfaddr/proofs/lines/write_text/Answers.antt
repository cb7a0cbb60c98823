use Rattle.std.proofs.KnownBytes.{Appends-trans}
use Rattle.std.proofs.lemmas.Result.{on_ok_weaker}
use Rattle.elfaddr.proofs.lines.write_text.Goals as goal

pub returns : goal.returns
returns g c = on_ok_weaker c.write.result (λ grown. Appends-trans _ _ _ _ _ c.in_ok-write_name.ensures grown) c.write.ensures.bytes
