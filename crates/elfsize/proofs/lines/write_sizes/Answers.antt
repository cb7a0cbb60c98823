use Rattle.std.proofs.KnownBytes.{Appends-trans}
use Rattle.std.proofs.lemmas.Result.{on_ok_weaker}
use Rattle.elfsize.proofs.lines.write_sizes.Goals as goal

pub returns : goal.returns
returns g c = on_ok_weaker c.write_sum.result (λ grown.
    Appends-trans _ _ _ _ _ c.in_ok-write_head.ensures (Appends-trans _ _ _ _ _ c.in_ok-write_lines.ensures grown)) c.write_sum.ensures
