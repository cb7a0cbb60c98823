use Rattle.std.proofs.Common.{ℕ, List, subst}
use Rattle.std.proofs.KnownBytes.{Appends-trans}
use Rattle.std.proofs.lemmas.Result.{on_ok_weaker}
use Rattle.std.specs.Io.KnownBytes.{Appends}
use Rattle.elfsize.proofs.Compared.{different_is}
use Rattle.elfsize.proofs.changes.write_different.Goals as goal

pub returns : goal.returns
returns g c =
    on_ok_weaker c.write_all.result (λ grown.
    subst (λ (text : List ℕ). Appends (g.W.Write.contents c.args.out.now) (g.W.Write.contents c.write_all.new.self) text)
    (different_is c.args.change.now c.old_size-old.result c.new_size-new.result c.mark_text-mark.result.now c.part-shown.result c.old_size-old.ensures c.new_size-new.ensures c.mark_text-mark.ensures c.part-shown.ensures)
    (Appends-trans _ _ _ _ _ (Appends-trans _ _ _ _ _ c.in_ok-write.ensures.bytes c.in_ok-write_name.ensures) grown)) c.write_all.ensures.bytes
