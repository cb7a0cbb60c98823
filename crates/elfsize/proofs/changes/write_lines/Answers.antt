use Rattle.std.proofs.Common.{◌<◌, ℕ, List, length, subst}
use Rattle.std.proofs.KnownBytes.{Appends-nil, Appends-trans}
use Rattle.std.specs.Io.KnownBytes.{Appends}
use Rattle.elfsize.specs.Differences.{change_text}
use Rattle.elfsize.proofs.Compared.{one_more_text_at}
use Rattle.elfsize.proofs.changes.write_lines.Goals as goal

pub loop-change-init : goal.loop-change-init
loop-change-init g c = Appends-nil _

pub loop-change-preserved : goal.loop-change-preserved
loop-change-preserved g c =
    let changes = c.args.changes.now in
    let index = c.loop-change.change-index in
    let below : index < length changes = c.loop-change-test.true in
    subst (λ (text : List ℕ). Appends (g.W.Write.contents c.args.out.now) (g.W.Write.contents c.write_change.new.out) text)
    (one_more_text_at (change_text c.args.form) changes index _ below)
    (Appends-trans _ _ _ _ _ c.loop-change.invariant c.in_ok-write_change.ensures)
