use Rattle.std.proofs.Common.{ℕ, List, get_or, subst}
use Rattle.std.proofs.lemmas.List.{get_or_default}
use Rattle.std.proofs.KnownBytes.{Appends-nil, Appends-trans}
use Rattle.std.specs.Io.KnownBytes.{Appends}
use Rattle.elfsize.specs.Lines.{line_text}
use Rattle.elfsize.specs.declared.totals.Run.{Run}
use Rattle.elfsize.proofs.LineLists.{one_more_line}
use Rattle.elfsize.proofs.lines.write_lines.Goals as goal

pub loop-one-init : goal.loop-one-init
loop-one-init g c = Appends-nil _

pub loop-one-preserved : goal.loop-one-preserved
loop-one-preserved g c =
    let lines = c.args.lines.now in
    let sizes = c.args.sizes.now in
    let index = c.loop-one.one-index in
    let none : Run = record { part = 0; size = 0 } in
    let one = get_or sizes index none in
    subst (λ (text : List ℕ). Appends (g.W.Write.contents c.args.out.now) (g.W.Write.contents c.write_line.new.out) text)
    (one_more_line (line_text lines.form lines.path.now lines.side.now.file lines.side.now.symbols) sizes index one c.loop-one-test.true (get_or_default sizes index none one c.loop-one-test.true))
    (Appends-trans _ _ _ _ _ c.loop-one.invariant c.in_ok-write_line.ensures)
