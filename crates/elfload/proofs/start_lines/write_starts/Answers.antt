use Rattle.std.proofs.Common.{◌<◌, length, subst, ap, arith}
use Rattle.std.proofs.KnownBytes.{Appends-nil}
use Rattle.std.proofs.lemmas.List.{take_all}
use Rattle.std.specs.Io.KnownBytes.{Appends}
use Rattle.std.specs.List.{flat_map}
use Rattle.elfload.specs.Starts.{start_line}
use Rattle.elfload.proofs.StartParts.{one_text}
use Rattle.elfload.proofs.start_lines.write_starts.Goals as goal

pub loop-index-init : goal.loop-index-init
loop-index-init g c = Appends-nil _

pub loop-index-preserved : goal.loop-index-preserved
loop-index-preserved g c =
    let starts = c.args.starts.now in
    let index = c.loop-index.index in
    let below : index < length starts = omega (arith, c.loop-index-test.true) in
    one_text (start_line c.args.form) starts index _ _ _ _ below c.loop-index.invariant c.in_ok-write_start.ensures

pub returns : goal.returns
returns g c =
    subst (λ text. Appends (g.W.Write.contents c.args.out.now) (g.W.Write.contents c.loop-index.out) text) (ap (flat_map (start_line c.args.form)) (take_all c.loop-index.index c.args.starts.now (omega (arith, c.loop-index-test.false)))) c.loop-index.invariant
