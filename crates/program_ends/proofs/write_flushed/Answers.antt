use Rattle.std.proofs.Common.{subst}
use Rattle.std.specs.Io.Buffered.{writer_buffer, writer_inner}
use Rattle.std.specs.Io.KnownBytes.{append_known}
use Rattle.program_ends.proofs.Unbuffered.{none_buffered}
use Rattle.program_ends.proofs.write_flushed.Goals as goal

pub returns : goal.returns
returns g c =
    let old = c.args.buffered.now in
    let new = c.flush.new.self in
    let before = g.W.Write.contents (writer_inner old) in
    let after = g.W.Write.contents (writer_inner new) in
    let kept = g.O.Output.flushed c.args.output.now _ _ _ c.in-Ok.ensures c.in_ok-flush.ensures.bytes in
    let held = subst (λ known. g.O.Output.Writes c.args.output.now (append_known before (writer_buffer old)) known)
    (none_buffered after (writer_buffer new) c.in_ok-flush.ensures.ok) kept in
    subst (λ known. g.O.Output.Writes c.args.output.now known after) (none_buffered before (writer_buffer old) c.requires) held
