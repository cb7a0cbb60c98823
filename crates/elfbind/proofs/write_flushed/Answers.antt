use Rattle.std.proofs.Common.{inl, subst}
use Rattle.std.specs.Io.Buffered.{writer_buffer, writer_inner}
use Rattle.std.specs.Io.KnownBytes.{append_known}
use Rattle.elfbind.specs.Answers.{IsAnswer}
use Rattle.program_ends.proofs.Ends.{stop_so}
use Rattle.program_ends.proofs.Flushed.{appended_flushed}
use Rattle.program_ends.proofs.Unbuffered.{none_buffered}
use Rattle.program_ends.specs.Appended.{AppendsSome}
use Rattle.elfbind.proofs.write_flushed.Goals as goal

pub returns : goal.returns
returns g c =
    let Is = IsAnswer {E = g.row.E.Denot} {r = g.E.Record} g.E.Entry.fields c.args.inputs.now c.args.objects.now c.args.question c.in-Ok.wrong in
    let old = c.args.buffered.now in
    let new = c.flush.new.self in
    let before = g.W.Write.contents (writer_inner old) in
    let after = g.W.Write.contents (writer_inner new) in
    let kept = appended_flushed Is _ _ _ c.in-Ok.ensures c.in_ok-flush.ensures.bytes in
    let held = subst (λ known. AppendsSome Is (append_known before (writer_buffer old)) known)
    (none_buffered after (writer_buffer new) c.in_ok-flush.ensures.ok) kept in
    subst (λ known. AppendsSome Is known after) (none_buffered before (writer_buffer old) c.requires.empty) held

pub returns-in-Err : goal.returns-in-Err
returns-in-Err g c = stop_so _ _ _ _ _ _ c.in-Err.stop (λ failed why. why) (λ begun. inl begun) (λ never. never) c.in-Err.ensures
