use Rattle.std.proofs.Common.{subst, sym}
use Rattle.std.specs.Io.Buffered.{writer_inner}
use Rattle.elfbind.specs.Answers.{IsAnswer}
use Rattle.program_ends.specs.Appended.{AppendsSome}
use Rattle.elfbind.proofs.print_objects.Goals as goal

pub returns-in-Ok-written : goal.returns-in-Ok-written
returns-in-Ok-written g c =
    let Is = IsAnswer {E = g.row.E.Denot} {r = g.E.Record} g.E.Entry.fields c.args.inputs.now c.args.objects.now c.args.question c.in-Ok-written.wrong in
    subst (λ out. AppendsSome Is (g.W.Write.contents out) (g.W.Write.contents c.into_parts-out.result.0)) c.in-Ok.ensures.inner
    (subst (λ out. AppendsSome Is (g.W.Write.contents (writer_inner c.in-Ok.buffered)) (g.W.Write.contents out)) (sym c.into_parts-out.ensures.inner) c.in-Ok-written.ensures)
