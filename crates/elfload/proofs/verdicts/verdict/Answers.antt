use Rattle.std.proofs.Common.{ap, refl, sym}
use Rattle.elfload.specs.Verdicts.{verdict_of}
use Rattle.elfload.proofs.Statuses.{verdict_read}
use Rattle.elfload.proofs.verdicts.verdict.Goals as goal

pub returns-in-Ok : goal.returns-in-Ok
returns-in-Ok c =
    verdict_read c.args.by c.args.page c.args.bytes c.in-Ok.file c.file_verdict.result c.in-Ok.ensures.input c.in-Ok.ensures.header c.file_verdict.ensures

pub returns-in-Err : goal.returns-in-Err
returns-in-Err c = (c.args.bytes, refl, ap (verdict_of c.args.by c.args.page c.args.bytes) (sym c.in-Err.ensures.failed))
