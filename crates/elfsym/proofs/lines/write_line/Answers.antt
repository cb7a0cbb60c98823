use Rattle.std.proofs.Common.{refl}
use Rattle.std.proofs.lemmas.Result.{err_from_is_err_and}
use Rattle.elfsym.specs.Lines.{line_text}
use Rattle.elfsym.proofs.lines.write_line.Goals as goal

pub returns-in_err-write_numbers-in-Ok : goal.returns-in_err-write_numbers-in-Ok
returns-in_err-write_numbers-in-Ok g c =
    let p = err_from_is_err_and c.from_residual.result c.from_residual.ensures.1 in
    rw (p.1, p.2) (line_text c.args.form c.args.reference.now c.in-Ok.numbers, (c.in-Ok.numbers, c.in-Ok.ensures, refl))
