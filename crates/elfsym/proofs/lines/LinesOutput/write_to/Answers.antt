use Rattle.elfsym.proofs.LineLists.{for_input}
use Rattle.elfsym.proofs.Stops.{of_input, ok_of_input}
use Rattle.elfsym.specs.Lines.{AreFileLinesBegun, AreFileLinesFailed, no_header, no_lines}
use Rattle.elfsym.proofs.lines.LinesOutput.write_to.Goals as goal
use Rattle.program_ends.proofs.Ends.{ends_so}

pub returns-in-Ok : goal.returns-in-Ok
returns-in-Ok g c =
    let input = c.args.self.now.input in
    let references = c.args.self.now.references.now in
    let file = c.in-Ok.file in
    ends_so _ _ _ _ _ _ _ c.write_lines.result _ _
    (λ done text are. for_input c.args.self.now.form g.S.AsStr.text input file references text c.in-Ok.ensures.input c.in-Ok.ensures.header are)
    (λ error why. no_lines file.header error c.in-Ok.ensures.header (of_input (λ f. AreFileLinesFailed c.args.self.now.form g.S.AsStr.text f references error) input file c.in-Ok.ensures.input why))
    (λ begun. ok_of_input (λ f. AreFileLinesBegun c.args.self.now.form g.S.AsStr.text f references) input file c.in-Ok.ensures.input c.in-Ok.ensures.header begun) c.write_lines.ensures

pub returns-in-Err : goal.returns-in-Err
returns-in-Err g c = no_header c.in-Err.error c.in-Err.ensures.failed
