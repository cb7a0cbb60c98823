use Rattle.elfsym.proofs.LibraryLines.{for_library_input}
use Rattle.elfsym.proofs.Stops.{of_input, ok_of_input}
use Rattle.elfsym.specs.Libraries.{AreFileLibrariesBegun, AreFileLibrariesFailed, no_header, no_lines}
use Rattle.elfsym.proofs.libraries.LibrariesOutput.write_to.Goals as goal
use Rattle.program_ends.proofs.Ends.{ends_so}

pub returns-in-Ok : goal.returns-in-Ok
returns-in-Ok g c =
    let input = c.args.self.now.input in
    let file = c.in-Ok.file in
    ends_so _ _ _ _ _ _ _ c.write_libraries.result _ _
    (λ done text are. for_library_input c.args.self.now.form input file text c.in-Ok.ensures.input c.in-Ok.ensures.header are)
    (λ error why. no_lines file.header error c.in-Ok.ensures.header (of_input (λ f. AreFileLibrariesFailed c.args.self.now.form f error) input file c.in-Ok.ensures.input why))
    (λ begun. ok_of_input AreFileLibrariesBegun input file c.in-Ok.ensures.input c.in-Ok.ensures.header begun) c.write_libraries.ensures

pub returns-in-Err : goal.returns-in-Err
returns-in-Err g c = no_header c.in-Err.error c.in-Err.ensures.failed
