use Rattle.program_libraries.proofs.Served.{served_here}
use Rattle.program_libraries.proofs.complete.is_served.Goals as goal

pub returns-in-Some : goal.returns-in-Some
returns-in-Some c = λ served.
    let found = c.in-Some.ensures.lookup in
    served_here c.args.files.now c.args.count c.args.object.now c.in-Some.file.now c.deref.result.now c.deref-in-Some.result.now
    found.3.0 found.1 c.deref.ensures.value c.deref-in-Some.ensures.value (c.are_served.ensures served)
