use Rattle.program_libraries.proofs.Served.{met_here}
use Rattle.program_libraries.proofs.needed_versions.is_object_met.Goals as goal

pub returns-in-Some : goal.returns-in-Some
returns-in-Some c = λ met.
    let found = c.in-Some.ensures.lookup in
    met_here c.args.files.now c.args.objects.now c.args.object.now c.in-Some.file.now c.deref.result.now c.deref-in-Some.result.now
    found.3.0 found.1 c.deref.ensures.value c.deref-in-Some.ensures.value (c.are_needs_met.ensures met)
