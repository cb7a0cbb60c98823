use Rattle.std.proofs.Common.{refl}
use Rattle.elfsym.specs.Libraries.{library_text}
use Rattle.elfsym.proofs.libraries.write_library.Goals as goal

pub returns-in_ok-write_text-in-Ok : goal.returns-in_ok-write_text-in-Ok
returns-in_ok-write_text-in-Ok g c = (library_text c.args.form c.in-Ok.name.now, rw c.in-Ok.is refl, c.in_ok-write_text-in-Ok.ensures)
