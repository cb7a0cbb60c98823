use Rattle.std.proofs.Common.{Err}
use Rattle.elf_linking.specs.Values.{unread}
use Rattle.elf_linking.proofs.values.value_of.Goals as goal

pub returns-in-Err : goal.returns-in-Err
returns-in-Err g c = (Err c.in-Err.error, c.in-Err.ensures, unread c.in-Err.error)
