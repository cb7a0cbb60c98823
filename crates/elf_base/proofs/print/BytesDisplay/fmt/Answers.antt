use Rattle.elf_base.proofs.PrintedBytes.{debug_list-bytes}
use Rattle.elf_base.proofs.print.BytesDisplay.fmt.Goals as goal

pub returns-clause-writes : goal.returns-clause-writes
returns-clause-writes g c = rw (debug_list-bytes c.args.self.now.0.now) at c.fmt.ensures.writes
