use Rattle.elf_base.proofs.PrintedLines.{field_line_of}
use Rattle.elf_base.proofs.print.FieldDisplay.fmt.Goals as goal

pub returns-clause-writes : goal.returns-clause-writes
returns-clause-writes g c =
    rw (c.saturating_sub.ensures, field_line_of c.args.self.now.0.now (g.T.Display.output c.args.self.now.1)) at c.writeln.ensures.writes
