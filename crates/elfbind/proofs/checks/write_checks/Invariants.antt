use Rattle.std.proofs.Common.{take}
use Rattle.elfbind.specs.Checks.{IsCheckLine}
use Rattle.elfbind.specs.Files.{AreWritten}
use Rattle.program_ends.specs.Appended.{AppendsSome}
use Rattle.elfbind.proofs.checks.write_checks.Given as goal

-- the lines of the objects so far
abbrev pub invariant-loop-index : goal.invariant-loop-index
invariant-loop-index g l = AppendsSome
    (AreWritten (IsCheckLine l.fn.form g.E.Entry.fields l.fn.inputs) (take l.index l.fn.objects) l.failing)
    (g.W.Write.contents l.fn.out) (g.W.Write.contents l.out)
