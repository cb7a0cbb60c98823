use Rattle.std.proofs.Common.{take}
use Rattle.std.specs.Io.KnownBytes.{Appends}
use Rattle.std.specs.List.{flat_map}
use Rattle.elfsize.specs.Differences.{change_text}
use Rattle.elfsize.proofs.changes.write_lines.Given as goal

-- the lines so far
abbrev pub invariant-loop-change : goal.invariant-loop-change
invariant-loop-change g l =
    Appends (g.W.Write.contents l.fn.out) (g.W.Write.contents l.out) (flat_map (change_text l.fn.form) (take l.change-index l.fn.changes))
