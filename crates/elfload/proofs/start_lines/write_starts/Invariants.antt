use Rattle.std.proofs.Common.{take}
use Rattle.std.specs.Io.KnownBytes.{Appends}
use Rattle.std.specs.List.{flat_map}
use Rattle.elfload.specs.Starts.{start_line}
use Rattle.elfload.proofs.start_lines.write_starts.Given as goal

-- the lines so far
abbrev pub invariant-loop-index : goal.invariant-loop-index
invariant-loop-index g l = Appends (g.W.Write.contents l.fn.out) (g.W.Write.contents l.out) (flat_map (start_line l.fn.form) (take l.index l.fn.starts))
