use Rattle.std.proofs.Common.{take}
use Rattle.std.specs.Io.KnownBytes.{Appends}
use Rattle.std.specs.List.{flat_map}
use Rattle.elfsize.specs.Lines.{line_text}
use Rattle.elfsize.proofs.lines.write_lines.Given as goal

-- the lines so far
abbrev pub invariant-loop-one : goal.invariant-loop-one
invariant-loop-one g l =
    Appends (g.W.Write.contents l.fn.out) (g.W.Write.contents l.out)
    (flat_map (line_text l.lines.form l.lines.path.now l.lines.side.now.file l.lines.side.now.symbols) (take l.one-index l.fn.sizes))
