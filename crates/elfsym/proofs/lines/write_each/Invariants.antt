use Rattle.std.proofs.Common.{List, ℕ, take}
use Rattle.std.specs.Io.KnownBytes.{Appends}
use Rattle.std.specs.List.{AllZip, concat}
use Rattle.elf_linking.specs.DynamicObject.{object_dynamic_symbols}
use Rattle.elfsym.specs.Lines.{IsLine}
use Rattle.elfsym.proofs.lines.write_each.Given as goal

-- a line for each reference so far
abbrev pub invariant-loop-reference : goal.invariant-loop-reference
invariant-loop-reference g l = let file = object_dynamic_symbols g.E.Entry.fields l.object in (lines : List (List ℕ))
    × AllZip (λ reference line. IsLine l.fn.form file (g.S.AsStr.text reference) line) (take l.reference-index l.references) lines
    × Appends (g.W.Write.contents l.fn.out) (g.W.Write.contents l.out) (concat lines)
