use Rattle.std.proofs.Common.{List, ℕ, take}
use Rattle.std.specs.Io.KnownBytes.{Appends}
use Rattle.std.specs.List.{AllZip, concat}
use Rattle.elfsym.specs.Scope.{IsScopeLine}
use Rattle.elfsym.proofs.scope.ScopeLinesOutput.write_to.Given as goal

-- a line for each reference so far
abbrev pub invariant-loop-reference : goal.invariant-loop-reference
invariant-loop-reference g l = let all = l.fn.self in (lines : List (List ℕ))
    × AllZip (λ reference line. IsScopeLine all.form all.inputs.now all.objects.now (g.S.AsStr.text reference) line) (take l.reference-index all.references.now) lines
    × Appends (g.W.Write.contents l.fn.out) (g.W.Write.contents l.out) (concat lines)
