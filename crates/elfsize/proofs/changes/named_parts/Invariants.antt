use Rattle.elfsize.proofs.Compared.{ArePartsTo}
use Rattle.elfsize.proofs.changes.named_parts.Given as goal

-- the parts so far
abbrev pub invariant-loop-one : goal.invariant-loop-one
invariant-loop-one l = ArePartsTo l.side.file l.side.symbols l.fn.sizes l.one-index l.parts.items
