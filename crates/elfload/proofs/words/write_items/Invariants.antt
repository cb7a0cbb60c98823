use Rattle.elfload.proofs.WordLines.{AreLinesSoFar}
use Rattle.elfload.proofs.words.write_items.Given as goal

-- the lines of the relocations so far
abbrev pub invariant-loop-item : goal.invariant-loop-item
invariant-loop-item g l = AreLinesSoFar g.E.Entry.fields l.fn.place l.fn.words l.item-iterator
    (g.W.Write.contents l.fn.out) (g.W.Write.contents l.out)
