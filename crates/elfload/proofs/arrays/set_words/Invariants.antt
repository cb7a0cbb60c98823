use Rattle.elfload.proofs.StartValues.{AreSetSoFar}
use Rattle.elfload.proofs.arrays.set_words.Given as goal

-- the values after the words so far
abbrev pub invariant-loop-item : goal.invariant-loop-item
invariant-loop-item g l = AreSetSoFar g.E.Entry.fields l.fn.slots l.fn.words l.fn.before.items l.item-iterator l.values.items
