use Rattle.std.proofs.Common.{◌≡◌, length}
use Rattle.elfload.specs.Starts.{AreInPlace}
use Rattle.elfload.proofs.arrays.words_in_place.Given as goal

-- the words so far, and their number
abbrev pub invariant-loop-index : goal.invariant-loop-index
invariant-loop-index l = AreInPlace l.fn.file l.fn.slots l.values.items × (length l.values.items ≡ l.index)
