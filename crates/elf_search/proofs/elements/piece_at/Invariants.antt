use Rattle.std.proofs.Common.{◌≡◌, ◌+◌, ◌≤◌, length}
use Rattle.std.specs.Prelude.{slice_get}
use Rattle.elf_search.specs.Elements.{pieces_of}
use Rattle.elf_search.proofs.elements.piece_at.Given as goal

abbrev pub invariant-loop-left : goal.invariant-loop-left
invariant-loop-left l = (slice_get (pieces_of l.separators l.rest) l.left ≡ slice_get (pieces_of l.separators l.text) l.index)
    × (length (pieces_of l.separators l.rest) + l.index ≡ length (pieces_of l.separators l.text) + l.left)
    × (length l.rest + l.index ≤ length l.text + l.left)
    × (l.left ≤ l.index)

abbrev pub decreases-loop-left : goal.decreases-loop-left
decreases-loop-left l = l.left
