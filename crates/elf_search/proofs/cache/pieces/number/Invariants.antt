use Rattle.std.proofs.Common.{◌≡◌, ◌-◌, ◌≤◌, Some, length, drop}
use Rattle.elf_search.specs.Pieces.{pieces_after}
use Rattle.elf_search.proofs.cache.pieces.number.Given as goal

abbrev pub invariant-loop-place : goal.invariant-loop-place
invariant-loop-place l = (pieces_after (Some l.fn.front) l.bytes ≡ pieces_after (Some l.value) (drop l.place l.bytes)) × (l.place ≤ length l.bytes)

abbrev pub decreases-loop-place : goal.decreases-loop-place
decreases-loop-place l = length l.bytes - l.place
