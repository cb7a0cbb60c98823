use Rattle.std.proofs.Common.{ℕ, ◌<◌, ◌≤◌, slice_index}
use Rattle.elf_addresses.proofs.index.keys.span.Given as goal

abbrev pub invariant-loop-place : goal.invariant-loop-place
invariant-loop-place g l =
    ((k : ℕ) → k < l.place → l.least ≤ (g.C.Claims.range_of l.claims (slice_index l.words k)).0)
    × ((k : ℕ) → k < l.place → (g.C.Claims.range_of l.claims (slice_index l.words k)).0 ≤ l.greatest)
