use Rattle.std.proofs.Common.{◌≡◌, ℕ, ◌<◌, length, slice_index}
use Rattle.elf_addresses.specs.Keys.{IsKey, key_index}
use Rattle.elf_addresses.proofs.index.keys.write_keys.Given as goal

abbrev pub invariant-loop-place : goal.invariant-loop-place
invariant-loop-place g l =
    (length l.keys ≡ length l.words)
    × ((k : ℕ) → k < l.place → key_index (slice_index l.keys k) ≡ slice_index l.words k)
    × ((k : ℕ) → k < l.place → IsKey (g.C.Claims.range_of l.claims) l.least (slice_index l.keys k))
