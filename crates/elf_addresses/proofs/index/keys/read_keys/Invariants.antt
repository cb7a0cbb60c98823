use Rattle.std.proofs.Common.{◌≡◌, ℕ, ◌<◌, length, slice_index}
use Rattle.elf_addresses.specs.Keys.{key_index}
use Rattle.elf_addresses.proofs.index.keys.read_keys.Given as goal

abbrev pub invariant-loop-place : goal.invariant-loop-place
invariant-loop-place l =
    (length l.words ≡ length l.keys) × ((k : ℕ) → k < l.place → slice_index l.words k ≡ key_index (slice_index l.keys k))
