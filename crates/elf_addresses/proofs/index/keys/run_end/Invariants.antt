use Rattle.std.proofs.Common.{◌≡◌, ℕ, ◌<◌, ◌≤◌, ◌-◌, ◌/◌, ◌^◌, length, slice_index}
use Rattle.elf_addresses.proofs.index.keys.run_end.Given as goal

abbrev pub invariant-loop-end : goal.invariant-loop-end
invariant-loop-end l =
    (l.start < l.end) × (l.end ≤ length l.keys)
    × ((k : ℕ) → l.start ≤ k → k < l.end → slice_index l.keys k / 2 ^ 32 ≡ l.begin)

abbrev pub decreases-loop-end : goal.decreases-loop-end
decreases-loop-end l = length l.keys - l.end
