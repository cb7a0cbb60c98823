use Rattle.std.proofs.Common.{◌≡◌, ◌<◌, ℕ, false, true}
use Rattle.elf_addresses.specs.Index.{in_order_at}
use Rattle.elf_addresses.proofs.section_counts.are_in_order.Given as goal

-- the words so far are in order
abbrev pub invariant-loop-place : goal.invariant-loop-place
invariant-loop-place g l = (k : ℕ) → k < l.place → in_order_at (g.C.Claims.claim_of l.claims) false l.words k ≡ true
