use Rattle.std.proofs.Common.{◌≡◌, ◌<◌, ℕ, false}
use Rattle.elf_addresses.specs.Owner.{is_claim_behind}
use Rattle.elf_addresses.proofs.owner.begins_behind.Given as goal

abbrev pub invariant-loop-index : goal.invariant-loop-index
invariant-loop-index g l = (i : ℕ) → i < l.index → is_claim_behind (g.C.Claims.claim_of l.claims i) l.byte ≡ false
