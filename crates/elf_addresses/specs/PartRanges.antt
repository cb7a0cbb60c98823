-- The claim of a part has its index and its range, and is not empty (this project's own).
use Rattle.std.proofs.Common.{◌≡◌, ℕ, ◌<◌, ◌==◌, Bool, true, false, List, length, Option, None, Some, slice_get, refl, ap, sym, if◌then◌else◌}
use Rattle.std.proofs.lemmas.Option.{none-some, same_Some, slice_get_within}
use Rattle.elf_addresses.specs.FileClaims.{claim_with, part_range, range_claim}
use Rattle.elf_addresses.specs.declared.claim.Claim.{Claim}

-- what is there if a condition fails, and that it fails
pub unless_some : (b : Bool) (one claim : Claim) → ◌≡◌ {A = Option Claim} (if b then None else Some one) (Some claim) → (b ≡ false) × (one ≡ claim)
unless_some true one claim is = absurd (none-some claim is)
unless_some false one claim is = (refl, same_Some one claim is)

-- a claim is that of its range
pub range_known : (index : ℕ) (range : ℕ × ℕ) (claim : Claim) → range_claim index range ≡ Some claim → claim_with index range ≡ claim
range_known index range claim is = (unless_some (range.1 == 0) (claim_with index range) claim is).1

-- a claim has the index that it is made for
pub range_index : (index : ℕ) (range : ℕ × ℕ) (claim : Claim) → range_claim index range ≡ Some claim → claim.index ≡ index
range_index index range claim is = ap (λ (k : Claim). k.index) (sym (unless_some (range.1 == 0) (record { begin = range.0; size = range.1; extent = range.1; rank = 0; index = index }) claim is).1)

-- and its range
pub range_range : (index : ℕ) (range : ℕ × ℕ) (claim : Claim) → range_claim index range ≡ Some claim → range ≡ (claim.begin, claim.size)
range_range index range claim is = ap (λ (k : Claim). (k.begin, k.size)) (unless_some (range.1 == 0) (record { begin = range.0; size = range.1; extent = range.1; rank = 0; index = index }) claim is).1

-- an index with a claim is one of the parts
pub range_within : {H : Type 0} (range : H → ℕ × ℕ) (n : ℕ) (parts : List H) (index : ℕ) (claim : Claim) → range_claim index (part_range range n parts index) ≡ Some claim → index < length parts
range_within {H} range n parts index claim is = there (slice_get parts index) refl is
  where
    there : (found : Option H) → slice_get parts index ≡ found → range_claim index (part_range range n parts index) ≡ Some claim → index < length parts
    there None at has = absurd (none-some claim (cc))
    there (Some part) at has = slice_get_within parts index part at
