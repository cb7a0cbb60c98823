-- What the words of an index are, place by place: the same as `IsWellBuilt`, in the form that a struct holds of its
-- words (this project's own).
use Rattle.std.specs.Prelude.{◌≡◌, ◌≤◌, ◌<◌, ℕ, ◌+◌, Bool, true, false, List, length, slice_index, Option}
use Rattle.elf_addresses.specs.Index.{InBlock, end_at, in_order_at, listed}
use Rattle.elf_addresses.specs.declared.claim.Claim.{Claim}

-- there are as many words as open claims, or sized ones, below `count`, and each is in order
abbrev pub InOrder : (ℕ → Option Claim) → Bool → ℕ → List ℕ → Type 0
InOrder claim_of is_open count words = (length words ≡ length (listed claim_of is_open count))
    × ((place : ℕ) → place < length words → in_order_at claim_of is_open words place ≡ true)

-- for each place there is one of the block up to it whose range ends last
abbrev pub InBlocks : (ℕ → ℕ × ℕ) → List ℕ → List ℕ → Type 0
InBlocks range_of words lasting = (length lasting ≡ length words)
    × ((place : ℕ) → place < length words → InBlock (place + 1) (slice_index lasting place)
    × ((j : ℕ) → InBlock (place + 1) j → end_at range_of words j ≤ end_at range_of words (slice_index lasting place)))

-- beside the words, the first addresses and the sizes at their indices
abbrev pub InRanges : (ℕ → ℕ × ℕ) → List ℕ → List ℕ → List ℕ → Type 0
InRanges range_of words begins sizes = (length begins ≡ length words) × (length sizes ≡ length words)
    × ((place : ℕ) → place < length words → slice_index begins place ≡ (range_of (slice_index words place)).0)
    × ((place : ℕ) → place < length words → slice_index sizes place ≡ (range_of (slice_index words place)).1)

-- the five parts of an index
abbrev pub IsHeld : (ℕ → Option Claim) → (ℕ → ℕ × ℕ) → ℕ → List ℕ → List ℕ → List ℕ → List ℕ → List ℕ → Type 0
IsHeld claim_of range_of count sized begins sizes lasting starts =
    InOrder claim_of false count sized × InRanges range_of sized begins sizes × InBlocks range_of sized lasting
    × InOrder claim_of true count starts
