-- An index of the claims of a table, in words, and when it is well built (this project's own).
use Rattle.std.specs.Prelude.{◌≡◌, ◌≤◌, ◌<◌, ℕ, ◌+◌, ◌-◌, ◌++◌, max, bit_and, Bool, true, false, ◌==◌, ◌&&◌, ◌||◌, not, zero, suc, List, [], ◌∷◌, length, take, drop, slice_index, Option, None, Some, if◌then◌else◌}
use Rattle.elf_addresses.specs.Claims.{Among, comes_before, less_or}
use Rattle.elf_addresses.specs.declared.claim.Claim.{Claim}

-- a claim is open, or it is sized
abbrev pub IsKind : Bool → Claim → Type 0
IsKind is_open claim = (claim.size == 0) ≡ is_open

-- the claim is the one at the index that the word at a place is
abbrev pub IsFoundAt : (ℕ → Option Claim) → List ℕ → ℕ → Claim → Type 0
IsFoundAt claim_of words place claim = (place < length words) × (claim_of (slice_index words place) ≡ Some claim)

-- the claim is the one known at the word at a place
pub record IsKnownIn (known_of : ℕ → Claim) (words : List ℕ) (claim : Claim) : Type 0 where
  pub place : ℕ
  pub within : place < length words
  pub known : known_of (slice_index words place) ≡ claim

-- the number is the word at a place where the range of a first address and a size has an address
pub record SpansOver (words begins sizes : List ℕ) (address index : ℕ) : Type 0 where
  pub place : ℕ
  pub within : place < length words
  pub is : slice_index words place ≡ index
  pub begun : slice_index begins place ≤ address
  pub ends : address < slice_index begins place + max (slice_index sizes place) 1

-- the word at a place is the index of an open claim, or of a sized one
abbrev pub IsWord : (ℕ → Option Claim) → Bool → List ℕ → ℕ → Type 0
IsWord claim_of is_open words place = (claim : Claim) × IsFoundAt claim_of words place claim × IsKind is_open claim

-- the words are the indices of the open claims, or of the sized ones: each is there, and the one that is further in is
-- later
pub record IsWorstFirst (claim_of : ℕ → Option Claim) (is_open : Bool) (words : List ℕ) : Type 0 where
  pub each : (place : ℕ) → place < length words → IsWord claim_of is_open words place
  pub all : (claim : Claim) → Among claim_of (IsKind is_open) claim → (place : ℕ) × IsFoundAt claim_of words place claim
  pub order : (j k : ℕ) (c d : Claim) → j < k → IsFoundAt claim_of words j c → IsFoundAt claim_of words k d → comes_before d c ≡ true

-- no number is greater than a later one
abbrev pub IsRising : List ℕ → Type 0
IsRising numbers = (j k : ℕ) → j ≤ k → k < length numbers → slice_index numbers j ≤ slice_index numbers k

-- beside words, the first addresses and the sizes at their indices
pub record AreRanges (range_of : ℕ → ℕ × ℕ) (words begins sizes : List ℕ) : Type 0 where
  pub begin_count : length begins ≡ length words
  pub size_count : length sizes ≡ length words
  pub begin_at : (place : ℕ) → place < length words → slice_index begins place ≡ (range_of (slice_index words place)).0
  pub size_at : (place : ℕ) → place < length words → slice_index sizes place ≡ (range_of (slice_index words place)).1

-- none of the ranges from a place on has an address
abbrev pub NoneCovers : List ℕ → List ℕ → ℕ → ℕ → Type 0
NoneCovers begins sizes from address = (j : ℕ) → from ≤ j → j < length begins → slice_index begins j ≤ address → address < slice_index begins j + max (slice_index sizes j) 1 → ⊥

-- the first address after the range at a place, by the first address and the size at an index
abbrev pub end_at : (ℕ → ℕ × ℕ) → List ℕ → ℕ → ℕ
end_at range_of words place = let range = range_of (slice_index words place) in range.0 + max range.1 1

-- a place is in the block that ends before k: the block begins at k without its lowest bit that is 1
abbrev pub InBlock : ℕ → ℕ → Type 0
InBlock k place = (bit_and k (k - 1) ≤ place) × (place < k)

-- the first address after the range at a place, by the first addresses and the sizes at the places
abbrev pub number_end : List ℕ → List ℕ → ℕ → ℕ
number_end begins sizes place = slice_index begins place + max (slice_index sizes place) 1

-- a place of the block that ends before k, and no place of the block has a range that ends later
pub record OutlastsBlock (ends : ℕ → ℕ) (k place : ℕ) : Type 0 where
  pub inside : InBlock k place
  pub last : (j : ℕ) → InBlock k j → ends j ≤ ends place

-- for each of `places` places, by the ends of their ranges, the place in the block up to it whose range ends last
pub record LastInBlocks (ends : ℕ → ℕ) (places : ℕ) (lasting : List ℕ) : Type 0 where
  pub count : length lasting ≡ places
  pub each : (place : ℕ) → place < places → OutlastsBlock ends (place + 1) (slice_index lasting place)

-- the same for each place of words, by the ranges at their indices
abbrev pub AreLasting : (ℕ → ℕ × ℕ) → List ℕ → List ℕ → Type 0
AreLasting range_of words lasting = LastInBlocks (end_at range_of words) (length words) lasting

-- the sized claims in order, the places in each block whose ranges end last, and the open claims in order
pub record IsWellBuilt (claim_of : ℕ → Option Claim) (range_of : ℕ → ℕ × ℕ) (sized begins sizes lasting starts : List ℕ) : Type 0 where
  pub order : IsWorstFirst claim_of false sized
  pub ranges : AreRanges range_of sized begins sizes
  pub blocks : AreLasting range_of sized lasting
  pub rest : IsWorstFirst claim_of true starts

-- whether there is a claim, and it is open or sized as is asked
abbrev pub is_kind : Bool → Option Claim → Bool
is_kind is_open None = false
is_kind is_open (Some claim) = if is_open then claim.size == 0 else not (claim.size == 0)

-- the indices below n of the open claims, or of the sized ones
abbrev pub listed : (ℕ → Option Claim) → Bool → ℕ → List ℕ
listed claim_of is_open zero = []
listed claim_of is_open (suc n) = listed claim_of is_open n ++ (if is_kind is_open (claim_of n) then n ∷ [] else [])

-- the number of words that an index takes: two for each sized claim, and one for each open one
abbrev pub word_count : (ℕ → Option Claim) → ℕ → ℕ
word_count claim_of count = length (listed claim_of false count) + length (listed claim_of false count) + length (listed claim_of true count)

-- the number of numbers that an index takes: two for each sized claim
abbrev pub number_count : (ℕ → Option Claim) → ℕ → ℕ
number_count claim_of count = length (listed claim_of false count) + length (listed claim_of false count)

-- words and numbers begin with a well built index: the sized claims, as many places, and the open claims; the first
-- addresses and the sizes
abbrev pub IsBuilt : (ℕ → Option Claim) → (ℕ → ℕ × ℕ) → ℕ → List ℕ → List ℕ → Type 0
IsBuilt claim_of range_of count words numbers =
    let sized = length (listed claim_of false count) in
    IsWellBuilt claim_of range_of (take sized words) (take sized numbers) (take sized (drop sized numbers))
    (take sized (drop sized words)) (take (length (listed claim_of true count)) (drop sized (drop sized words)))

-- another claim is further in than a claim; no claim comes first
abbrev pub is_behind : Option Claim → Option Claim → Bool
is_behind None None = false
is_behind None (Some other) = true
is_behind (Some one) None = false
is_behind (Some one) (Some other) = comes_before other one

-- the order by which words are sorted: by the first addresses at two indices, then by their claims
abbrev pub is_worse : (ℕ → Option Claim) → (ℕ → ℕ × ℕ) → ℕ → ℕ → Bool
is_worse claim_of range_of one other = less_or (range_of one).0 (range_of other).0 (is_behind (claim_of one) (claim_of other))

-- the word at a place is the index of a claim of the kind, and it is further in than the claim of the word before it
abbrev pub in_order_at : (ℕ → Option Claim) → Bool → List ℕ → ℕ → Bool
in_order_at claim_of is_open words place =
    is_kind is_open (claim_of (slice_index words place))
    && (place == 0 || is_behind (claim_of (slice_index words (place - 1))) (claim_of (slice_index words place)))
