-- The first item of a list with a property, as `position` and `find` of std return it (this project's own).
use Rattle.std.specs.Prelude.{◌≡◌, ◌<◌, ℕ, List, Option, MatchOption, length}
use Rattle.std.specs.List.{AllWithin, HoldsAt}

-- no item below position `high` has the property
abbrev pub NoneBelow : {A : Type 0} → (A → Type 0) → List A → ℕ → Type 0
NoneBelow P items high = AllWithin (λ item. ¬ P item) items 0 high

-- the item at position i has the property, and none before it does
abbrev pub IsFirstAt : {A : Type 0} → (A → Type 0) → List A → ℕ → Type 0
IsFirstAt P items i = (i < length items) × HoldsAt P items i × NoneBelow P items i

-- the item is in the list and has the property, and none before it does
abbrev pub IsFirst : {A : Type 0} → (A → Type 0) → List A → A → Type 0
IsFirst P items first = P first
    × ((i : ℕ) × (i < length items) × HoldsAt (λ item. item ≡ first) items i × NoneBelow P items i)

-- the result of a search for the first item with the property: that item, or `None` if no item has it
abbrev pub FindsFirst : {A : Type 0} → (A → Type 0) → List A → Option A → Type 0
FindsFirst P items found = MatchOption found (NoneBelow P items (length items)) (IsFirst P items)

-- the result of a search for the position of the first item with the property
abbrev pub FindsFirstAt : {A : Type 0} → (A → Type 0) → List A → Option ℕ → Type 0
FindsFirstAt P items found = MatchOption found (NoneBelow P items (length items)) (IsFirstAt P items)
