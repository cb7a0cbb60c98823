-- Sums over a list all of whose items must have something, as string tables must have their bytes (this
-- project's own: the sum ends at the greatest number of 64 bits).
use Rattle.std.specs.Prelude.{◌≡◌, ◌-◌, ◌^◌, ◌++◌, ◌∷◌, ℕ, All, List, min}
use Rattle.std.specs.List.{sum_by}

-- each item has what it must have, and their sizes come to the total, or that is the greatest number
pub record IsTotal {X : Type 0} (Has : X → Type 0) (size : X → ℕ) (items : List X) (total : ℕ) : Type 0 where
  pub all : All Has items
  pub sum : total ≡ min (sum_by size items) (2 ^ 64 - 1)

-- the first item that lacks it
pub record IsFirstWithout {X : Type 0} (Has : X → Type 0) (items : List X) (item : X) : Type 0 where
  pub earlier : List X
  pub others : List X
  pub split : items ≡ earlier ++ item ∷ others
  pub have : All Has earlier
  pub lacks : ¬ Has item
