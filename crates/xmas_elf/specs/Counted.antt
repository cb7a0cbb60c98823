-- The number of natural numbers with a property (this project's own).
use Rattle.std.specs.Prelude.{◌≡◌, ◌↔◌, ℕ, IsTrue, List, length, nat_eq}
use Rattle.std.specs.List.{IsDistinct, list_any}

-- n numbers have the property: a list contains each of them once, and no others
pub record IsCount (Q : ℕ → Type 0) (n : ℕ) : Type 0 where
  pub list : List ℕ
  pub once : IsDistinct nat_eq list
  pub each : (i : ℕ) → IsTrue (list_any (nat_eq i) list) ↔ Q i
  pub many : length list ≡ n
