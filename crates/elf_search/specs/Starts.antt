-- The order in which objects start (glibc, `_dl_sort_maps`): depth first over the edges, from the last object to the first.
use Rattle.std.specs.Prelude.{◌≡◌, ◌≢◌, ◌⊎◌, ℕ, zero, suc, ◌+◌, ◌<◌, ◌≤◌, ◌==◌, not, nat_lt, Bool, true, false, List, [], ◌∷◌, ◌++◌, slice_index, length, if◌then◌else◌, eqb}
use Rattle.std.specs.List.{list_any}
use Rattle.elf_search.specs.Order.{before_of, edges_of, last_of}
use Rattle.elf_search.specs.declared.order.Order.{Order}
use Rattle.elf_search.specs.declared.order.TheConstants.{NO_OBJECT}

-- the object is marked
abbrev pub is_marked : List ℕ → ℕ → Bool
is_marked marked k = list_any (eqb k) marked

-- objects are visited one after another, of `count` objects, some of which are marked: each that is not yet marked is
-- marked, the ends of its edges are visited, and it is written down. The lists of those that are marked, and of those that
-- are written, before and after
pub data Visits (edges : ℕ → List ℕ) (count : ℕ) : List ℕ → List ℕ → List ℕ → List ℕ → List ℕ → Type 0 where
  done : (marked written : List ℕ) → Visits edges count [] marked written marked written
  pass : (k : ℕ) (ks m w m2 w2 : List ℕ) → (count ≤ k) ⊎ (is_marked m k ≡ true) → Visits edges count ks m w m2 w2 → Visits edges count (k ∷ ks) m w m2 w2
  visit : (k : ℕ) (ks m w m1 w1 m2 w2 : List ℕ) → k < count → is_marked m k ≡ false
      → Visits edges count (edges k) (k ∷ m) w m1 w1 → Visits edges count ks m1 (w1 ++ k ∷ []) m2 w2 → Visits edges count (k ∷ ks) m w m2 w2

-- the list from an object back to its first, at most n objects
abbrev pub back_from : (ℕ → ℕ) → ℕ → ℕ → ℕ → List ℕ
back_from before count zero k = []
back_from before count (suc n) k = if nat_lt k count then k ∷ back_from before count n (before k) else []

-- the objects in the order in which they start: all of the list, from the last to the first, are visited, and the program is
-- marked before
pub record Starts (order : Order) (written : List ℕ) : Type 0 where
  pub marked : List ℕ
  pub visits : Visits (edges_of order) order.count (back_from (before_of order) order.count order.count (last_of order)) (0 ∷ []) [] marked written

-- one object needs another: itself, or what an object that it needs has an edge to, other than the program
pub data Needs (edges : ℕ → List ℕ) (one : ℕ) : ℕ → Type 0 where
  itself : Needs edges one one
  through : (k other : ℕ) → Needs edges one k → is_marked (edges k) other ≡ true → other ≢ 0 → Needs edges one other

-- in a list one object is before another
pub record IsBefore (list : List ℕ) (one other : ℕ) : Type 0 where
  pub front : List ℕ
  pub back : List ℕ
  pub parts : list ≡ front ++ other ∷ back
  pub in_front : is_marked front one ≡ true

-- each object that is written comes after those that its entries found, but for the program and those that need it
abbrev pub NeedsFirst : Order → List ℕ → Type 0
NeedsFirst order written = (k other : ℕ) → is_marked written k ≡ true → is_marked (edges_of order k) other ≡ true
    → other < order.count → other ≢ 0 → (Needs (edges_of order) other k → ⊥) → IsBefore written other k

-- words of objects say which of them are marked: those whose word is not `NO_OBJECT`
abbrev pub HasMarks : ℕ → List ℕ → List ℕ → Type 0
HasMarks count cursors marked = (k : ℕ) → k < count → is_marked marked k ≡ not (slice_index cursors k == NO_OBJECT)

-- the elements differ
abbrev pub Differ : List ℕ → Type 0
Differ [] = Unit {0}
Differ (k ∷ ks) = (is_marked ks k ≡ false) × Differ ks

-- the state between two visits: the marked objects are the program and those written
pub record IsBetween (count : ℕ) (cursors marked : List ℕ) (number : ℕ) : Type 0 where
  pub marks : HasMarks count cursors marked
  pub differ : Differ marked
  pub below : (k : ℕ) → is_marked marked k ≡ true → k < count
  pub size : length marked ≡ number + 1

-- what a visit of an object comes to, whatever is visited after it
abbrev pub Continues : (ℕ → List ℕ) → ℕ → ℕ → List ℕ → List ℕ → List ℕ → List ℕ → Type 0
Continues edges count root m0 w0 m2 w2 = (ks m3 w3 : List ℕ) → Visits edges count ks m2 w2 m3 w3 → Visits edges count (root ∷ ks) m0 w0 m3 w3
