-- The order in which objects are loaded: breadth first (glibc, `_dl_map_object_deps`). How it is kept in words is this
-- project's own.
use Rattle.std.specs.Prelude.{◌≡◌, ◌≢◌, ◌⊎◌, ℕ, ◌+◌, ◌*◌, ◌<◌, ◌≤◌, ◌==◌, List, slice_index, if◌then◌else◌}
use Rattle.elf_search.specs.declared.order.TheConstants.{NO_OBJECT}

-- entry p is the first that found an object; the entries of all objects are in one row, by (place of the object, entry)
pub record IsFirst (edges : List ℕ) (answered object p : ℕ) : Type 0 where
  pub within : p < answered
  pub found : slice_index edges p ≡ object
  pub earlier : (q : ℕ) → q < p → slice_index edges q ≢ object

-- each entry up to `answered` found one of the objects or none, and each object but 0 is in the list once, by the
-- first entry that found it
pub record IsLoadOrder (edges : List ℕ) (answered count : ℕ) : Type 0 where
  pub each : (p : ℕ) → p < answered → (slice_index edges p ≡ NO_OBJECT) ⊎ (slice_index edges p < count)
  pub asked : (object : ℕ) → 0 < object → object < count → (p : ℕ) × IsFirst edges answered object p
  pub rising : (one other p q : ℕ) → 0 < one → one < other → other < count → IsFirst edges answered one p → IsFirst edges answered other q → p < q

-- the place of the words of an object's entries
abbrev pub start_of : List ℕ → ℕ → ℕ
start_of objects k = slice_index objects (4 * k)

-- the end of these words: where those of the next object begin
abbrev pub end_of : List ℕ → ℕ → ℕ → ℕ → ℕ
end_of objects count used k = if k + 1 == count then used else start_of objects (k + 1)

-- the entries of object `current` are asked for, in the words from `start` to `end`, and the words of all objects before it
-- say what was found, so that the words up to `place` are a load order
pub record IsPlain (objects edges : List ℕ) (count used current start place end : ℕ) : Type 0 where
  pub rising : (k : ℕ) → k + 1 < count → start_of objects k ≤ start_of objects (k + 1)
  pub below : (k : ℕ) → k < count → start_of objects k ≤ used
  pub begins : start ≡ start_of objects current
  pub ends : end ≡ end_of objects count used current
  pub loads : IsLoadOrder edges place count
