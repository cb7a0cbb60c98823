-- The difference of the parts of two files, as rows of numbers (this project's own).
use Rattle.std.specs.Prelude.{◌≡◌, ◌<◌, ◌≤◌, ℕ, ◌+◌, ◌==◌, List, length, map, slice_get, slice_index_or, take, Some, Result, Ok, Err, if◌then◌else◌}
use Rattle.std.specs.List.{AllZip}
use Rattle.std.specs.List.Sorted.{IsPermutation}
use Rattle.std.specs.declared.cmp.Ordering.{Ordering}
use Rattle.elf_addresses.specs.Differences.{AreDifferences, change_order}
use Rattle.elf_addresses.specs.declared.difference.Change.{Change}
use Rattle.elf_addresses.specs.declared.difference.Change.TheVariants.{Both, Gone, New}
use Rattle.elf_addresses.specs.declared.difference.SizedPart.{SizedPart}
use Rattle.elf_addresses.specs.declared.error.IndexError.TheVariants.{FewWords}
use Rattle.elf_c.specs.declared.size_changes.SizeChange.{SizeChange}
use Rattle.elf_c.specs.declared.size_changes.SizePart.{SizePart}
use Rattle.elf_c.specs.declared.size_changes.TheConstants.{BOTH, GONE, NEW}
use Rattle.elf_c.specs.declared.status.AnyError.{AnyError}
use Rattle.elf_c.specs.declared.status.AnyError.TheVariants.{Index}

-- a part as the library has it
abbrev pub sized : SizePart → SizedPart
sized part = record { kind = part.kind; name = part.name; place = part.place; size = part.size }

-- the row of a change of the parts at two indices
abbrev pub row_of : Change → ℕ → ℕ → SizeChange
row_of (Gone old) first second = record { old_index = first; new_index = 0; old_size = old.size; new_size = 0; files = GONE }
row_of (New new) first second = record { old_index = 0; new_index = second; old_size = 0; new_size = new.size; files = NEW }
row_of (Both old new) first second = record { old_index = first; new_index = second; old_size = old.size; new_size = new.size; files = BOTH }

-- the change of a row, for the sorted lists of both files; the third part is for one that is missing
abbrev pub change_at : List SizePart → List SizePart → SizedPart → SizeChange → Change
change_at old new none row =
    if row.files == GONE then Gone (slice_index_or (map sized old) row.old_index none)
    else (if row.files == NEW then New (slice_index_or (map sized new) row.new_index none)
    else Both (slice_index_or (map sized old) row.old_index none) (slice_index_or (map sized new) row.new_index none))

-- the order of rows by their changes
abbrev pub row_change_order : List SizePart → List SizePart → SizedPart → SizeChange → SizeChange → Ordering
row_change_order old new none one other = change_order (change_at old new none one) (change_at old new none other)

-- a row has the sizes of a change, and the index of each of its parts in the sorted list of its file
abbrev pub IsRow : List SizePart → List SizePart → Change → SizeChange → Type 0
IsRow old new (Gone part) row = (row ≡ row_of (Gone part) row.old_index 0) × (slice_get (map sized old) row.old_index ≡ Some part)
IsRow old new (New part) row = (row ≡ row_of (New part) 0 row.new_index) × (slice_get (map sized new) row.new_index ≡ Some part)
IsRow old new (Both one other) row = (row ≡ row_of (Both one other) row.old_index row.new_index)
    × (slice_get (map sized old) row.old_index ≡ Some one) × (slice_get (map sized new) row.new_index ≡ Some other)

-- a row is that of its change
abbrev pub IsOwnRow : List SizePart → List SizePart → SizedPart → SizeChange → Type 0
IsOwnRow old new none row = IsRow old new (change_at old new none row) row

-- both lists were sorted, and so many rows are the differences of their parts, the greatest first
pub record ListsChanges (old new old_sorted new_sorted : List SizePart) (rows : List SizeChange) (count : ℕ) : Type 0 where
  pub old_moved : IsPermutation old old_sorted
  pub new_moved : IsPermutation new new_sorted
  pub changes : List Change
  pub are_changes : AreDifferences (map sized old) (map sized new) changes
  pub each : AllZip (IsRow old_sorted new_sorted) changes (take count rows)
  pub within : count ≤ length rows

-- the result of the call: the number of the rows; without room for one for each part an error, and all is as it was
abbrev pub AreChanged : List SizePart → List SizePart → List SizeChange → List SizePart → List SizePart → List SizeChange → Result ℕ AnyError → Type 0
AreChanged old new rows old_new new_new rows_new (Ok count) =
    (length old + length new ≤ length rows) × ListsChanges old new old_new new_new rows_new count
AreChanged old new rows old_new new_new rows_new (Err why) = (length rows < length old + length new)
    × (why ≡ Index FewWords) × (old_new ≡ old) × (new_new ≡ new) × (rows_new ≡ rows)
