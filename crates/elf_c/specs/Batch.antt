-- Many records in one call (this project's own).
use Rattle.std.specs.Prelude.{◌≡◌, ◌<◌, ◌≤◌, ◌+◌, ◌⊎◌, ℕ, List, length, slice_get, Result, Ok, Err}
use Rattle.elf_c.specs.Records.{record_in}
use Rattle.elf_c.specs.Status.{GivesHere}
use Rattle.elf_c.specs.declared.status.AnyError.{AnyError}
use Rattle.elf_c.specs.declared.status.AnyError.TheVariants.{NoRecord}

-- `count` records from index `first` on were stored at the front of `old`, which is then `new`: as many as
-- there is room for, or all. `item` is the record at an index, or why there is none.
pub record IsBatch {T : Type 0} (item : ℕ → Result T AnyError) (first : ℕ) (old : List T) (count : ℕ) (new : List T) : Type 0 where
  pub long : length new ≡ length old
  pub fits : count ≤ length old
  pub each : (k : ℕ) → k < count → record_in (λ x. x) new k ≡ item (first + k)
  pub rest : (k : ℕ) → count ≤ k → slice_get new k ≡ slice_get old k
  pub full : (count ≡ length old) ⊎ (item (first + count) ≡ Err NoRecord)

-- the result of a call for many records, by the record at `first`: if there is none, the error for it, and nothing
-- is stored
abbrev pub FillsBy : {T : Type 0} → (ℕ → Result T AnyError) → ℕ → List T → Result T AnyError → Result ℕ AnyError → List T → Type 0
FillsBy item first old (Err why) (Err error) new = (error ≡ why) × (new ≡ old)
FillsBy item first old (Ok _) (Ok count) new = IsBatch item first old count new
FillsBy item first old _ _ new = ⊥

-- the result of a call for many records
abbrev pub Fills : {T : Type 0} → (ℕ → Result T AnyError) → ℕ → List T → Result ℕ AnyError → List T → Type 0
Fills item first old answer new = FillsBy item first old (item first) answer new

-- the result of an export for many records: a status, and their number, which is stored if the status is 0
abbrev pub Stores : {T : Type 0} → (ℕ → Result T AnyError) → ℕ → List T → List T → ℕ → ℕ → ℕ → Type 0
Stores item first old new count status stored = (answer : Result ℕ AnyError)
    × Fills item first old answer new × GivesHere answer count status stored
