-- The result of an export: a status, and a record that is filled if the status is 0 (this project's own). The
-- numbers of the errors are stable: a new error gets a new number.
use Rattle.std.specs.Prelude.{◌≡◌, ℕ, List, codes, Result, Ok, Err}
use Rattle.elf_base.specs.Message.{error_number, row_of}
use Rattle.elf_base.specs.declared.error.ElfError.{ElfError}
use Rattle.elf_addresses.specs.Message.{index_row}
use Rattle.elf_linking.specs.Message.{link_row}
use Rattle.elf_loading.specs.Message.{load_row}
use Rattle.elf_search.specs.Message.{search_row}
use Rattle.elf_c.specs.declared.status.AnyError.{AnyError}
use Rattle.elf_c.specs.declared.status.AnyError.TheVariants.{Elf, Index, Link, Load, ManyObjects, NoBuildId, NoRecord, NotFound, OtherBuildId, OtherChecksum, OtherData, Search}

-- the number and the text of an error of an export
abbrev pub failure_row : AnyError → ℕ × List ℕ
failure_row (Elf error) = row_of error
failure_row (Link error) = link_row error
failure_row (Load error) = load_row error
failure_row (Index error) = index_row error
failure_row (Search error) = search_row error
failure_row OtherData = (201, codes "A section holds other data than what is asked for")
failure_row NoRecord = (202, codes "A table has no record with this index")
failure_row NotFound = (203, codes "Nothing has this name")
failure_row ManyObjects = (204, codes "There are more than 64 objects")
failure_row NoBuildId = (211, codes "A debug file has no build id")
failure_row OtherBuildId = (212, codes "A debug file has another build id")
failure_row OtherChecksum = (213, codes "A debug file has another CRC")

-- the number of an error of an export
abbrev pub failure_number : AnyError → ℕ
failure_number failure = (failure_row failure).0

-- the text of an error of an export
abbrev pub failure_message : AnyError → List ℕ
failure_message failure = (failure_row failure).1

-- the rest of an export after a call of the library that returned no error
abbrev pub and_so : {A B : Type 0} → Result A ElfError → (A → Result B AnyError) → Result B AnyError
and_so (Ok value) next = next value
and_so (Err error) next = Err (Elf error)

-- the status and the record after a call with this result: the value, or the unchanged record
abbrev pub GivesBy : {T E : Type 0} → (E → ℕ) → Result T E → T → ℕ → T → Type 0
GivesBy number_of (Ok value) old status new = (status ≡ 0) × (new ≡ value)
GivesBy number_of (Err error) old status new = (status ≡ number_of error) × (new ≡ old)

-- the same for a call whose errors are those of the library
abbrev pub Gives : {T : Type 0} → Result T ElfError → T → ℕ → T → Type 0
Gives answer old status new = GivesBy error_number answer old status new

-- the same for a call whose errors are those of an export
abbrev pub GivesHere : {T : Type 0} → Result T AnyError → T → ℕ → T → Type 0
GivesHere answer old status new = GivesBy failure_number answer old status new
