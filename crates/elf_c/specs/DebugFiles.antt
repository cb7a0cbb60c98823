-- At which paths the debug file of a file may be, and which file it is, as numbers (gdb's manual, "Separate Debug Files").
use Rattle.std.specs.Prelude.{◌≡◌, ℕ, ◌-◌, ◌^◌, ◌==◌, List, length, min, slice_get, IfSome, IsSomeAnd, Option, None, Some, Result, Ok, Err, if◌then◌else◌, option_map}
use Rattle.elf_debug.specs.Paths.{Way, all_paths}
use Rattle.elf_debug.specs.Wanted.{checked, own_id}
use Rattle.elf_debug.specs.declared.paths.DebugHow.{DebugHow}
use Rattle.elf_debug.specs.declared.paths.DebugHow.TheVariants.{BuildId, Directory, Folder, Subfolder}
use Rattle.elf_debug.specs.declared.wanted.DebugMismatch.{DebugMismatch}
use Rattle.elf_debug.specs.declared.wanted.DebugMismatch.TheVariants as mismatch
use Rattle.elf_debug.specs.declared.wanted.DebugWanted.{DebugWanted}
use Rattle.xmas_elf.specs.Link.{IsDebugLink}
use Rattle.xmas_elf.specs.Types.{ElfFile}
use Rattle.elf_c.specs.Pieces.{IsRows}
use Rattle.elf_c.specs.Records.{record_in}
use Rattle.elf_c.specs.declared.debug_files.DebugCandidate.{DebugCandidate}
use Rattle.elf_c.specs.declared.debug_files.TheConstants.{BY_BUILD_ID, IN_DIRECTORY, IN_FOLDER, IN_SUBFOLDER}
use Rattle.elf_c.specs.declared.status.AnyError.{AnyError}
use Rattle.elf_c.specs.declared.status.AnyError.TheVariants.{NoBuildId, OtherBuildId, OtherChecksum}

-- the number of a way
abbrev pub how_number : DebugHow → ℕ
how_number BuildId = BY_BUILD_ID
how_number Folder = IN_FOLDER
how_number Subfolder = IN_SUBFOLDER
how_number Directory = IN_DIRECTORY

-- the way with a number
abbrev pub how_of : ℕ → DebugHow
how_of number = if number == BY_BUILD_ID then BuildId else (if number == IN_FOLDER then Folder
    else (if number == IN_SUBFOLDER then Subfolder else Directory))

-- what a file says about its debug file: its build id, and the name and the checksum in its link, if it has one
pub record IsSaid (file : ElfFile) (wanted : DebugWanted) : Type 0 where
  pub id : wanted.build_id ≡ own_id file
  pub link : IfSome wanted.link (λ link. IsDebugLink file link.0.now link.1)
  pub only : (text : List ℕ) (crc : ℕ) → IsDebugLink file text crc → IsSomeAnd wanted.link (λ link. (link.0.now ≡ text) × (link.1 ≡ crc))

-- the paths at which it may be, if the file is at this path
abbrev pub ways_of : DebugWanted → List ℕ → List ℕ → List Way
ways_of wanted path directory = all_paths (option_map (λ id. id.now) wanted.build_id) (option_map (λ link. link.0.now) wanted.link) path directory

-- the most that a number of 64 bits is
abbrev pub MOST : ℕ
MOST = 2 ^ 64 - 1

-- the numbers of a path
abbrev pub candidate_of : Way → DebugCandidate
candidate_of way = record { size = min (length way.1) MOST; how = how_number way.0 }

-- the path is written to the front of a text, as much of it as fits; if there is none, nothing
abbrev pub IsWritten : Option Way → List ℕ → List ℕ → Type 0
IsWritten None old new = new ≡ old
IsWritten (Some way) old new = IsRows way.1 0 old new

-- the result of the call for the path at an index
abbrev pub IsCandidate : ElfFile → List ℕ → List ℕ → ℕ → List ℕ → List ℕ → Result DebugCandidate AnyError → Type 0
IsCandidate file path directory index old new answer = (wanted : DebugWanted) × IsSaid file wanted
    × (answer ≡ record_in candidate_of (ways_of wanted path directory) index) × IsWritten (slice_get (ways_of wanted path directory) index) old new

-- the error for a file that is not the debug file
abbrev pub mismatch_error : DebugMismatch → AnyError
mismatch_error mismatch.NoBuildId = NoBuildId
mismatch_error mismatch.OtherBuildId = OtherBuildId
mismatch_error mismatch.OtherChecksum = OtherChecksum

-- the same of a result
abbrev pub check_answer : Result (Unit {0}) DebugMismatch → Result (Unit {0}) AnyError
check_answer (Ok value) = Ok value
check_answer (Err why) = Err (mismatch_error why)

-- the result of the check of a file that was found in the way with a number
abbrev pub IsDebugCheck : ElfFile → ℕ → ElfFile → Result (Unit {0}) AnyError → Type 0
IsDebugCheck file how debug answer = (wanted : DebugWanted) × IsSaid file wanted
    × (answer ≡ check_answer (checked (how_of how) (option_map (λ id. id.now) wanted.build_id) (option_map (λ link. link.1) wanted.link) debug))
