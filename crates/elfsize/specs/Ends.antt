-- How the program ends (this project's own).
use Rattle.std.specs.Prelude.{◌≡◌, ℕ, ◌-◌, ◌<◌, ◌≤◌, ◌^◌, List, Option, Result, Ok, Err, IfSome, IsSomeAnd, if◌then◌else◌, is_err, length, min}
use Rattle.std.specs.Borrow.{Bor}
use Rattle.std.specs.Io.KnownBytes.{Appends}
use Rattle.std.specs.List.{AllZip, list_any, sum_by}
use Rattle.elfsize.specs.Lines.{IsInputText}
use Rattle.elfsize.specs.Sides.{IsInputError, IsInputThere}
use Rattle.elfsize.specs.Sums.{AreInputSums, sums_text, with_sums}
use Rattle.elfsize.specs.View.{shown}
use Rattle.elfsize.specs.declared.sums.Sums.{Sums}
use Rattle.elfsize.specs.declared.lines.AnyError.{AnyError}
use Rattle.elfsize.specs.declared.lines.AnyError.TheVariants as failures_are
use Rattle.elfsize.specs.declared.view.Options.{Options}
use Rattle.elfsize.specs.declared.view.View.{View}
use Rattle.program_ends.specs.Ends as ends
use Rattle.program_ends.specs.declared.Fault.{Fault}
use Rattle.program_ends.specs.declared.Fault.TheVariants as faults_are
use Rattle.program_ends.specs.declared.Stop as stops
use Rattle.program_ends.specs.declared.Stop.TheVariants as stops_are

-- what the program says where lines aren't written to their end
abbrev pub fault_of : Bor (List ℕ) → stops.Stop AnyError → Fault AnyError
fault_of path (stops_are.Failed (failures_are.Elf error)) = faults_are.Failed path (failures_are.Elf error)
fault_of path (stops_are.Failed failures_are.Many) = faults_are.Failed path failures_are.Many
fault_of path (stops_are.Failed failures_are.Memory) = faults_are.Memory
fault_of path stops_are.Write = faults_are.Write
fault_of path stops_are.Memory = faults_are.Memory

-- the reason is not that memory was short
abbrev pub IsOfInput : (AnyError → Type 0) → AnyError → Type 0
IsOfInput Fails (failures_are.Elf error) = Fails (failures_are.Elf error)
IsOfInput Fails failures_are.Many = Fails failures_are.Many
IsOfInput Fails failures_are.Memory = ⊥

-- the fault of a file at a path, by such a reason why it has no lines
abbrev pub IsFault : Bor (List ℕ) → (AnyError → Type 0) → Type 0 → Fault AnyError → Type 0
IsFault path Fails = ends.IsFault path (IsOfInput Fails)

-- a property of a view of all bytes that a reader has left, as far as these are known; there is a reader
abbrev pub OfFile : {R : Type 0} → View → (R → Option (List ℕ)) → Option R → (Bor (List ℕ) → Type 0) → Type 0
OfFile view remaining file P = IsSomeAnd file (λ reader. (input : Bor (List ℕ))
    × IfSome (remaining reader) (λ bytes. input.now ≡ shown view bytes) × P input)

-- the fault of the file at a path; a write failed only if this was so when it did
abbrev pub IsFaultOf : {R : Type 0} → Options → Bor (List ℕ) → (R → Option (List ℕ)) → Option R → Type 0 → Fault AnyError → Type 0
IsFaultOf options path remaining file Written fault =
    IsFault path (λ failure. OfFile options.view remaining file (λ input. IsInputError options input failure)) Written fault

-- how the program ends for the file at a path: there is a text of its sizes, and these are its bytes by kind; or the fault
abbrev pub IsEnd : {R : Type 0} → Options → Bor (List ℕ) → (R → Option (List ℕ)) → Option R → Result Sums (Fault AnyError) → Type 0
IsEnd options path remaining file (Ok sums) = OfFile options.view remaining file (λ input.
    ((text : List ℕ) × IsInputText options path.now input text) × AreInputSums input sums)
IsEnd options path remaining file (Err fault) =
    IsFaultOf options path remaining file (OfFile options.view remaining file (IsInputThere options)) fault

-- the sums after a file: with its bytes, if it was printed
abbrev pub sums_after : Sums → Result Sums (Fault AnyError) → Sums
sums_after before (Ok sums) = with_sums before sums
sums_after before (Err fault) = before

-- All files.

-- the file at a path with this text ends so: of what is opened there, or of nothing
abbrev pub IsEndAt : {R : Type 0} → Options → (R → Option (List ℕ)) → List ℕ → Result Sums (Fault AnyError) → Type 0
IsEndAt {R} options remaining text end =
    (path : Bor (List ℕ)) × (path.now ≡ text) × (file : Option R) × IsEnd options path remaining file end

-- the exit status of files that end so: 1 if one of them has a fault
abbrev pub status_of_all : List (Result Sums (Fault AnyError)) → ℕ
status_of_all ends = if list_any is_err ends then 1 else 0

-- the bytes of a kind of a file that was printed
abbrev pub printed : (Sums → ℕ) → Result Sums (Fault AnyError) → ℕ
printed kind (Ok sums) = kind sums
printed kind (Err fault) = 0

-- the bytes of a kind of all files that were printed; at most 2 to the 128 minus 1
abbrev pub printed_by_all : (Sums → ℕ) → List (Result Sums (Fault AnyError)) → ℕ
printed_by_all kind ends = min (sum_by (printed kind) ends) (2 ^ 128 - 1)

-- the sums of all files that were printed
abbrev pub sums_of_all : List (Result Sums (Fault AnyError)) → Sums
sums_of_all ends = record {
  sections = printed_by_all (λ sums. sums.sections) ends;
  segments = printed_by_all (λ sums. sums.segments) ends;
  elf_headers = printed_by_all (λ sums. sums.elf_headers) ends;
  program_headers = printed_by_all (λ sums. sums.program_headers) ends;
  section_headers = printed_by_all (λ sums. sums.section_headers) ends;
  between = printed_by_all (λ sums. sums.between) ends;
  after = printed_by_all (λ sums. sums.after) ends;
}

-- the files at paths end so, with this exit status and these sums
pub record AreEnds {R S : Type 0} (options : Options) (remaining : R → Option (List ℕ)) (text : S → List ℕ) (paths : List S) (status : ℕ) (sums : Sums) : Type 0 where
  pub ends : List (Result Sums (Fault AnyError))
  pub are : AllZip (λ path end. IsEndAt options remaining (text path) end) paths ends
  pub status_is : status ≡ status_of_all ends
  pub sums_are : sums ≡ sums_of_all ends

-- the exit status of the program after files: 1 if one of them has a fault, otherwise 0, and after more than one their sums
-- were appended to what the writer contained; or these files end so, and it is 1 since their sums can't be written
pub data IsStatus {R S W : Type 0} (options : Options) (remaining : R → Option (List ℕ)) (text : S → List ℕ) (contents : W → Option (List ℕ)) (paths : List S) (after : W) (status : ℕ) : Type 0 where
  few : (sums : Sums) → length paths ≤ 1 → AreEnds options remaining text paths status sums
      → IsStatus options remaining text contents paths after status
  summed : (sums : Sums) (before : W) → 1 < length paths → AreEnds options remaining text paths status sums
      → Appends (contents before) (contents after) (sums_text options.form sums)
      → IsStatus options remaining text contents paths after status
  unwritten : (own : ℕ) (sums : Sums) → 1 < length paths → AreEnds options remaining text paths own sums → status ≡ 1
      → IsStatus options remaining text contents paths after status
