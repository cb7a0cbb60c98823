-- The exit status for several files (this project's own).
use Rattle.std.specs.Prelude.{◌≡◌, ℕ, List, Result, if◌then◌else◌, is_err}
use Rattle.std.specs.Borrow.{Bor}
use Rattle.std.specs.List.{AllZip, list_any}
use Rattle.elfload.specs.Ends.{IsEnd, IsWordsEnd}
use Rattle.elfload.specs.Files.{AreAllStatic, HasDynamic}
use Rattle.elfload.specs.Types.{Fault, Input}
use Rattle.elfload.specs.declared.Options.{Options}
use Rattle.elfload.specs.declared.plans.AnyError.{AnyError}
use Rattle.program_ends.specs.Ends.{status_of}
use Rattle.program_ends.specs.declared.json.Form.{Form}

-- how the program ends for the plan of an input
abbrev pub IsPlanEnd : Form → ℕ → Input → Result (Unit {0}) (Fault AnyError) → Type 0
IsPlanEnd form page input end = (bytes : Bor (List ℕ)) × (bytes.now ≡ input.bytes.items) × IsEnd form page input.path bytes end

-- the exit status of files that end so: 1 if one of them has a fault
abbrev pub status_of_all : List (Result (Unit {0}) (Fault AnyError)) → ℕ
status_of_all ends = if list_any is_err ends then 1 else 0

-- the plans of the inputs end so, with this exit status
pub record ArePlanEnds (form : Form) (page : ℕ) (inputs : List Input) (status : ℕ) : Type 0 where
  pub ends : List (Result (Unit {0}) (Fault AnyError))
  pub are : AllZip (IsPlanEnd form page) inputs ends
  pub status_is : status ≡ status_of_all ends

-- the exit status of the program, unless nobody reads its output: 1 if the plan of a file has a fault; otherwise 0 if no file has
-- a dynamic segment; otherwise that of the words. The first two arguments are as those of `IsWordsEnd`.
pub data IsRunStatus (narrow_record wide_record : _) (options : Options) (inputs : List Input) : ℕ → Type 0 where
  unplanned : ArePlanEnds options.form options.page inputs 1 → IsRunStatus narrow_record wide_record options inputs 1
  without_words : ArePlanEnds options.form options.page inputs 0 → AreAllStatic inputs
      → IsRunStatus narrow_record wide_record options inputs 0
  with_words : (end : Result (Unit {0}) (Fault AnyError)) → ArePlanEnds options.form options.page inputs 0
      → HasDynamic inputs → IsWordsEnd narrow_record wide_record options inputs end
      → IsRunStatus narrow_record wide_record options inputs (status_of end)
