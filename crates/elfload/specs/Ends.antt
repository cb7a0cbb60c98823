-- How the program ends (this project's own).
use Rattle.std.specs.Prelude.{◌≡◌, ℕ, true, false, List, Option, Some, None, Result, Ok, Err, ⊤}
use Rattle.std.specs.Borrow.{Bor}
use Rattle.std.specs.List.{flat_map}
use Rattle.elfload.specs.Types.{Binding, DynamicObject, Fault, Input, LinkError, LoadError, LoadPlan, Failed}
use Rattle.elf_loading.specs.declared.error.LoadError.TheVariants.{Link}
use Rattle.elfload.specs.Images.{AreAllChecked, AreInputsChecked, ArePlansOf, IsImageError, IsPlanMissing}
use Rattle.elfload.specs.Plans.{IsInputLoaded, IsInputPlan, IsInputError as IsPlanError}
use Rattle.elfload.specs.Starts.{AreStartsFailed, AreStartsOf, start_line}
use Rattle.elfload.specs.Words.{AreWordsWritten, IsTextFailed}
use Rattle.elfload.specs.declared.starts.Start.{Start}
use Rattle.elfload.specs.declared.steps.Step.{Step}
use Rattle.elfload.specs.declared.Options.{Options}
use Rattle.elfload.specs.declared.plans.AnyError.{AnyError}
use Rattle.elfload.specs.declared.plans.AnyError.TheVariants.{Load}
use Rattle.linking_programs.specs.Files.{AreObjectsOf, IsInputError, is_first_narrow}
use Rattle.program_ends.specs.Appended.{AppendsSome}
use Rattle.program_ends.specs.Ends.{fault_of}
use Rattle.program_ends.specs.Stops.{HasBegun, IsStop}
use Rattle.program_ends.specs.declared.Fault.TheVariants as faults_are
use Rattle.program_ends.specs.declared.Stop as stops
use Rattle.program_ends.specs.declared.Stop.TheVariants as stops_are
use Rattle.program_ends.specs.declared.json.Form.{Form}
use Rattle.xmas_elf.specs.Symbol.{SymbolFields, dyn_entry_32_fields, dyn_entry_64_fields}
use Rattle.xmas_elf.specs.Types.{DynEntry32, DynEntry64}

-- The plan of a file.

-- the fault of a file at a path: it has no plan for this reason; or writing failed, and this was so when it did; or
-- memory was short
abbrev pub IsFault : Bor (List ℕ) → (AnyError → Type 0) → Type 0 → Fault AnyError → Type 0
IsFault path Fails Written fault =
    (stop : stops.Stop AnyError) × IsStop Fails Written ⊤ stop × (fault ≡ fault_of path stop)

-- how far the program has come when a write fails
abbrev pub IsBegun : Form → ℕ → Bor (List ℕ) → Bor (List ℕ) → Type 0
IsBegun form page path input = HasBegun (IsInputLoaded page input) (AppendsSome (IsInputPlan form page path input))

-- how the program ends for the file at a path: there is a text of its plan, or the fault
abbrev pub IsEnd : Form → ℕ → Bor (List ℕ) → Bor (List ℕ) → Result (Unit {0}) (Fault AnyError) → Type 0
IsEnd form page path input (Ok done) = (text : List ℕ) × IsInputPlan form page path input text
IsEnd form page path input (Err fault) = IsFault path (IsPlanError page input) (IsBegun form page path input) fault

-- The words of all files, or the functions that run when a program starts.

-- the text of the functions that run in some steps
pub record IsStartText {E : Type 0} {r : _} (fields : E → SymbolFields) (form : Form) (inputs : List Input) (objects : List (DynamicObject E r)) (steps : List Step) (text : List ℕ) : Type 0 where
  pub starts : List Start
  pub starts_are : AreStartsOf fields inputs objects steps starts
  pub text_is : text ≡ flat_map (start_line form) starts

-- what is written: the words, or the functions of these steps
abbrev pub IsWrittenBy : {E : Type 0} → {r : _} → (E → SymbolFields) → Binding → Form → List Input → List (DynamicObject E r) → Option (Bor (List Step)) → List ℕ → Type 0
IsWrittenBy fields when form inputs objects None = AreWordsWritten fields form when inputs objects
IsWrittenBy fields when form inputs objects (Some steps) = IsStartText fields form inputs objects steps.now

-- the same, by the options: when functions are bound, the form of the lines, and the steps if functions are asked for
abbrev pub IsWritten : {E : Type 0} → {r : _} → (E → SymbolFields) → Options → List Input → List (DynamicObject E r) → List ℕ → Type 0
IsWritten fields options inputs objects = IsWrittenBy fields options.when options.form inputs objects options.steps

-- why it is not
abbrev pub IsFailedBy : {E : Type 0} → {r : _} → (E → SymbolFields) → Binding → List Input → List (DynamicObject E r) → Option (Bor (List Step)) → Failed LoadError → Type 0
IsFailedBy fields when inputs objects None = IsTextFailed fields when inputs objects
IsFailedBy fields when inputs objects (Some steps) = AreStartsFailed fields inputs objects steps.now

-- the same, by the options
abbrev pub IsWritingFailed : {E : Type 0} → {r : _} → (E → SymbolFields) → Options → List Input → List (DynamicObject E r) → Failed LoadError → Type 0
IsWritingFailed fields options inputs objects = IsFailedBy fields options.when inputs objects options.steps

-- what the program says where the words aren't written to their end
abbrev pub words_fault_of : stops.Stop (Failed LoadError) → Fault AnyError
words_fault_of (stops_are.Failed failed) = faults_are.Failed failed.path (Load failed.error)
words_fault_of stops_are.Write = faults_are.Write
words_fault_of stops_are.Memory = faults_are.Memory

-- why files are not read, as an error of a loader
abbrev pub load_stop : stops.Stop (Failed LinkError) → stops.Stop (Failed LoadError)
load_stop (stops_are.Failed failed) = stops_are.Failed (record { path = failed.path; error = Link failed.error })
load_stop stops_are.Write = stops_are.Write
load_stop stops_are.Memory = stops_are.Memory

-- the error of the inputs: one of them is no file of the class, or has no plan, or does not pass its checks, or has a
-- word that is not known
pub data AreFailed {E : Type 0} (r : _) (fields : E → SymbolFields) (class size : ℕ) (options : Options) (inputs : List Input) (failed : Failed LoadError) : Type 0 where
  by_input : (error : LinkError) → failed.error ≡ Link error
      → IsInputError {E = E} r class size inputs (record { path = failed.path; error = error })
      → AreFailed r fields class size options inputs failed
  by_plan : (objects : List (DynamicObject E r)) → AreObjectsOf class size inputs objects
      → IsPlanMissing options.page inputs objects failed
      → AreFailed r fields class size options inputs failed
  by_image : (objects : List (DynamicObject E r)) (plans : List LoadPlan) → AreObjectsOf class size inputs objects
      → ArePlansOf options.page objects plans → IsImageError size fields inputs objects plans failed
      → AreFailed r fields class size options inputs failed
  by_text : (objects : List (DynamicObject E r)) (plans : List LoadPlan) → AreObjectsOf class size inputs objects
      → ArePlansOf options.page objects plans → AreAllChecked size fields objects plans
      → IsWritingFailed fields options inputs objects failed
      → AreFailed r fields class size options inputs failed

-- how the program ends for the words of files of one class: all pass their checks; or what it says
pub data IsWordsEndOf {E : Type 0} (r : _) (fields : E → SymbolFields) (class size : ℕ) (options : Options) (inputs : List Input) : Result (Unit {0}) (Fault AnyError) → Type 0 where
  written : AreInputsChecked {E = E} r fields class size options.page inputs → IsWordsEndOf r fields class size options inputs (Ok tt)
  stopped : (stop : stops.Stop (Failed LoadError)) → IsStop (AreFailed {E = E} r fields class size options inputs)
      (AreInputsChecked {E = E} r fields class size options.page inputs) ⊤ stop
      → IsWordsEndOf r fields class size options inputs (Err (words_fault_of stop))

-- the same by the class of the first. The first two arguments say how the record of a symbol of each class is read.
pub data IsWordsEnd (narrow_record wide_record : _) (options : Options) (inputs : List Input) (end : Result (Unit {0}) (Fault AnyError)) : Type 0 where
  narrow : is_first_narrow inputs ≡ true
      → IsWordsEndOf {E = DynEntry32} narrow_record dyn_entry_32_fields 1 16 options inputs end
      → IsWordsEnd narrow_record wide_record options inputs end
  wide : is_first_narrow inputs ≡ false
      → IsWordsEndOf {E = DynEntry64} wide_record dyn_entry_64_fields 2 24 options inputs end
      → IsWordsEnd narrow_record wide_record options inputs end
