-- What the program writes of its files (this project's own), by what is asked.
use Rattle.std.specs.Prelude.{◌≡◌, ℕ, Bool, true, false, cond, List, map, Result, Ok, Err, ⊤}
use Rattle.elf_linking.specs.Exports.{object_parts}
use Rattle.elf_linking.specs.declared.error.LinkError.{LinkError}
use Rattle.elf_linking.specs.declared.object.DynamicObject.{DynamicObject}
use Rattle.elfbind.specs.Bindings.{AreBindingsBegun, AreBindingsFailed, AreBindingsWritten}
use Rattle.elfbind.specs.Checks.{IsCheckLine}
use Rattle.elfbind.specs.Files.{AreWritten}
use Rattle.linking_programs.specs.Checks.{ArePassed, IsCheckFailed}
use Rattle.linking_programs.specs.Files.{AreObjectsOf, IsInputError, is_first_narrow, failed_fault_of}
use Rattle.elfbind.specs.declared.bindings.Style.{Style}
use Rattle.elfbind.specs.declared.Question as questions
use Rattle.program_ends.specs.declared.TheConstants.{CLOSED}
use Rattle.elfbind.specs.declared.Question.TheVariants.{Bindings, Checks}
use Rattle.linking_programs.specs.declared.Input.{Input}
use Rattle.linking_programs.specs.declared.Failed.{Failed}
use Rattle.program_ends.specs.Appended.{AppendsSome}
use Rattle.program_ends.specs.Stops.{HasBegun, IsStop}
use Rattle.program_ends.specs.declared.Fault.{Fault}
use Rattle.program_ends.specs.declared.Fault.TheVariants as faults
use Rattle.program_ends.specs.declared.json.Form.{Form}
use Rattle.program_ends.specs.declared.Stop as stops
use Rattle.xmas_elf.specs.Symbol.{SymbolFields, dyn_entry_32_fields, dyn_entry_64_fields}
use Rattle.xmas_elf.specs.Types.{DynEntry32, DynEntry64}

-- what is written of objects: the lines of their bindings, or of those that are missing their symbols, if the checks
-- of all pass; or the lines of their checks. What is wrong is that a reference is missing its symbol, or that a check fails.
pub data IsAnswer {E : Type 0} {r : _} (fields : E → SymbolFields) (inputs : List Input) (objects : List (DynamicObject E r)) (question : questions.Question) (wrong : Bool) (text : List ℕ) : Type 0 where
  bindings : (style : Style) → question ≡ Bindings style → ArePassed fields objects
      → AreBindingsWritten inputs (map (object_parts fields) objects) style wrong text
      → IsAnswer fields inputs objects question wrong text
  checks : (form : Form) → question ≡ Checks form → AreWritten (IsCheckLine form fields inputs) objects wrong text
      → IsAnswer fields inputs objects question wrong text

-- why there is no output: a check fails, or an error of a reference; the lines of checks always have one
pub data IsAnswerError {E : Type 0} {r : _} (fields : E → SymbolFields) (inputs : List Input) (objects : List (DynamicObject E r)) (question : questions.Question) (failed : Failed LinkError) : Type 0 where
  by_check : (style : Style) → question ≡ Bindings style → IsCheckFailed fields inputs objects failed
      → IsAnswerError fields inputs objects question failed
  by_binding : (style : Style) → question ≡ Bindings style → ArePassed fields objects
      → AreBindingsFailed fields inputs objects style failed
      → IsAnswerError fields inputs objects question failed

-- how far the program has come when the first line is written
pub data IsAnswerBegun {E : Type 0} {r : _} (fields : E → SymbolFields) (inputs : List Input) (objects : List (DynamicObject E r)) (question : questions.Question) : Type 0 where
  bindings_begun : (style : Style) → question ≡ Bindings style → ArePassed fields objects
      → AreBindingsBegun inputs (map (object_parts fields) objects) style
      → IsAnswerBegun fields inputs objects question
  checks_begun : (form : Form) → question ≡ Checks form → IsAnswerBegun fields inputs objects question

-- the same, or the output was written whole before the flush failed
abbrev pub IsAnswerWritten : {E : Type 0} → {r : _} → (E → SymbolFields) → List Input → List (DynamicObject E r) → questions.Question → Type 0
IsAnswerWritten fields inputs objects question = HasBegun (IsAnswerBegun fields inputs objects question)
    (λ old new. (wrong : Bool) × AppendsSome (IsAnswer fields inputs objects question wrong) old new)

-- The same of files of one class, whose symbols have this size.

-- whether something is wrong: a text that may be written of their objects says so
pub record IsAnswerOf {E : Type 0} (r : _) (fields : E → SymbolFields) (class size : ℕ) (inputs : List Input) (question : questions.Question) (wrong : Bool) : Type 0 where
  pub objects : List (DynamicObject E r)
  pub objects_are : AreObjectsOf class size inputs objects
  pub text : List ℕ
  pub answer : IsAnswer fields inputs objects question wrong text

-- the error of the files: one of them is no file of the class, or there is no output
pub data AreFilesFailed {E : Type 0} (r : _) (fields : E → SymbolFields) (class size : ℕ) (inputs : List Input) (question : questions.Question) (failed : Failed LinkError) : Type 0 where
  by_input : IsInputError {E = E} r class size inputs failed
      → AreFilesFailed r fields class size inputs question failed
  by_answer : (objects : List (DynamicObject E r)) → AreObjectsOf class size inputs objects
      → IsAnswerError fields inputs objects question failed
      → AreFilesFailed r fields class size inputs question failed

-- how far the program has come when a write fails
pub record AreFilesWritten {E : Type 0} (r : _) (fields : E → SymbolFields) (class size : ℕ) (inputs : List Input) (question : questions.Question) : Type 0 where
  pub objects : List (DynamicObject E r)
  pub objects_are : AreObjectsOf class size inputs objects
  pub written : IsAnswerWritten fields inputs objects question

-- the result of the program for such files: whether something is wrong, or what it says of why it can't tell
pub data IsEndOf {E : Type 0} (r : _) (fields : E → SymbolFields) (class size : ℕ) (inputs : List Input) (question : questions.Question) : Result Bool (Fault LinkError) → Type 0 where
  answered : (wrong : Bool) → IsAnswerOf r fields class size inputs question wrong
      → IsEndOf r fields class size inputs question (Ok wrong)
  stopped : (stop : stops.Stop (Failed LinkError)) → IsStop (AreFilesFailed r fields class size inputs question)
      (AreFilesWritten r fields class size inputs question) ⊤ stop
      → IsEndOf r fields class size inputs question (Err (failed_fault_of stop))

-- The same of files of the class of the first. The first two arguments say how the record of a symbol of each class is
-- read.
pub data IsEnd (narrow_record wide_record : _) (inputs : List Input) (question : questions.Question) (end : Result Bool (Fault LinkError)) : Type 0 where
  narrow : is_first_narrow inputs ≡ true
      → IsEndOf {E = DynEntry32} narrow_record dyn_entry_32_fields 1 16 inputs question end
      → IsEnd narrow_record wide_record inputs question end
  wide : is_first_narrow inputs ≡ false
      → IsEndOf {E = DynEntry64} wide_record dyn_entry_64_fields 2 24 inputs question end
      → IsEnd narrow_record wide_record inputs question end

-- the exit status: 0 if nothing is wrong; if a write failed since nobody reads the output, that of a closed pipe; and
-- otherwise 1
abbrev pub status_of : Result Bool (Fault LinkError) → Bool → ℕ
status_of (Ok wrong) closed = cond wrong 1 0
status_of (Err faults.Write) closed = cond closed CLOSED 1
status_of (Err fault) closed = 1
