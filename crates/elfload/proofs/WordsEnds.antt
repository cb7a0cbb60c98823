-- How the program ends for the words of files of one class.
use Rattle.std.proofs.Common.{◌≡◌, ℕ, Bool, List, Result, Ok, Err, sym, subst}
use Rattle.std.specs.Prelude.{IfErr, MatchResult, OnOk, ⊤}
use Rattle.elfload.specs.Ends.{AreFailed, IsWordsEnd, IsWordsEndOf, narrow, stopped, wide, words_fault_of, written}
use Rattle.program_ends.specs.Ends.{quiet_status_of, status_of}
use Rattle.elfload.proofs.Quiet.{quiet_zero}
use Rattle.elfload.specs.Images as images
use Rattle.elfload.specs.Images.{AreImagesGood, AreInputsChecked}
use Rattle.elfload.specs.declared.plans.AnyError.{AnyError}
use Rattle.elfload.specs.Types.{Fault, Input, LoadError, Stop}
use Rattle.elfload.specs.declared.Options.{Options}
use Rattle.linking_programs.specs.declared.Failed as reasons
use Rattle.program_ends.specs.Stops.{IsStop}
use Rattle.xmas_elf.specs.Symbol.{SymbolFields}

pub words_end_of : {E W : Type 0} (r : _) (fields : E → SymbolFields) (class size : ℕ) (options : Options) (inputs : List Input) (printed : Result W (Stop (reasons.Failed LoadError))) (ended : Result (Unit {0}) (Fault AnyError))
    → OnOk printed (AreInputsChecked {E = E} r fields class size options.page inputs)
    → IfErr printed (IsStop (AreFailed {E = E} r fields class size options inputs) (AreInputsChecked {E = E} r fields class size options.page inputs) ⊤)
    → MatchResult printed (λ back. ended ≡ Ok tt) (λ stop. ended ≡ Err (words_fault_of stop)) → IsWordsEndOf {E = E} r fields class size options inputs ended
words_end_of r fields class size options inputs (Ok back) ended checked none is =
    subst (IsWordsEndOf r fields class size options inputs) (sym is) (written checked)
words_end_of r fields class size options inputs (Err stop) ended none why is =
    subst (IsWordsEndOf r fields class size options inputs) (sym is) (stopped stop why)

-- without a fault all files pass their checks
good_of : {E : Type 0} (r : _) (fields : E → SymbolFields) (class size : ℕ) (options : Options) (inputs : List Input) (end : Result (Unit {0}) (Fault AnyError)) → IsWordsEndOf {E = E} r fields class size options inputs end → status_of end ≡ 0 → AreInputsChecked {E = E} r fields class size options.page inputs
good_of r fields class size options inputs end (written checked) zero_is = checked
good_of r fields class size options inputs end (stopped stop why) zero_is = absurd (cc)

pub ended_good : (narrow_record wide_record : _) (options : Options) (inputs : List Input) (end : Result (Unit {0}) (Fault AnyError)) (closed : Bool) → IsWordsEnd narrow_record wide_record options inputs end → quiet_status_of end closed ≡ 0 → AreImagesGood narrow_record wide_record options.page inputs
ended_good narrow_record wide_record options inputs end closed (narrow is ended) zero_is = images.narrow is (good_of _ _ _ _ options inputs end ended (quiet_zero end closed zero_is))
ended_good narrow_record wide_record options inputs end closed (wide is ended) zero_is = images.wide is (good_of _ _ _ _ options inputs end ended (quiet_zero end closed zero_is))
