-- The program ends without a fault only for a file that would be loaded.
use Rattle.std.proofs.Common.{◌≡◌, ℕ, Bool, List, Result, Ok, Err}
use Rattle.std.specs.Borrow.{Bor}
use Rattle.std.specs.Prelude.{IsOkAnd}
use Rattle.elf_base.specs.FileHeader.{header_of}
use Rattle.elfload.specs.Ends.{IsEnd}
use Rattle.elfload.proofs.Quiet.{quiet_zero}
use Rattle.program_ends.specs.Ends.{quiet_status_of, status_of}
use Rattle.elfload.specs.Plans.{IsFilePlan, IsInputLoaded, IsInputPlan, IsLoaded}
use Rattle.elfload.specs.declared.plans.AnyError.{AnyError}
use Rattle.program_ends.specs.declared.Fault.{Fault}
use Rattle.program_ends.specs.declared.json.Form.{Form}
use Rattle.xmas_elf.specs.Types.{ElfError, Header}

by_header : (form : Form) (page : ℕ) (path input : Bor (List ℕ)) (text : List ℕ) (r : Result Header ElfError)
    → IsOkAnd r (λ h. IsFilePlan form page path (record { input = input; header = h }) text) → IsOkAnd r (λ h. IsLoaded page (record { input = input; header = h }))
by_header form page path input text (Ok header) planned = planned.0
by_header form page path input text (Err error) never = never

input_loaded : (form : Form) (page : ℕ) (path input : Bor (List ℕ)) (text : List ℕ) → IsInputPlan form page path input text → IsInputLoaded page input
input_loaded form page path input text planned = by_header form page path input text (header_of input.now) planned

loaded_of : (form : Form) (page : ℕ) (path input : Bor (List ℕ)) (end : Result (Unit {0}) (Fault AnyError))
    → IsEnd form page path input end → status_of end ≡ 0 → IsInputLoaded page input
loaded_of form page path input (Ok done) is zero_is = input_loaded form page path input is.0 is.1
loaded_of form page path input (Err fault) is zero_is = absurd (cc)

pub ended_loaded : (form : Form) (page : ℕ) (path input : Bor (List ℕ)) (end : Result (Unit {0}) (Fault AnyError)) (closed : Bool)
    → IsEnd form page path input end → quiet_status_of end closed ≡ 0 → IsInputLoaded page input
ended_loaded form page path input end closed is zero_is = loaded_of form page path input end is (quiet_zero end closed zero_is)
