-- What is said of how an output ends, where that implies more.
use Rattle.std.proofs.Common.{ℕ, List, Option, Result, Ok, Err}
use Rattle.std.specs.Prelude.{MatchResult}
use Rattle.std.specs.Borrow.{Bor}
use Rattle.program_ends.specs.Appended.{AppendsSome}
use Rattle.program_ends.specs.Ends.{IsFault}
use Rattle.program_ends.specs.Stops.{IsStop}
use Rattle.program_ends.specs.declared.Fault.{Fault}
use Rattle.program_ends.specs.declared.Fault.TheVariants as faults
use Rattle.program_ends.specs.declared.Stop.{Stop}
use Rattle.program_ends.specs.declared.Stop.TheVariants.{Memory, Failed, Write}

-- a reason that is the case, where that implies more
pub stop_so : {E : Type 0} (WasFailed IsFailed : E → Type 0) (WasWritten IsWritten WasShort IsShort : Type 0) (stop : Stop E) → ((error : E) → WasFailed error → IsFailed error) → (WasWritten → IsWritten) → (WasShort → IsShort)
    → IsStop WasFailed WasWritten WasShort stop → IsStop IsFailed IsWritten IsShort stop
stop_so WasFailed IsFailed WasWritten IsWritten WasShort IsShort (Failed error) failed written short why = failed error why
stop_so WasFailed IsFailed WasWritten IsWritten WasShort IsShort Write failed written short why = written why
stop_so WasFailed IsFailed WasWritten IsWritten WasShort IsShort Memory failed written short why = short why

-- a text with one property was written, or the output stops for one reason, where these imply others
pub ends_so : {A E : Type 0} (Was Is : A → List ℕ → Type 0) (WasFailed IsFailed : E → Type 0) (WasWritten IsWritten Short : Type 0) (answer : Result A (Stop E)) (old new : Option (List ℕ)) → ((value : A) (text : List ℕ) → Was value text → Is value text) → ((error : E) → WasFailed error → IsFailed error) → (WasWritten → IsWritten)
    → MatchResult answer (λ value. AppendsSome (Was value) old new) (IsStop WasFailed WasWritten Short)
    → MatchResult answer (λ value. AppendsSome (Is value) old new) (IsStop IsFailed IsWritten Short)
ends_so Was Is WasFailed IsFailed WasWritten IsWritten Short (Ok value) old new so failed written (text, was, grown) = (text, so value text was, grown)
ends_so Was Is WasFailed IsFailed WasWritten IsWritten Short (Err (Failed error)) old new so failed written why = failed error why
ends_so Was Is WasFailed IsFailed WasWritten IsWritten Short (Err Write) old new so failed written why = written why
ends_so Was Is WasFailed IsFailed WasWritten IsWritten Short (Err Memory) old new so failed written why = why

-- the fault of a file at a path, where its parts imply others
pub fault_so : {E : Type 0} (path : Bor (List ℕ)) (Was Is : E → Type 0) (WasWritten IsWritten : Type 0) (fault : Fault E) → ((error : E) → Was error → Is error) → (WasWritten → IsWritten) → IsFault path Was WasWritten fault → IsFault path Is IsWritten fault
fault_so path Was Is WasWritten IsWritten (faults.Read at) failed written why = why
fault_so path Was Is WasWritten IsWritten (faults.Failed at error) failed written (same, was) = (same, failed error was)
fault_so path Was Is WasWritten IsWritten faults.Write failed written why = written why
fault_so path Was Is WasWritten IsWritten faults.Memory failed written why = why
