-- How a program ends (this project's own).
use Rattle.std.specs.Prelude.{◌≡◌, ℕ, Bool, List, Option, Result, Ok, Err, IfSome, IsSomeAnd, cond, ⊤}
use Rattle.std.specs.Borrow.{Bor}
use Rattle.program_ends.specs.declared.Fault.{Fault}
use Rattle.program_ends.specs.declared.Fault.TheVariants as faults
use Rattle.program_ends.specs.declared.Stop.{Stop}
use Rattle.program_ends.specs.declared.Stop.TheVariants as stops
use Rattle.program_ends.specs.declared.TheConstants.{CLOSED}

-- what a program says where an output isn't written to its end
abbrev pub fault_of : {E : Type 0} → Bor (List ℕ) → Stop E → Fault E
fault_of path (stops.Failed error) = faults.Failed path error
fault_of path stops.Write = faults.Write
fault_of path stops.Memory = faults.Memory

-- the fault of a file at a path: it can't be read; or it has this error; or writing failed, and this was so when it
-- did; or memory was short
abbrev pub IsFault : {E : Type 0} → Bor (List ℕ) → (E → Type 0) → Type 0 → Fault E → Type 0
IsFault path Fails Written (faults.Read at) = at ≡ path
IsFault path Fails Written (faults.Failed at error) = (at ≡ path) × Fails error
IsFault path Fails Written faults.Write = Written
IsFault path Fails Written faults.Memory = ⊤

-- a property of all bytes that a reader has left, as far as these are known; there is a reader
abbrev pub OfFile : {R : Type 0} → (R → Option (List ℕ)) → Option R → (Bor (List ℕ) → Type 0) → Type 0
OfFile remaining file P = IsSomeAnd file (λ reader. (input : Bor (List ℕ))
    × IfSome (remaining reader) (λ bytes. input.now ≡ bytes) × P input)

-- how a program ends for the file at a path, by what may be written of its input, the errors of this, and how far the
-- program has come when a write fails: there is such a text, or the fault
abbrev pub IsEnd : {R E : Type 0} → Bor (List ℕ) → (R → Option (List ℕ)) → Option R → (Bor (List ℕ) → List ℕ → Type 0) → (Bor (List ℕ) → E → Type 0) → (Bor (List ℕ) → Type 0) → Result (Unit {0}) (Fault E) → Type 0
IsEnd path remaining file Is Fails Begun (Ok done) = OfFile remaining file (λ input. (text : List ℕ) × Is input text)
IsEnd path remaining file Is Fails Begun (Err fault) = IsFault path
    (λ error. OfFile remaining file (λ input. Fails input error)) (OfFile remaining file Begun) fault

-- the exit status: 0 without a fault, otherwise 1
abbrev pub status_of : {A E : Type 0} → Result A (Fault E) → ℕ
status_of (Ok done) = 0
status_of (Err fault) = 1

-- the same, but if a write failed since nobody reads the output, that of a closed pipe
abbrev pub quiet_status_of : {A E : Type 0} → Result A (Fault E) → Bool → ℕ
quiet_status_of (Ok done) closed = 0
quiet_status_of (Err faults.Write) closed = cond closed CLOSED 1
quiet_status_of (Err fault) closed = 1
