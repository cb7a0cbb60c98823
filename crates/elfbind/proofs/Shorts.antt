-- Outputs that don't stop for want of memory, where more may stop for it.
use Rattle.std.proofs.Common.{ℕ, List, Option, Result, Ok, Err}
use Rattle.std.specs.Prelude.{MatchResult, ⊤}
use Rattle.program_ends.specs.Appended.{AppendsSome}
use Rattle.program_ends.specs.Stops.{IsStop}
use Rattle.program_ends.specs.declared.Stop.{Stop}
use Rattle.program_ends.specs.declared.Stop.TheVariants.{Memory, Failed, Write}

-- a text with one property was written, or the output stops for one reason, where these imply others
pub ends_short : {A E : Type 0} (Was Is : A → List ℕ → Type 0) (WasFailed IsFailed : E → Type 0) (WasWritten IsWritten : Type 0) (answer : Result A (Stop E)) (old new : Option (List ℕ)) → ((value : A) (text : List ℕ) → Was value text → Is value text) → ((error : E) → WasFailed error → IsFailed error) → (WasWritten → IsWritten)
    → MatchResult answer (λ value. AppendsSome (Was value) old new) (IsStop WasFailed WasWritten ⊥)
    → MatchResult answer (λ value. AppendsSome (Is value) old new) (IsStop IsFailed IsWritten ⊤)
ends_short Was Is WasFailed IsFailed WasWritten IsWritten (Ok value) old new so failed written (text, was, grown) = (text, so value text was, grown)
ends_short Was Is WasFailed IsFailed WasWritten IsWritten (Err (Failed error)) old new so failed written why = failed error why
ends_short Was Is WasFailed IsFailed WasWritten IsWritten (Err Write) old new so failed written why = written why
ends_short Was Is WasFailed IsFailed WasWritten IsWritten (Err Memory) old new so failed written why = absurd why
