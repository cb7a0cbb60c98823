-- What is so of an item that is read.
use Rattle.std.proofs.Common.{Option, Some, None}
use Rattle.std.specs.Prelude.{IsSomeAnd}

-- what is so whatever is read at an index
pub of_some : {A : Type 0} (found : Option A) (P : Type 0) → IsSomeAnd found (λ _. P) → P
of_some None P never = absurd never
of_some (Some item) P holds = holds
