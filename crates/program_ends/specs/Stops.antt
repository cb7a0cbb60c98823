-- Why an output is not written to its end (this project's own).
use Rattle.std.specs.Prelude.{ℕ, List, Option, ◌⊎◌}
use Rattle.program_ends.specs.declared.Stop.{Stop}
use Rattle.program_ends.specs.declared.Stop.TheVariants.{Memory, Failed, Write}

-- the reason is the case: the input has this error; or the writer failed, and this was so when it did; or
-- memory was short, where memory is asked for
abbrev pub IsStop : {E : Type 0} → (E → Type 0) → Type 0 → Type 0 → Stop E → Type 0
IsStop Fails Written Short (Failed error) = Fails error
IsStop Fails Written Short Write = Written
IsStop Fails Written Short Memory = Short

-- the output has begun, or it was written whole before the flush failed
abbrev pub HasBegun : Type 0 → (Option (List ℕ) → Option (List ℕ) → Type 0) → Type 0
HasBegun Begins Writes = Begins ⊎ (old : Option (List ℕ)) × (new : Option (List ℕ)) × Writes old new
