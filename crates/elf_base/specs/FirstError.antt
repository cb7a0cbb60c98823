-- Results with a list of errors (this project's own).
use Rattle.std.specs.Prelude.{Bool, List, [], ◌∷◌, Result, Ok, Err, if◌then◌else◌}

-- the first error whose condition is true, or else the value
abbrev pub unless : {A E : Type 0} → List (Bool × E) → A → Result A E
unless [] value = Ok value
unless (row ∷ rows) value = if row.0 then Err row.1 else unless rows value

-- the result of a second call on the value of a first one, or the first one's error
abbrev pub and_then : {A B E : Type 0} → Result A E → (A → Result B E) → Result B E
and_then (Ok value) next = next value
and_then (Err error) next = Err error
