-- What a writer contains after an output, if that is known.
use Rattle.std.specs.Prelude.{ℕ, List, Option}
use Rattle.std.specs.Io.KnownBytes.{Appends}

-- a text with the property was appended to what was written
abbrev pub AppendsSome : (List ℕ → Type 0) → Option (List ℕ) → Option (List ℕ) → Type 0
AppendsSome Is old new = (text : List ℕ) × Is text × Appends old new text
