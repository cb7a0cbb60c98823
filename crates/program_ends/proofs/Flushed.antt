-- A flush behind an output, which keeps the bytes that are known, removes nothing from it.
use Rattle.std.proofs.Common.{ℕ, List, Option, None, Some, ◌∙◌}
use Rattle.std.specs.Io.KnownBytes.{Appends, Keeps}
use Rattle.program_ends.specs.Appended.{AppendsSome}

kept_behind : (old new kept : Option (List ℕ)) (bytes : List ℕ) → Appends old new bytes → Keeps new kept → Appends old kept bytes
kept_behind None new kept bytes grown keeps = tt
kept_behind (Some a) None kept bytes grown keeps = absurd grown
kept_behind (Some a) (Some b) None bytes grown keeps = absurd keeps
kept_behind (Some a) (Some b) (Some c) bytes grown keeps = keeps ∙ grown

pub appended_flushed : (Is : List ℕ → Type 0) (old new kept : Option (List ℕ)) → AppendsSome Is old new → Keeps new kept → AppendsSome Is old kept
appended_flushed Is old new kept (text, is, grown) keeps = (text, is, kept_behind old new kept text grown keeps)
