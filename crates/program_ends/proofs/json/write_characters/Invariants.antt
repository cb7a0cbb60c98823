use Rattle.std.proofs.Common.{◌≡◌, ◌++◌, length}
use Rattle.std.specs.List.{flat_map}
use Rattle.program_ends.specs.Appended.{AppendsSome}
use Rattle.program_ends.specs.Json.{string_byte}
use Rattle.program_ends.proofs.json.write_characters.Given as goal

-- what is written, and the rest behind it, make up the text
abbrev pub invariant-runs : goal.invariant-runs
invariant-runs g l = AppendsSome (λ text. text ++ flat_map string_byte l.rest ≡ flat_map string_byte l.text)
    (g.W.Write.contents l.fn.out) (g.W.Write.contents l.out)

-- less of the text is left
abbrev pub decreases-runs : goal.decreases-runs
decreases-runs g l = length l.rest
