use Rattle.std.proofs.Common.{◌≡◌, ◌∷◌, ◌++◌, drop}
use Rattle.std.specs.List.{flat_map}
use Rattle.program_ends.specs.Appended.{AppendsSome}
use Rattle.program_ends.specs.Json.{hex_byte}
use Rattle.program_ends.proofs.json.write_hex.Given as goal

-- what is written, and the digits of the bytes that are left, make up the string up to its end
abbrev pub invariant-loop-byte : goal.invariant-loop-byte
invariant-loop-byte g l = AppendsSome (λ text. text ++ flat_map hex_byte (drop l.byte-index l.bytes) ≡ 34 ∷ flat_map hex_byte l.bytes)
    (g.W.Write.contents l.fn.out) (g.W.Write.contents l.out)
