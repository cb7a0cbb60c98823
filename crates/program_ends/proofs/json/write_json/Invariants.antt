use Rattle.std.proofs.Common.{◌≡◌, ◌++◌, codes, drop}
use Rattle.std.specs.List.{join_by}
use Rattle.program_ends.specs.Appended.{AppendsSome}
use Rattle.program_ends.specs.Json.{json_member}
use Rattle.program_ends.proofs.JsonTexts.{left_after}
use Rattle.program_ends.proofs.json.write_json.Given as goal

-- what is written, and the members that are left, make up the object up to its end
abbrev pub invariant-loop-member : goal.invariant-loop-member
invariant-loop-member g l = AppendsSome (λ text. text ++ left_after json_member l.between (drop l.member-index l.members) ≡ codes "{" ++ join_by json_member (codes ",") l.members)
    (g.W.Write.contents l.fn.out) (g.W.Write.contents l.out)
