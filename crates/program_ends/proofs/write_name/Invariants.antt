use Rattle.std.proofs.Common.{◌≡◌, ◌++◌, length}
use Rattle.program_ends.specs.Appended.{AppendsSome}
use Rattle.program_ends.specs.Names.{escaped}
use Rattle.program_ends.proofs.write_name.Given as goal

-- what is written, and the rest behind it, make up the name
abbrev pub invariant-runs : goal.invariant-runs
invariant-runs g l = AppendsSome (λ text. text ++ escaped l.rest ≡ escaped l.name)
    (g.W.Write.contents l.fn.out) (g.W.Write.contents l.out)

-- less of the name is left
abbrev pub decreases-runs : goal.decreases-runs
decreases-runs g l = length l.rest
