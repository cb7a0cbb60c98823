use Rattle.std.proofs.Common.{ℕ, ◌<◌}
use Rattle.std.specs.Prelude.{IfSome, slice_get}
use Rattle.linking_programs.specs.Numbers.{IsKnown}
use Rattle.linking_programs.proofs.numbers.say_past_numbers_of.Given as goal

-- the objects so far have no such symbol
abbrev pub invariant-loop-index : goal.invariant-loop-index
invariant-loop-index g l = (i : ℕ) → i < l.index → IfSome (slice_get l.fn.objects i) (IsKnown g.E.Entry.fields)
