use Rattle.std.proofs.Common.{take}
use Rattle.elfload.proofs.StartSteps.{AreStepsOf}
use Rattle.elfload.proofs.steps.with_libraries.Given as goal

-- the steps of the libraries so far
abbrev pub invariant-loop-number : goal.invariant-loop-number
invariant-loop-number l = AreStepsOf l.list l.fn.steps.items (take l.number-index l.numbers) l.steps.items
