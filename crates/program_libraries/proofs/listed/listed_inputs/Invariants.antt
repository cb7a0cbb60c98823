use Rattle.std.proofs.Common.{◌≡◌, take}
use Rattle.program_libraries.proofs.ListedInputs.{AreListedOf}
use Rattle.program_libraries.proofs.listed.listed_inputs.Given as goal

-- the inputs are the files of the numbers so far
abbrev pub invariant-loop-number : goal.invariant-loop-number
invariant-loop-number l = AreListedOf l.files l.tree.objects.items (take l.number-index l.tree.list.items) l.inputs.items
