use Rattle.std.proofs.Common.{◌≡◌, length, take}
use Rattle.linking_programs.specs.Files.{AreObjectsOf}
use Rattle.linking_programs.proofs.read_objects.Given as goal

-- the objects of the inputs so far, and their number
abbrev pub invariant-loop-input : goal.invariant-loop-input
invariant-loop-input g l =
    AreObjectsOf g.E.LinkedSymbol.CLASS g.E.Record.SIZE (take l.input-index l.fn.inputs) l.objects.items
    × (length l.objects.items ≡ l.input-index)
