use Rattle.std.specs.Prelude.{length}
use Rattle.program_libraries.specs.NeededNames.{IsServed}
use Rattle.program_libraries.proofs.Served.{AreBelow}
use Rattle.program_libraries.proofs.complete.are_names_found.Given as goal

-- the objects so far are served
abbrev pub invariant-loop-index : goal.invariant-loop-index
invariant-loop-index l = AreBelow l.objects (IsServed l.files (length l.objects)) l.index
