use Rattle.program_libraries.specs.NeededVersions.{IsObjectMet}
use Rattle.program_libraries.proofs.Served.{AreBelow}
use Rattle.program_libraries.proofs.needed_versions.are_versions_met.Given as goal

-- what the objects so far need is met
abbrev pub invariant-loop-index : goal.invariant-loop-index
invariant-loop-index l = AreBelow l.objects (IsObjectMet l.files l.objects) l.index
