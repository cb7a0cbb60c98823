use Rattle.elf_linking.specs.VersionTables.{needs_left}
use Rattle.program_libraries.specs.NeededVersions.{AreAllMet, IsMet}
use Rattle.program_libraries.proofs.needed_versions.are_all_met.Given as goal

-- all needs are met if those that are left are
abbrev pub invariant-loop-item : goal.invariant-loop-item
invariant-loop-item l = AreAllMet (IsMet l.files l.objects l.view l.edges) (needs_left l.item-iterator) → AreAllMet (IsMet l.files l.objects l.view l.edges) (needs_left l.needs)
