use Rattle.std.proofs.Common.{◌≡◌}
use Rattle.elf_linking.specs.DynamicView.{view_entries, view_strings}
use Rattle.elf_search.specs.Names.{names_in, names_left}
use Rattle.program_libraries.specs.NeededVersions.{edges_from}
use Rattle.program_libraries.proofs.needed_versions.edges_from.Given as goal

-- the edges are those from the first such name on among the names that are left
abbrev pub invariant-loop-needed : goal.invariant-loop-needed
invariant-loop-needed l = edges_from l.text (names_left l.needed-iterator) l.rest ≡ edges_from l.text (names_in (view_strings l.view) (view_entries l.view)) l.edges
