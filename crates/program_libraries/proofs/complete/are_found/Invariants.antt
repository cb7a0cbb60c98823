use Rattle.std.proofs.Common.{◌≡◌}
use Rattle.elf_linking.specs.DynamicView.{view_entries, view_strings}
use Rattle.elf_search.specs.Names.{names_in, names_left}
use Rattle.program_libraries.specs.NeededNames.{are_found}
use Rattle.program_libraries.proofs.complete.are_found.Given as goal

-- the names that are left have found what they need just if all have
abbrev pub invariant-loop-needed : goal.invariant-loop-needed
invariant-loop-needed l = are_found l.count (names_left l.needed-iterator) l.rest ≡ are_found l.count (names_in (view_strings l.view) (view_entries l.view)) l.edges
