use Rattle.std.proofs.Common.{◌≡◌}
use Rattle.elf_linking.specs.VersionTables.{definitions_in, definitions_left}
use Rattle.elf_linking.specs.Versions.{version_tables, first_item}
use Rattle.linking_callers.specs.VersionNames.{defines}
use Rattle.linking_callers.proofs.callers.versions.search_definitions.Given as goal

-- a search of what is left has the answer of a search of all
abbrev pub invariant-loop-item : goal.invariant-loop-item
invariant-loop-item l = first_item (defines l.name) (definitions_left l.item-iterator) ≡ first_item (defines l.name) (definitions_in (version_tables l.fn.versions).definitions)
