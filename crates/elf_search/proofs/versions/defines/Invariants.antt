use Rattle.std.proofs.Common.{◌≡◌}
use Rattle.elf_linking.specs.VersionTables.{definitions_in, definitions_left}
use Rattle.elf_linking.specs.Versions.{version_tables}
use Rattle.elf_search.specs.MissingVersions.{defines}
use Rattle.elf_search.proofs.versions.defines.Given as goal

-- a search of the remaining definitions has the result of a search of all
abbrev pub invariant-loop-item : goal.invariant-loop-item
invariant-loop-item l = defines l.hash l.name (definitions_left l.item-iterator) ≡ defines l.hash l.name (definitions_in (version_tables l.versions).definitions)
