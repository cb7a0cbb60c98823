-- Versions that an object needs of another and that are missing there, as numbers and input ranges (LSB, "Symbol
-- Versioning").
use Rattle.std.specs.Prelude.{ℕ, false, List, [], ◌∷◌, map, Option, None, Some, Result, Ok, Err}
use Rattle.elf_linking.specs.DynamicView.{dynamic_entries_of, number_with}
use Rattle.elf_linking.specs.VersionTables.{VersionTables, definitions_in, needs_in}
use Rattle.elf_linking.specs.declared.error.LinkError.{LinkError}
use Rattle.elf_linking.specs.declared.view.tags.TheConstants.{DT_VERDEF}
use Rattle.elf_records.specs.declared.dynamic.Dynamic.{Dynamic}
use Rattle.elf_search.specs.MissingVersions.{Defined, MissingParts, NoVersions, ProvidedParts, missing_in}
use Rattle.elf_search.specs.declared.error.SearchError.{SearchError}
use Rattle.elf_search.specs.declared.versions.Lack.{Lack}
use Rattle.elf_search.specs.declared.versions.Lack.TheVariants.{NoInformation, Strong, Weak}
use Rattle.xmas_elf.specs.declared.ElfFile.{ElfFile}
use Rattle.elf_c.specs.Status.{failure_number}
use Rattle.elf_c.specs.Versions.{file_version_tables, needed_as, strings_range_of, tables_by, unnamed}
use Rattle.elf_c.specs.declared.names.Range.{Range}
use Rattle.elf_c.specs.declared.search_versions.LackedVersion.{LackedVersion}
use Rattle.elf_c.specs.declared.search_versions.TheConstants.{NO_INFORMATION, STRONG, WEAK}
use Rattle.elf_c.specs.declared.status.AnyError.{AnyError}
use Rattle.elf_c.specs.declared.status.AnyError.TheVariants.{Link, Search}

-- the number of why a version is missing
abbrev pub lack_number : Lack → ℕ
lack_number NoInformation = NO_INFORMATION
lack_number Weak = WEAK
lack_number Strong = STRONG

-- a version that can't be read
abbrev pub not_read : SearchError → LackedVersion
not_read error = record { version = record (unnamed 0 false) { status = failure_number (Search error) }; lack = 0 }

-- a missing version as numbers, or why it can't be read
abbrev pub missing_record : List ℕ → Result Range AnyError → Result MissingParts SearchError → LackedVersion
missing_record input strings (Ok missing) = record {
  version = needed_as input strings missing.need.number missing.need.hidden missing.need;
  lack = lack_number missing.lack;
}
missing_record input strings (Err error) = not_read error

-- what an object provides, by its entry DT_VERDEF and its tables
abbrev pub provided_with : Option ℕ → Result VersionTables LinkError → Result ProvidedParts AnyError
provided_with found (Err error) = Err (Link error)
provided_with None (Ok tables) = Ok NoVersions
provided_with (Some address) (Ok tables) = Ok (Defined (definitions_in tables.definitions))

-- what an object provides, by its dynamic entries
abbrev pub provided_by : ElfFile → Result (List (Dynamic ℕ)) LinkError → Result ProvidedParts AnyError
provided_by file (Ok entries) = provided_with (number_with DT_VERDEF entries) (tables_by file 0 (Ok entries))
provided_by file (Err error) = Err (Link error)

-- what a file provides: definitions of versions, or none
abbrev pub provided_of : ElfFile → Result ProvidedParts AnyError
provided_of file = provided_by file (dynamic_entries_of file)

-- the versions that a file needs of an object with a name, and that are missing among what this one provides
abbrev pub missing_between : ElfFile → List ℕ → Result VersionTables LinkError → Result ProvidedParts AnyError → Result (List LackedVersion) AnyError
missing_between file name (Err error) provided = Err (Link error)
missing_between file name (Ok tables) (Err why) = Err why
missing_between file name (Ok tables) (Ok provided) = Ok (map (missing_record file.input.now (strings_range_of file))
    (missing_in (record { names = name ∷ []; provided = provided } ∷ []) (needs_in tables.needs)))

-- the versions that a file needs of another one with a name, and that this one lacks
abbrev pub missing_rows : ElfFile → List ℕ → ElfFile → Result (List LackedVersion) AnyError
missing_rows file name other = missing_between file name (file_version_tables file 0) (provided_of other)
