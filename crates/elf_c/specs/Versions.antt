-- Versions of symbols as numbers and input ranges: those of the symbols of the dynamic segment, and those that a
-- file defines and needs (LSB, "Symbol Versioning").
use Rattle.std.specs.Prelude.{◌≡◌, ◌<◌, ◌^◌, ℕ, min, Bool, false, is_some, List, map, slice_get, Option, None, Some, Result, Ok, Err, if◌then◌else◌}
use Rattle.std.specs.List.{range_with_len}
use Rattle.elf_linking.specs.DynamicView as view
use Rattle.elf_linking.specs.DynamicView.{dynamic_entries_of}
use Rattle.elf_linking.specs.VersionTables.{DefinitionParts, NeedParts, VersionTables, definitions_in, needs_in, version_tables_of}
use Rattle.elf_linking.specs.VersionList.{Defined, NamedParts, Needed}
use Rattle.elf_linking.specs.Versions.{VersionParts, named_at}
use Rattle.elf_linking.specs.declared.error.LinkError.{LinkError}
use Rattle.elf_records.specs.declared.dynamic.Dynamic.{Dynamic}
use Rattle.xmas_elf.specs.declared.ElfFile.{ElfFile}
use Rattle.elf_c.specs.Batch.{Fills}
use Rattle.elf_c.specs.DynamicSymbols.{IsDynamicCount, strings_range_by}
use Rattle.elf_c.specs.DynamicTexts.{linked_name, range_in_strings}
use Rattle.elf_c.specs.Records.{LiesIn, flag_number, record_in, range_at}
use Rattle.elf_c.specs.Status.{failure_number}
use Rattle.elf_c.specs.declared.names.Name.{Name}
use Rattle.elf_c.specs.declared.names.Range.{Range}
use Rattle.elf_c.specs.declared.status.AnyError.{AnyError}
use Rattle.elf_c.specs.declared.status.AnyError.TheVariants.{Link, NotFound}
use Rattle.elf_c.specs.declared.versions.Version.{Version}
use Rattle.elf_c.specs.declared.versions.TheConstants.{DEFINED, NEEDED, UNNAMED}

-- the version tables by the entries, for this number of symbols, or why there are none
abbrev pub tables_by : ElfFile → ℕ → Result (List (Dynamic ℕ)) LinkError → Result VersionTables LinkError
tables_by file count (Ok entries) = version_tables_of file entries (view.strings_by file entries) count
tables_by file count (Err error) = Err error

-- the version tables of a file's dynamic segment
abbrev pub file_version_tables : ElfFile → ℕ → Result VersionTables LinkError
file_version_tables file count = tables_by file count (dynamic_entries_of file)

-- the input range of the string table of a file's dynamic segment, or why there is none
abbrev pub strings_range_of : ElfFile → Result Range AnyError
strings_range_of file = strings_range_by file (dynamic_entries_of file)

-- the range of the name at an offset in the string table, with its status
abbrev pub version_name_range : List ℕ → Result Range AnyError → Result ℕ LinkError → Name
version_name_range input strings (Ok offset) = linked_name (range_in_strings input strings offset)
version_name_range input strings (Err error) = linked_name (Err (Link error))

-- a version whose number no definition and no need has
abbrev pub unnamed : ℕ → Bool → Version
unnamed number hidden = record {
  name = range_at 0 0;
  file = range_at 0 0;
  status = 0;
  name_status = 0;
  file_status = 0;
  kind = UNNAMED;
  number = number;
  hidden = flag_number hidden;
  flags = 0;
  hash = 0;
}

-- a version that can't be read: the number of the error and zeros
abbrev pub unreadable : LinkError → Version
unreadable error = record {
  name = range_at 0 0;
  file = range_at 0 0;
  status = failure_number (Link error);
  name_status = 0;
  file_status = 0;
  kind = UNNAMED;
  number = 0;
  hidden = 0;
  flags = 0;
  hash = 0;
}

-- a version whose number a definition has
abbrev pub defined_as : List ℕ → Result Range AnyError → ℕ → Bool → DefinitionParts → Version
defined_as input strings number hidden d = let name = version_name_range input strings d.name_offset in record {
  name = name.range;
  file = range_at 0 0;
  status = 0;
  name_status = name.status;
  file_status = 0;
  kind = DEFINED;
  number = number;
  hidden = flag_number hidden;
  flags = d.flags;
  hash = d.hash;
}

-- a version whose number a need has
abbrev pub needed_as : List ℕ → Result Range AnyError → ℕ → Bool → NeedParts → Version
needed_as input strings number hidden need =
    let name = version_name_range input strings (Ok need.name_offset) in
    let file = version_name_range input strings (Ok need.file_offset) in record {
      name = name.range;
      file = file.range;
      status = 0;
      name_status = name.status;
      file_status = file.status;
      kind = NEEDED;
      number = number;
      hidden = flag_number hidden;
      flags = need.flags;
      hash = need.hash;
    }

-- a definition of the list, or why it can't be read
abbrev pub definition_record : List ℕ → Result Range AnyError → Result DefinitionParts LinkError → Version
definition_record input strings (Ok d) = defined_as input strings d.number false d
definition_record input strings (Err error) = unreadable error

-- a need of the list, or why it can't be read
abbrev pub need_record : List ℕ → Result Range AnyError → Result NeedParts LinkError → Version
need_record input strings (Ok need) = needed_as input strings need.number need.hidden need
need_record input strings (Err error) = unreadable error

-- the definitions of a file, in order
abbrev pub definition_items : List ℕ → Result Range AnyError → List (Result DefinitionParts LinkError) → List Version
definition_items input strings items = map (definition_record input strings) items

-- the needs of a file, in order
abbrev pub need_items : List ℕ → Result Range AnyError → List (Result NeedParts LinkError) → List Version
need_items input strings items = map (need_record input strings) items

-- the definition at an index of the tables, or why there is none
abbrev pub definition_in : ElfFile → ℕ → Result VersionTables LinkError → Result Version AnyError
definition_in file index (Ok tables) = record_in (λ one. one)
    (definition_items file.input.now (strings_range_of file) (definitions_in tables.definitions)) index
definition_in file index (Err error) = Err (Link error)

-- the definition at an index of a file: of its tables without the numbers of symbols
abbrev pub definition_record_at : ElfFile → ℕ → Result Version AnyError
definition_record_at file index = definition_in file index (file_version_tables file 0)

-- the need at an index of the tables, or why there is none
abbrev pub need_in : ElfFile → ℕ → Result VersionTables LinkError → Result Version AnyError
need_in file index (Ok tables) = record_in (λ one. one)
    (need_items file.input.now (strings_range_of file) (needs_in tables.needs)) index
need_in file index (Err error) = Err (Link error)

-- the need at an index of a file: of its tables without the numbers of symbols
abbrev pub need_record_at : ElfFile → ℕ → Result Version AnyError
need_record_at file index = need_in file index (file_version_tables file 0)

-- the definition or the need with the number of a symbol
abbrev pub version_by : List ℕ → Result Range AnyError → ℕ → Bool → Option NamedParts → Version
version_by input strings number hidden None = unnamed number hidden
version_by input strings number hidden (Some (Defined d)) = defined_as input strings number hidden d
version_by input strings number hidden (Some (Needed need)) = needed_as input strings number hidden need

-- the version of a symbol, or why it can't be read
abbrev pub version_record : List ℕ → Result Range AnyError → Result (Option (VersionParts NamedParts)) LinkError → Version
version_record input strings (Ok (Some version)) = version_by input strings version.number version.hidden version.named
version_record input strings (Ok None) = unnamed 0 false
version_record input strings (Err error) = unreadable error

-- the version of the symbol at an index of the tables, whose symbols have indices below 2 to the 32
abbrev pub symbol_version_in : ElfFile → ℕ → ℕ → Result VersionTables LinkError → Result Version AnyError
symbol_version_in file count index (Ok tables) = if is_some tables.numbers
    then record_in (λ i. version_record file.input.now (strings_range_of file) (named_at tables i))
    (range_with_len 0 (min count (2 ^ 32))) index
    else Err NotFound
symbol_version_in file count index (Err error) = Err (Link error)

-- the version of the symbol at an index of a file with this number of symbols, or why there is none
abbrev pub symbol_version_at : ElfFile → Result ℕ LinkError → ℕ → Result Version AnyError
symbol_version_at file (Ok count) index = symbol_version_in file count index (file_version_tables file count)
symbol_version_at file (Err error) index = Err (Link error)

-- the result of a call for the versions of many symbols
abbrev pub FillsVersions : ElfFile → ℕ → List Version → Result ℕ AnyError → List Version → Type 0
FillsVersions file first old answer new = (count : Result ℕ LinkError) × IsDynamicCount file count
    × Fills (symbol_version_at file count) first old answer new

-- the ranges of a version's names lie in the input
abbrev pub NamesLieIn : List ℕ → Version → Type 0
NamesLieIn input version = LiesIn input version.name × LiesIn input version.file

-- the ranges of the names of the first `count` versions lie in the input
abbrev pub AllNamesLieIn : List ℕ → ℕ → List Version → Type 0
AllNamesLieIn input count versions =
    (k : ℕ) (version : Version) → k < count → slice_get versions k ≡ Some version → NamesLieIn input version
