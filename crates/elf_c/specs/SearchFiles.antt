-- What a file says about the search for its libraries, as numbers and input ranges (gABI, "Dynamic Section"; `ld.so` of
-- glibc 2.36).
use Rattle.std.specs.Prelude.{ℕ, List, [], ◌∷◌, Option, None, Some, option_map, Result, Ok, Err}
use Rattle.elf_base.specs.FirstError.{unless}
use Rattle.elf_linking.specs.DynamicView.{dynamic_entries_of}
use Rattle.elf_linking.specs.declared.error.LinkError.{LinkError}
use Rattle.elf_records.specs.Dynamic.{dynamic_tag, dynamic_value}
use Rattle.elf_records.specs.declared.dynamic.Dynamic.{Dynamic}
use Rattle.elf_search.specs.Library.{library_rows, shared_rows}
use Rattle.elf_search.specs.Names.{kind_of, last_number}
use Rattle.elf_search.specs.declared.error.SearchError.{SearchError}
use Rattle.elf_library.specs.declared.fits.Fit.{Fit}
use Rattle.elf_library.specs.declared.fits.Fit.TheVariants.{PassedOver, Taken}
use Rattle.elf_search.specs.declared.names.NameKind.{NameKind}
use Rattle.elf_search.specs.declared.names.NameKind.TheVariants.{Auxiliary, Filter, Needed}
use Rattle.xmas_elf.specs.declared.ElfFile.{ElfFile}
use Rattle.elf_c.specs.DynamicTexts.{linked_name, range_in_strings, strings_range}
use Rattle.elf_c.specs.Records.{record_in}
use Rattle.elf_c.specs.declared.names.Name.{Name}
use Rattle.elf_c.specs.declared.names.Range.{Range}
use Rattle.elf_c.specs.declared.search_files.NeededName.{NeededName}
use Rattle.elf_c.specs.declared.search_files.TheConstants.{AUXILIARY, FILTER, NEEDED, PASSED_OVER, TAKEN}
use Rattle.elf_c.specs.declared.status.AnyError.{AnyError}
use Rattle.elf_c.specs.declared.status.AnyError.TheVariants.{Link, NotFound, Search}

-- the number of what an object asks for
abbrev pub kind_number : NameKind → ℕ
kind_number Needed = NEEDED
kind_number Auxiliary = AUXILIARY
kind_number Filter = FILTER

-- that of an entry with a tag, if it asks for a library
abbrev pub needed_kind : ℕ → Option ℕ
needed_kind tag = option_map kind_number (kind_of tag)

-- the name of an entry, if it asks for a library, and some names after it
abbrev pub behind_row : Option ℕ → Name → List NeededName → List NeededName
behind_row None name rows = rows
behind_row (Some kind) name rows = record { range = name.range; status = name.status; kind = kind } ∷ rows

-- the names of the entries that ask for a library, in order
abbrev pub needed_rows : List ℕ → Result Range AnyError → List (Dynamic ℕ) → List NeededName
needed_rows input strings [] = []
needed_rows input strings (entry ∷ entries) = behind_row (needed_kind (dynamic_tag entry))
    (linked_name (range_in_strings input strings (dynamic_value entry))) (needed_rows input strings entries)

-- the name at an index among those of given entries of a file, or why there is none
abbrev pub needed_name_among : ElfFile → ℕ → Result (List (Dynamic ℕ)) LinkError → Result NeededName AnyError
needed_name_among file index (Ok entries) =
    record_in (λ name. name) (needed_rows file.input.now (strings_range file entries) entries) index
needed_name_among file index (Err error) = Err (Link error)

-- the name at an index among those that the dynamic entries of a file ask for, or why there is none
abbrev pub needed_name_at : ElfFile → ℕ → Result NeededName AnyError
needed_name_at file index = needed_name_among file index (dynamic_entries_of file)

-- a number that is found, or that nothing is
abbrev pub found_or_not : Option ℕ → Result ℕ AnyError
found_or_not None = Err NotFound
found_or_not (Some value) = Ok value

-- the number in the last of given entries with a tag
abbrev pub last_entry_among : ℕ → Result (List (Dynamic ℕ)) LinkError → Result ℕ AnyError
last_entry_among tag (Ok entries) = found_or_not (last_number tag None entries)
last_entry_among tag (Err error) = Err (Link error)

-- the number in the last dynamic entry of a file with a tag
abbrev pub last_entry_of : ElfFile → ℕ → Result ℕ AnyError
last_entry_of file tag = last_entry_among tag (dynamic_entries_of file)

-- the range of the text at a number that is found
abbrev pub text_at_found : ElfFile → List (Dynamic ℕ) → Option ℕ → Result Range AnyError
text_at_found file entries None = Err NotFound
text_at_found file entries (Some place) = range_in_strings file.input.now (strings_range file entries) place

-- the range of the text that the last of given entries with a tag names
abbrev pub last_text_among : ElfFile → ℕ → Result (List (Dynamic ℕ)) LinkError → Result Range AnyError
last_text_among file tag (Ok entries) = text_at_found file entries (last_number tag None entries)
last_text_among file tag (Err error) = Err (Link error)

-- the range of the text that the last dynamic entry of a file with a tag names
abbrev pub last_text_range : ElfFile → ℕ → Result Range AnyError
last_text_range file tag = last_text_among file tag (dynamic_entries_of file)

-- what a search does with a file, as a number
abbrev pub fit_number : Fit → ℕ
fit_number PassedOver = PASSED_OVER
fit_number Taken = TAKEN

-- that number, or the error of a search as one of an export
abbrev pub fit_answer : Result Fit SearchError → Result ℕ AnyError
fit_answer (Ok fit) = Ok (fit_number fit)
fit_answer (Err error) = Err (Search error)

-- an error of a search as one of an export, or what comes after none
abbrev pub and_library : Result (Unit {0}) SearchError → Result (Unit {0}) AnyError → Result (Unit {0}) AnyError
and_library (Ok _) later = later
and_library (Err error) later = Err (Search error)

-- why a library with these entries is an executable
abbrev pub shared_among : Result (List (Dynamic ℕ)) LinkError → Result (Unit {0}) AnyError
shared_among (Ok entries) = and_library (unless (shared_rows entries) tt) (Ok tt)
shared_among (Err error) = Err (Link error)

-- why a file is no library, by its header and segments and then by its dynamic entries
abbrev pub library_of : ElfFile → Result (Unit {0}) AnyError
library_of file = and_library (unless (library_rows file) tt) (shared_among (dynamic_entries_of file))
