-- The names of the libraries that an object asks for (gABI, "Dynamic Section": DT_NEEDED; DT_AUXILIARY and DT_FILTER of
-- Solaris and GNU, `elf.h`).
use Rattle.std.specs.Prelude.{ℕ, ◌==◌, List, [], ◌∷◌, Option, None, Some, option_map, Result, if◌then◌else◌}
use Rattle.elf_linking.specs.DynamicView.{bytes_in_strings, entries_left}
use Rattle.elf_linking.specs.Loaded.{lent}
use Rattle.elf_linking.specs.declared.error.LinkError.{LinkError}
use Rattle.elf_linking.specs.declared.view.tags.TheConstants.{DT_AUXILIARY, DT_FILTER, DT_NEEDED}
use Rattle.elf_records.specs.Dynamic.{dynamic_tag, dynamic_value}
use Rattle.elf_records.specs.declared.dynamic.Dynamic.{Dynamic}
use Rattle.elf_search.specs.declared.names.NameKind.{NameKind}
use Rattle.elf_search.specs.declared.names.NameKind.TheVariants.{Auxiliary, Filter, Needed}
use Rattle.elf_search.specs.declared.names.NeededName.{NeededName}
use Rattle.elf_search.specs.declared.names.NeededNames.{NeededNames}

-- a name that an object asks for: what for, and its bytes or why they can't be read
pub record NameParts : Type 0 where
  pub kind : NameKind
  pub name : Result (List ℕ) LinkError

-- what an entry with this tag asks for, if it asks for a library
abbrev pub kind_of : ℕ → Option NameKind
kind_of tag = if tag == DT_NEEDED then Some Needed else (if tag == DT_AUXILIARY then Some Auxiliary
    else (if tag == DT_FILTER then Some Filter else None))

-- the name of an entry, if it asks for a library, and some names after it
abbrev pub behind_name : Option NameKind → Result (List ℕ) LinkError → List NameParts → List NameParts
behind_name None name names = names
behind_name (Some kind) name names = record { kind = kind; name = name } ∷ names

-- the names at the offsets in the entries that ask for a library, in order
abbrev pub names_in : Result (List ℕ) LinkError → List (Dynamic ℕ) → List NameParts
names_in strings [] = []
names_in strings (entry ∷ entries) =
    behind_name (kind_of (dynamic_tag entry)) (bytes_in_strings strings (dynamic_value entry)) (names_in strings entries)

-- the fields of a name
abbrev pub name_parts : NeededName → NameParts
name_parts item = record { kind = item.kind; name = lent item.name }

-- the names that an iterator has not yet returned
abbrev pub names_left : NeededNames → List NameParts
names_left iter = names_in (lent iter.strings) (entries_left iter.entries)

-- the number in the last entry with a tag, or the one before if there is none
abbrev pub last_number : ℕ → Option ℕ → List (Dynamic ℕ) → Option ℕ
last_number tag before [] = before
last_number tag before (entry ∷ entries) =
    last_number tag (if dynamic_tag entry == tag then Some (dynamic_value entry) else before) entries

-- the bytes at that number in a string table
abbrev pub last_text_of : ℕ → Result (List ℕ) LinkError → List (Dynamic ℕ) → Option (Result (List ℕ) LinkError)
last_text_of tag strings entries = option_map (bytes_in_strings strings) (last_number tag None entries)
