-- The versions of an object as one list: those that it defines, then those that it needs of libraries (LSB, "Symbol
-- Versioning": Verdef, Vernaux; that a definition isn't hidden, as glibc's linker has it).
use Rattle.std.specs.Prelude.{◌≡◌, ℕ, ◌*◌, ◌/◌, ◌%◌, ◌==◌, Bool, false, List, ◌++◌, length, map, Option, option_map, Result, if◌then◌else◌}
use Rattle.std.specs.List.{range_with_len}
use Rattle.elf_base.specs.Number.{number}
use Rattle.elf_linking.specs.VersionTables.{DefinitionParts, NeedParts, VersionTables, definitions_in, is_counted, needs_in, result_map, version_number}
use Rattle.elf_linking.specs.declared.error.LinkError.{LinkError}
use mathlib.Core.Equiv.{contr→prop, id_equiv}

-- a version that an object defines or needs: its number, whether it is hidden, the hash number of its name, and the
-- name, or why that can't be read
pub record VersionEntry : Type 0 where
  pub number : ℕ
  pub hidden : Bool
  pub hash : ℕ
  pub name : Result (List ℕ) LinkError

-- the versions of an object: the number of each symbol, of 16 bits, if it has such numbers; the versions in order,
-- with an error in the place of one that can't be read; and whether there are as many as the file tells
pub record VersionList : Type 0 where
  pub numbers : Option (List ℕ)
  pub entries : List (Result VersionEntry LinkError)
  pub counted : Bool

-- a definition is the base, which names the file and no version of a symbol (VER_FLG_BASE)
abbrev pub is_base : ℕ → Bool
is_base flags = flags % 2 == 1

-- a version in the tables: a definition, or a part of a need
pub data NamedParts : Type 0 where
  Defined : DefinitionParts → NamedParts
  Needed : NeedParts → NamedParts

-- its entry; the base has number 0, which is that of no version
abbrev pub entry_of : NamedParts → VersionEntry
entry_of (Defined d) = record {
  number = if is_base d.flags then 0 else version_number d.number;
  hidden = false;
  hash = d.hash;
  name = d.name;
}
entry_of (Needed need) = record { number = need.number; hidden = need.hidden; hash = need.hash; name = need.name }

-- the versions in tables: the definitions in order, then the needs
abbrev pub named_in : VersionTables → List (Result NamedParts LinkError)
named_in tables = map (result_map Defined) (definitions_in tables.definitions)
    ++ map (result_map Needed) (needs_in tables.needs)

-- the numbers of symbols in tables, of two bytes each
abbrev pub numbers_in : VersionTables → Option (List ℕ)
numbers_in tables = option_map (λ bytes. map (λ i. number tables.definitions.order 2 (i * 2) bytes)
    (range_with_len 0 (length bytes / 2))) tables.numbers

-- the entries of the versions in tables
abbrev pub entries_in : VersionTables → List (Result VersionEntry LinkError)
entries_in tables = map (result_map entry_of) (named_in tables)

-- the versions of an object, by its tables
abbrev pub versions_in : VersionTables → VersionList
versions_in tables = record { numbers = numbers_in tables; entries = entries_in tables; counted = is_counted tables }

-- there is one such list
pub is_one_list : {list : VersionList} → IsProp ((same : VersionList) × (same ≡ list))
is_one_list {list} = contr→prop ((id_equiv VersionList).1 list)
