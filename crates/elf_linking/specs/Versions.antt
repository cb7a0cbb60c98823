-- The version of a symbol: its number, and the version of its object with that number (LSB, "Symbol Versioning"; that
-- the first one in the list counts is this project's own).
use Rattle.std.specs.Prelude.{All, IfSome, IsOk, IsOkAnd, true, false, ◌≡◌, ℕ, ◌<◌, ◌≤◌, ◌==◌, ◌&&◌, nat_lt, not, Bool, List, [], ◌∷◌, length, slice_get, Option, Some, None, option_map, ok_or, unwrap_or, Result, Ok, Err, if◌then◌else◌}
use Rattle.elf_base.specs.FirstError.{and_then}
use Rattle.elf_linking.specs.VersionList.{NamedParts, Defined, Needed, VersionEntry, VersionList, entry_of, is_base, named_in, numbers_in}
use Rattle.elf_linking.specs.VersionTables.{DefinitionParts, NeedParts, VersionTables, definition_parts, is_hidden, result_map, need_parts, tables_with, version_number}
use Rattle.elf_linking.specs.declared.error.LinkError.{LinkError}
use Rattle.elf_linking.specs.declared.error.LinkError.TheVariants.{SymbolIndex, VersionChain}
use Rattle.elf_linking.specs.declared.versions.Versions.{Versions}
use Rattle.elf_linking.specs.declared.versions.symbol.NamedVersion as named_version
use Rattle.elf_linking.specs.declared.versions.symbol.NamedVersion.TheVariants as variants
use Rattle.elf_linking.specs.declared.versions.symbol.SymbolVersion.{SymbolVersion}

-- the tables of a value
abbrev pub version_tables : Versions → VersionTables
version_tables versions = tables_with versions.numbers versions.definitions.records versions.needs

-- its versions: those in the tables, as `version_of` ensures
abbrev pub version_list : Versions → VersionList
version_list versions = versions.list.0

-- the number of the symbol at an index, of 16 bits, if the object has such numbers
abbrev pub number_of : Option (List ℕ) → ℕ → Result (Option ℕ) LinkError
number_of numbers index = unwrap_or (option_map
    (λ numbers. result_map Some (ok_or (slice_get numbers index) SymbolIndex)) numbers) (Ok None)

-- the first items are no errors, and none of them has the property
abbrev pub NoItemBefore : {A : Type 0} → (A → Type 0) → List (Result A LinkError) → ℕ → Type 0
NoItemBefore {A} P items high =
    (i : ℕ) → i < high → (item : A) × (slice_get items i ≡ Some (Ok item)) × (P item → ⊥)

-- the first item with the property, nothing if there is none, or the error before it
pub data IsFirst {A : Type 0} (P : A → Type 0) (items : List (Result A LinkError)) : Result (Option A) LinkError → Type 0 where
  found : (i : ℕ) (item : A) → NoItemBefore P items i → slice_get items i ≡ Some (Ok item) → P item
      → IsFirst P items (Ok (Some item))
  missing : NoItemBefore P items (length items) → IsFirst P items (Ok None)
  failed : (i : ℕ) (error : LinkError) → NoItemBefore P items i → slice_get items i ≡ Some (Err error)
      → IsFirst P items (Err error)

-- the same as a function
abbrev pub first_item : {A : Type 0} → (A → Bool) → List (Result A LinkError) → Result (Option A) LinkError
first_item test [] = Ok None
first_item test (Err error ∷ items) = Err error
first_item test (Ok item ∷ items) = if test item then Ok (Some item) else first_item test items

-- a definition that is not the base has a number
abbrev pub defines_number : ℕ → DefinitionParts → Bool
defines_number n d = version_number d.number == n && not (is_base d.flags)

-- a part of a need has a number
abbrev pub needs_number : ℕ → NeedParts → Bool
needs_number n need = need.number == n

-- the version of a symbol: its number, whether it is hidden, and the item with that number, if there is one
pub record VersionParts (A : Type 0) : Type 0 where
  pub number : ℕ
  pub hidden : Bool
  pub named : Option A

-- the first item with a number; nothing for 0, of local symbols, and 1, of global ones
abbrev pub item_with : {A : Type 0} → (A → ℕ) → List (Result A LinkError) → ℕ → Result (Option A) LinkError
item_with number items n = if nat_lt n 2 then Ok None else first_item (λ item. number item == n) items

-- the version of a number of 16 bits, if there is one
abbrev pub version_with : {A : Type 0} → (A → ℕ) → List (Result A LinkError) → Option ℕ → Result (Option (VersionParts A)) LinkError
version_with number items None = Ok None
version_with number items (Some raw) = result_map (λ named. Some (record { number = version_number raw; hidden = is_hidden raw; named = named }))
    (item_with number items (version_number raw))

-- the version of the symbol at an index; nothing if the object has no numbers of symbols
abbrev pub version_at : VersionList → ℕ → Result (Option (VersionParts VersionEntry)) LinkError
version_at list index = and_then (number_of list.numbers index) (version_with (λ entry. entry.number) list.entries)

-- the same with the definition or the part of a need
abbrev pub named_at : VersionTables → ℕ → Result (Option (VersionParts NamedParts)) LinkError
named_at tables index = and_then (number_of (numbers_in tables) index) (version_with (λ named. (entry_of named).number) (named_in tables))

-- the entry with a number: none for 0, of local symbols, and 1, of global ones; otherwise the first in the list
pub data IsEntryWith (entries : List (Result VersionEntry LinkError)) (n : ℕ) : Result (Option VersionEntry) LinkError → Type 0 where
  reserved : n < 2 → IsEntryWith entries n (Ok None)
  first : (answer : Result (Option VersionEntry) LinkError) → 2 ≤ n → IsFirst (λ entry. entry.number ≡ n) entries answer
      → IsEntryWith entries n answer

-- the version of the symbol at an index, nothing if the object has no numbers of symbols, or the error
pub data IsVersion (list : VersionList) (index : ℕ) : Result (Option (VersionParts VersionEntry)) LinkError → Type 0 where
  no_numbers : number_of list.numbers index ≡ Ok None → IsVersion list index (Ok None)
  no_number : (error : LinkError) → number_of list.numbers index ≡ Err error → IsVersion list index (Err error)
  version : (raw : ℕ) (named : Option VersionEntry) → number_of list.numbers index ≡ Ok (Some raw)
      → IsEntryWith list.entries (version_number raw) (Ok named)
      → IsVersion list index (Ok (Some (record { number = version_number raw; hidden = is_hidden raw; named = named })))
  unreadable : (raw : ℕ) (error : LinkError) → number_of list.numbers index ≡ Ok (Some raw)
      → IsEntryWith list.entries (version_number raw) (Err error) → IsVersion list index (Err error)

-- the fields of a definition or a need
abbrev pub named_parts : named_version.NamedVersion → NamedParts
named_parts (variants.Defined d) = Defined (definition_parts d)
named_parts (variants.Needed need) = Needed (need_parts need)

-- its entry
abbrev pub named_entry : named_version.NamedVersion → VersionEntry
named_entry named = entry_of (named_parts named)

-- a version, by what is made of the item with its number
abbrev pub with_named : {A B : Type 0} → (A → B) → VersionParts A → VersionParts B
with_named make v = record { number = v.number; hidden = v.hidden; named = option_map make v.named }

-- the fields of a version, with the definition or the part of a need
abbrev pub version_parts : SymbolVersion → VersionParts NamedParts
version_parts v = record { number = v.number; hidden = v.hidden; named = option_map named_parts v.named }

-- the same with the entry
abbrev pub version_entry : SymbolVersion → VersionParts VersionEntry
version_entry v = with_named entry_of (version_parts v)

-- the fields of the version of a symbol, if it has one
abbrev pub version_item : Result (Option SymbolVersion) LinkError → Result (Option (VersionParts NamedParts)) LinkError
version_item answer = result_map (option_map version_parts) answer

-- the same with the entry
abbrev pub entry_item : Result (Option SymbolVersion) LinkError → Result (Option (VersionParts VersionEntry)) LinkError
entry_item answer = result_map (option_map version_entry) answer

-- the versions of some symbols can be read: there is a number for each symbol, or there are no numbers; each version is
-- whole and has a name; and there are as many as the file tells
pub record CanBeRead (list : VersionList) (count : ℕ) : Type 0 where
  pub numbers : (i : ℕ) → i < count → IsOk (number_of list.numbers i)
  pub entries : All (λ item. IsOkAnd item (λ entry. IsOk entry.name)) list.entries
  pub counted : list.counted ≡ true

-- there are fewer numbers than symbols
abbrev pub lacks_numbers : Option (List ℕ) → ℕ → Bool
lacks_numbers numbers count = unwrap_or (option_map (λ numbers. nat_lt (length numbers) count) numbers) false

-- the first error of some items, or of the name of one
abbrev pub name_error : {A : Type 0} → (A → Result (List ℕ) LinkError) → List (Result A LinkError) → Result (Unit {0}) LinkError
name_error name [] = Ok tt
name_error name (Err error ∷ items) = Err error
name_error name (Ok item ∷ items) = and_then (name item) (λ _. name_error name items)

-- the error of a list that has not as many versions as the file tells
abbrev pub count_error : Bool → Result (Unit {0}) LinkError
count_error counted = if counted then Ok tt else Err VersionChain

-- why the versions can't be read, the first reason: a number is missing; the first error in the list; their number
abbrev pub versions_error : VersionList → ℕ → Result (Unit {0}) LinkError
versions_error list count = if lacks_numbers list.numbers count then Err SymbolIndex
    else and_then (name_error (λ entry. entry.name) list.entries) (λ _. count_error list.counted)

-- the entry of a version, if there is one, has a name that can be read
abbrev pub HasReadableName : Option (VersionParts VersionEntry) → Type 0
HasReadableName parts = IfSome parts (λ v. IfSome v.named (λ entry. IsOk entry.name))
