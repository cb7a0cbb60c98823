-- The symbol of a file that a reference by a name and a version gets (LSB, "Symbol Versioning"; which symbols
-- serve a use, and that a hidden version is no default, as glibc's linker has it).
use Rattle.std.specs.Prelude.{◌≡◌, ◌≢◌, ℕ, ◌%◌, ◌==◌, ◌&&◌, ◌||◌, nat_lt, not, Bool, true, false, List, length, Option, Some, None, Result, Ok, Err, IsOkAnd, option_map, unwrap_or, if◌then◌else◌}
use Rattle.std.specs.Borrow.{Bor}
use Rattle.std.specs.Str.{bytes_eq}
use Rattle.elf_base.specs.FirstError.{and_then}
use Rattle.elf_records.specs.HashNumber.{hash_number}
use Rattle.elf_linking.specs.AnyTable.{FindsAllWhereBy, LooksWhereBy}
use Rattle.elf_linking.specs.VersionList.{VersionEntry, VersionList}
use Rattle.elf_linking.specs.VersionTables.{is_hidden, result_map, version_number}
use Rattle.elf_linking.specs.Versions.{CanBeRead, VersionParts, number_of, version_at}
use Rattle.elf_linking.specs.declared.any_table.AnyTable.{AnyTable}
use Rattle.elf_linking.specs.declared.error.LinkError.{LinkError}
use Rattle.elf_linking.specs.declared.find.Use as uses
use Rattle.elf_linking.specs.declared.find.Use.TheVariants.{Any, Copy, Defined}
use Rattle.elf_linking.specs.declared.find.Wanted.{Wanted}
use Rattle.elf_linking.specs.declared.find.Wanted.TheVariants.{Newest, Unversioned, Version}
use Rattle.xmas_elf.specs.Symbol.{SymbolFields, Symbols}

-- the dynamic symbols of a file: their hash table, the symbols, and the versions
pub record DynamicSymbols (E : Type 0) : Type 0 where
  pub table : AnyTable
  pub symbols : Symbols E
  pub versions : VersionList

-- Which symbols serve a use.

-- the type is one that look-ups return: none, an object, a function, a common block, thread-local storage
-- (STT_TLS), or GNU's indirect function
abbrev pub has_linked_type : SymbolFields → Bool
has_linked_type e = let kind = e.info % 16 in
    kind == 0 || (kind == 1 || (kind == 2 || (kind == 5 || (kind == 6 || kind == 10))))

-- the symbol has a value, is absolute (SHN_ABS), or is thread-local, so that its value may be 0
abbrev pub has_place : SymbolFields → Bool
has_place e = not (e.value == 0) || (e.shndx == 65521 || e.info % 16 == 6)

-- a use that wants a defined symbol isn't served by one with section index 0 (SHN_UNDEF)
abbrev pub is_defined_for : uses.Use → SymbolFields → Bool
is_defined_for Defined e = not (e.shndx == 0)
is_defined_for Any e = true
is_defined_for Copy e = true

-- a symbol serves a use: by its type, its value and its section
abbrev pub serves : uses.Use → SymbolFields → Bool
serves purpose e = has_linked_type e && (has_place e && is_defined_for purpose e)

-- a candidate for a name and a use: the symbol has the name and serves the use
abbrev pub IsCandidate : {E : Type 0} → DynamicSymbols E → List ℕ → uses.Use → E → Type 0
IsCandidate file name purpose e = (file.symbols.text e ≡ Some name) × (serves purpose (file.symbols.fields e) ≡ true)

-- Which versions a reference accepts.

-- the entry of a version has the hash number and the name; the name is read only if it has the hash number
abbrev pub is_version : List ℕ → ℕ → Option VersionEntry → Result Bool LinkError
is_version name hash None = Ok false
is_version name hash (Some entry) = if entry.hash == hash then result_map (λ other. bytes_eq other name) entry.name else Ok false

-- a version by no hash number: it has no entry, or one with hash number 0
abbrev pub has_no_hash : Option VersionEntry → Bool
has_no_hash named = unwrap_or (option_map (λ entry. entry.hash == 0) named) true

-- such a version is accepted too, unless it is hidden or the reference wants a hidden one
abbrev pub is_open : Bool → VersionParts VersionEntry → Bool
is_open hidden version = has_no_hash version.named && (not hidden && not version.hidden)

-- a reference by a version accepts that of a symbol; in a file without numbers of symbols any
abbrev pub accepts_version : List ℕ → ℕ → Bool → Option (VersionParts VersionEntry) → Result Bool LinkError
accepts_version name hash hidden None = Ok true
accepts_version name hash hidden (Some version) =
    result_map (λ same. same || is_open hidden version) (is_version name hash version.named)

-- the version with a name, which isn't hidden
abbrev pub version_wanted : Bor (List ℕ) → Wanted
version_wanted name = Version name (hash_number name.now) false

-- the version with a name and no other (as glibc's `dlvsym` asks): one without a hash number is not accepted for it
abbrev pub exact_version : Bor (List ℕ) → Wanted
exact_version name = Version name (hash_number name.now) true

-- the number of a version is below the least one that needs a name; in a file without numbers of symbols that
-- of each symbol is
abbrev pub is_below : ℕ → Option ℕ → Bool
is_below least number = unwrap_or (option_map (λ raw. nat_lt (version_number raw) least) number) true

-- whether a reference accepts the symbol at an index at once, or why the symbol's version can't be read
abbrev pub accepted : VersionList → Wanted → ℕ → Result Bool LinkError
accepted list (Version name hash hidden) index = and_then (version_at list index) (accepts_version name.now hash hidden)
accepted list Unversioned index = result_map (is_below 3) (number_of list.numbers index)
accepted list Newest index = result_map (is_below 2) (number_of list.numbers index)

-- a reference by a version accepts that of a symbol (the rule of glibc's linker): the file has no numbers of
-- symbols; or the version has the hash number and the name; or it has no hash number, and neither it nor the
-- reference is hidden
pub data IsAcceptedBy (name : List ℕ) (hash : ℕ) (hidden : Bool) : Option (VersionParts VersionEntry) → Type 0 where
  unnumbered : IsAcceptedBy name hash hidden None
  same : (version : VersionParts VersionEntry) (entry : VersionEntry) → version.named ≡ Some entry → entry.hash ≡ hash
      → entry.name ≡ Ok name → IsAcceptedBy name hash hidden (Some version)
  nameless : (version : VersionParts VersionEntry) → has_no_hash version.named ≡ true → hidden ≡ false → version.hidden ≡ false
      → IsAcceptedBy name hash hidden (Some version)

-- a reference accepts the symbol at an index at once: by a version, as above; otherwise the number of the version
-- is below the least that needs a name, or the file has no numbers of symbols
abbrev pub IsAccepted : VersionList → Wanted → ℕ → Type 0
IsAccepted list (Version name hash hidden) index =
    IsOkAnd (version_at list index) (λ version. IsAcceptedBy name.now hash hidden version)
IsAccepted list Unversioned index = IsOkAnd (number_of list.numbers index) (λ number. is_below 3 number ≡ true)
IsAccepted list Newest index = IsOkAnd (number_of list.numbers index) (λ number. is_below 2 number ≡ true)

-- the symbol at an index has a version that isn't hidden
abbrev pub is_default : Result (Option ℕ) LinkError → Bool
is_default (Ok (Some raw)) = not (is_hidden raw)
is_default _ = false

-- The symbol that a reference gets.

-- a reference by a version
abbrev pub is_by_version : Wanted → Bool
is_by_version (Version _ _ _) = true
is_by_version _ = false

-- the result of a look-up for a property of a symbol and its index
abbrev pub Seeks : {E : Type 0} → (ℕ × E → Type 0) → DynamicSymbols E → List ℕ → Result (Option (ℕ × E)) LinkError → Type 0
Seeks P file name answer = (count : ℕ) × LooksWhereBy P file.table file.symbols.items name answer count

-- a candidate that is accepted at once, or whose version can't be read
abbrev pub IsAsked : {E : Type 0} → DynamicSymbols E → List ℕ → Wanted → uses.Use → ℕ × E → Type 0
IsAsked file name wanted purpose at = IsCandidate file name purpose at.1 × (accepted file.versions wanted at.0 ≢ Ok false)

-- a candidate that a reference without a version may fall back on, as its version isn't hidden, at another index
-- than one, if there is one
abbrev pub IsShown : {E : Type 0} → DynamicSymbols E → List ℕ → Wanted → uses.Use → Option ℕ → ℕ × E → Type 0
IsShown file name wanted purpose but at = IsCandidate file name purpose at.1 × ((is_by_version wanted ≡ false)
    × ((is_default (number_of file.versions.numbers at.0) ≡ true) × (but ≢ Some at.0)))

-- the default: the one such candidate, if there is exactly one; `Seek` says the result of a look-up for a property
pub data IsDefaultBy {E : Type 0} (Seek : (ℕ × E → Type 0) → Result (Option (ℕ × E)) LinkError → Type 0) (Shown : Option ℕ → ℕ × E → Type 0) : Option (ℕ × E) → Type 0 where
  none_shown : Seek (Shown None) (Ok None) → IsDefaultBy Seek Shown None
  one_shown : (at : ℕ × E) → Seek (Shown None) (Ok (Some at)) → Seek (Shown (Some at.0)) (Ok None)
      → IsDefaultBy Seek Shown (Some at)
  two_shown : (at other : ℕ × E) → Seek (Shown None) (Ok (Some at)) → Seek (Shown (Some at.0)) (Ok (Some other))
      → IsDefaultBy Seek Shown None

-- the result of a search for the symbol that a reference gets, where `Seek` says that of a look-up: the first candidate
-- that is accepted at once, or why its version can't be read; the fault that a look-up for it comes to; otherwise the
-- default
pub data IsFoundBy {E : Type 0} (Seek : (ℕ × E → Type 0) → Result (Option (ℕ × E)) LinkError → Type 0) (file : DynamicSymbols E) (name : List ℕ) (wanted : Wanted) (purpose : uses.Use) : Result (Option (ℕ × E)) LinkError → Type 0 where
  asked_first : (at : ℕ × E) (answer : Result (Option (ℕ × E)) LinkError) → Seek (IsAsked file name wanted purpose) (Ok (Some at))
      → answer ≡ result_map (λ _. Some at) (accepted file.versions wanted at.0) → IsFoundBy Seek file name wanted purpose answer
  faulty : (error : LinkError) → Seek (IsAsked file name wanted purpose) (Err error)
      → IsFoundBy Seek file name wanted purpose (Err error)
  otherwise : (found : Option (ℕ × E)) → Seek (IsAsked file name wanted purpose) (Ok None)
      → IsDefaultBy Seek (IsShown file name wanted purpose) found → IsFoundBy Seek file name wanted purpose (Ok found)

-- the result of a search by look-ups in the hash table
abbrev pub IsFound : {E : Type 0} → DynamicSymbols E → List ℕ → Wanted → uses.Use → Result (Option (ℕ × E)) LinkError → Type 0
IsFound file name wanted purpose = IsFoundBy (λ P. Seeks P file name) file name wanted purpose

-- What the list of symbols says of it, if look-ups in the table find what they must.

-- the versions of a file can be read
abbrev pub AreReadable : {E : Type 0} → DynamicSymbols E → Type 0
AreReadable file = CanBeRead file.versions (length file.symbols.items)

-- there is no error, and what is found is what the list of symbols says: a look-up finds one of the symbols with the
-- property, and none only if there is none that look-ups must find
abbrev pub FindsRight : {E : Type 0} → DynamicSymbols E → List ℕ → Wanted → uses.Use → Result (Option (ℕ × E)) LinkError → Type 0
FindsRight file name wanted purpose answer = IsOkAnd answer (λ found.
    IsFoundBy (FindsAllWhereBy file.table file.symbols name) file name wanted purpose (Ok found))

-- the parts of such a search
abbrev pub dynamic_symbols : {E : Type 0} → AnyTable → Symbols E → VersionList → DynamicSymbols E
dynamic_symbols table symbols versions = record { table = table; symbols = symbols; versions = versions }
