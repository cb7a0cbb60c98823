-- Files whose checks passed, and the symbol of such a file that a reference by a name and a version gets, by the exports of
-- the file (LSB, "Symbol Versioning"; which versions are accepted, and that a hidden version is no default, as glibc's
-- linker has it).
use Rattle.std.specs.Prelude.{◌≡◌, ℕ, ◌==◌, ◌&&◌, ◌||◌, nat_lt, not, Bool, true, false, List, [], ◌∷◌, length, filter, find, Option, Some, None, option_map, Result, if◌then◌else◌}
use Rattle.std.specs.List.{list_any}
use Rattle.std.specs.Option.{option_or}
use Rattle.std.specs.Str.{bytes_eq}
use Rattle.elf_base.specs.FirstError.{and_then}
use Rattle.elf_linking.specs.AnyTable.{IsCheckBy}
use Rattle.elf_linking.specs.Exports.{NumberedVersion, SymbolParts, VersionName}
use Rattle.elf_linking.specs.Find.{DynamicSymbols, is_by_version, serves}
use Rattle.elf_linking.specs.Versions.{versions_error}
use Rattle.elf_linking.specs.declared.error.LinkError.{LinkError}
use Rattle.elf_linking.specs.declared.find.Use as uses
use Rattle.elf_linking.specs.declared.find.Wanted.{Wanted}
use Rattle.elf_linking.specs.declared.find.Wanted.TheVariants.{Newest, Unversioned, Version}
use Rattle.xmas_elf.specs.Symbol.{SymbolFields}

-- the result of the checks of a file: that of its hash table and, if that passes, of its versions
pub record AreChecked {E : Type 0} (file : DynamicSymbols E) (result : Result (Unit {0}) LinkError) : Type 0 where
  pub table_result : Result (Unit {0}) LinkError
  pub table_checked : IsCheckBy file.table file.symbols table_result
  pub result_is : result ≡ and_then table_result (λ _. versions_error file.versions (length file.symbols.items))

-- a symbol has this name
abbrev pub is_name : List ℕ → Option (List ℕ) → Bool
is_name name None = false
is_name name (Some other) = bytes_eq other name

-- a candidate for a name and a use: the symbol has the name and serves the use
abbrev pub is_candidate : List ℕ → uses.Use → SymbolParts → Bool
is_candidate name purpose symbol = is_name name symbol.name && serves purpose symbol.fields

-- a definition or need has the hash number and the name
abbrev pub is_version_name : List ℕ → ℕ → Option VersionName → Bool
is_version_name name hash None = false
is_version_name name hash (Some version) = version.hash == hash && bytes_eq version.name name

-- a version has no hash number: nothing has its number, or what has it has hash number 0
abbrev pub lacks_hash : Option VersionName → Bool
lacks_hash None = true
lacks_hash (Some version) = version.hash == 0

-- a reference accepts a version at once. By a version: one with its hash number and name, or one without a hash number,
-- if neither is hidden; otherwise: one with a number below the least that needs a name. In a file without numbers of
-- symbols: any
abbrev pub accepts : Wanted → Option NumberedVersion → Bool
accepts wanted None = true
accepts (Version name hash hidden) (Some version) = is_version_name name.now hash version.named
    || (lacks_hash version.named && (not hidden && not version.hidden))
accepts Unversioned (Some version) = nat_lt version.number 3
accepts Newest (Some version) = nat_lt version.number 2

-- a symbol has a version that isn't hidden
abbrev pub is_shown : Option NumberedVersion → Bool
is_shown None = false
is_shown (Some version) = not version.hidden

-- the one symbol, if there is exactly one
abbrev pub only : List SymbolParts → Option SymbolParts
only [] = None
only (symbol ∷ others) = if list_any (λ other. not (other.index == symbol.index)) others then None else Some symbol

-- the default for a reference without a version: the one candidate whose version isn't hidden, if there is exactly one
abbrev pub default_of : Wanted → List SymbolParts → Option SymbolParts
default_of wanted candidates =
    if is_by_version wanted then None else only (filter (λ symbol. is_shown symbol.version) candidates)

-- the symbol that a file gives for a name, a version and a use: the first candidate among its exports that is accepted at
-- once; if there is none, the default
abbrev pub found_in : List ℕ → Wanted → uses.Use → List SymbolParts → Option SymbolParts
found_in name wanted purpose exports = let candidates = filter (is_candidate name purpose) exports in
    option_or (find (λ symbol. accepts wanted symbol.version) candidates) (default_of wanted candidates)

-- the index and the fields of what is found
abbrev pub found_parts : Option SymbolParts → Option (ℕ × SymbolFields)
found_parts found = option_map (λ symbol. (symbol.index, symbol.fields)) found

-- the same of the result of a call
abbrev pub found_fields : {E : Type 0} → (E → SymbolFields) → Option (ℕ × E) → Option (ℕ × SymbolFields)
found_fields fields found = option_map (λ at. (at.0, fields at.1)) found
