-- A file whose checks passed, as plain lists: its symbols, and its exports, which are the symbols that look-ups by its
-- hash table come to (gABI, "Hash Table" and "Symbol Table"; the convention of GNU binutils and glibc; LSB, "Symbol
-- Versioning").
use Rattle.std.specs.Prelude.{All, Contains, ◌≡◌, ℕ, zero, suc, ◌+◌, ◌/◌, ◌%◌, ◌==◌, ◌&&◌, Bool, true, false, List, [], ◌∷◌, ◌++◌, length, filter, filter_map, slice_get, Option, Some, None, option_map, unwrap_or, Result, Ok, Err, if◌then◌else◌}
use Rattle.std.specs.Result.{result_ok}
use Rattle.elf_records.specs.HashNumber.{hash_number}
use Rattle.elf_linking.specs.AnyTable.{IsFor}
use Rattle.elf_linking.specs.DynamicObject.{object_dynamic_symbols, object_file, object_machine, object_view}
use Rattle.elf_linking.specs.DynamicView.{is_symbolic, view_entries}
use Rattle.elf_linking.specs.Find.{DynamicSymbols}
use Rattle.elf_linking.specs.GnuHash as gnu
use Rattle.elf_linking.specs.Layouts.{gnu_hash_number}
use Rattle.elf_linking.specs.VersionList.{VersionEntry}
use Rattle.elf_linking.specs.References.{references_of}
use Rattle.elf_linking.specs.Versions.{VersionParts, version_at}
use Rattle.elf_linking.specs.declared.any_table.AnyTable.{AnyTable}
use Rattle.elf_linking.specs.declared.any_table.AnyTable.TheVariants.{Gnu, Sysv}
use Rattle.elf_linking.specs.declared.error.LinkError.{LinkError}
use Rattle.elf_linking.specs.declared.object.DynamicObject.{DynamicObject}
use Rattle.elf_linking.specs.declared.references.Reference.{Reference}
use Rattle.xmas_elf.specs.HashTable as gabi
use Rattle.xmas_elf.specs.Symbol.{SymbolFields}

-- a definition or a need of a version: its hash number and name; a need can be hidden (bit 15 of its number)
pub record VersionName : Type 0 where
  pub hidden : Bool
  pub hash : ℕ
  pub name : List ℕ

-- the version of a symbol: its number, whether it is hidden (bit 15), and the definition or need with that number
pub record NumberedVersion : Type 0 where
  pub number : ℕ
  pub hidden : Bool
  pub named : Option VersionName

-- a symbol: its index, its name if that can be read, its fields, and its version, which is None in a file without
-- numbers of symbols
pub record SymbolParts : Type 0 where
  pub index : ℕ
  pub name : Option (List ℕ)
  pub fields : SymbolFields
  pub version : Option NumberedVersion

-- a file whose checks passed: its exports, its symbols, whether it is searched first for its own references, its machine
-- (e_machine), and its relocations that name a symbol, which is None if they can't be read
pub record ObjectParts : Type 0 where
  pub exports : List SymbolParts
  pub symbols : List SymbolParts
  pub symbolic : Bool
  pub machine : ℕ
  pub references : Option (List Reference)

-- The symbols.

-- a definition or a need whose name can be read
abbrev pub version_name : VersionEntry → VersionName
version_name entry = record { hidden = entry.hidden; hash = entry.hash; name = unwrap_or (result_ok entry.name) [] }

-- a version that can be read
abbrev pub numbered_version : VersionParts VersionEntry → NumberedVersion
numbered_version version = record {
  number = version.number;
  hidden = version.hidden;
  named = option_map version_name version.named;
}

-- the version of a symbol, if it has one
abbrev pub version_in : Result (Option (VersionParts VersionEntry)) LinkError → Option NumberedVersion
version_in (Ok version) = option_map numbered_version version
version_in (Err error) = None

-- the symbol at an index
abbrev pub symbol_parts : {E : Type 0} → DynamicSymbols E → ℕ → E → SymbolParts
symbol_parts file index symbol = record {
  index = index;
  name = file.symbols.text symbol;
  fields = file.symbols.fields symbol;
  version = version_in (version_at file.versions index);
}

-- symbols, the first of which is at an index
abbrev pub symbols_from : {E : Type 0} → DynamicSymbols E → ℕ → List E → List SymbolParts
symbols_from file index [] = []
symbols_from file index (symbol ∷ symbols) = symbol_parts file index symbol ∷ symbols_from file (index + 1) symbols

-- The exports.

-- a hash table of either kind: the number of buckets; the index of the first symbol of a bucket, 0 if it has none; the
-- index that follows another in its chain, 0 at the end; the hash number of a name; and whether the table has the name
-- for the symbol at an index
pub record HashChains : Type 0 where
  pub buckets : ℕ
  pub first : ℕ → ℕ
  pub next : ℕ → ℕ
  pub hash : List ℕ → ℕ
  pub has : List ℕ → ℕ → Bool

-- the chain of a bucket of GNU's table is a run of symbols, which ends at a chain word with the lowest bit set; the
-- table has a name by the Bloom words and the other bits of the chain word
abbrev pub hash_chains : AnyTable → HashChains
hash_chains (Sysv table) = record {
  buckets = gabi.bucket_count_of table;
  first = λ bucket. gabi.hash_word table (2 + bucket);
  next = λ index. gabi.hash_word table (2 + gabi.bucket_count_of table + index);
  hash = hash_number;
  has = λ name index. true;
}
hash_chains (Gnu table) = record {
  buckets = gnu.gnu_bucket_count table;
  first = gnu.bucket_word table;
  next = λ index. if gnu.chain_word table index % 2 == 1 then 0 else index + 1;
  hash = gnu_hash_number;
  has = λ name index. gnu.may_hold table (gnu_hash_number name) && gnu.chain_word table index / 2 == gnu_hash_number name / 2;
}

-- the indices of a chain, from one on, at most `count`
abbrev pub chain_from : (ℕ → ℕ) → ℕ → ℕ → List ℕ
chain_from next zero index = []
chain_from next (suc count) index = if index == 0 then [] else index ∷ chain_from next count (next index)

-- the table has the name of the symbol at an index, in a bucket
abbrev pub is_held_as : HashChains → ℕ → ℕ → Option (List ℕ) → Bool
is_held_as chains bucket index None = false
is_held_as chains bucket index (Some name) = chains.hash name % chains.buckets == bucket && chains.has name index

-- the table has a symbol in a bucket
abbrev pub is_held : HashChains → ℕ → SymbolParts → Bool
is_held chains bucket symbol = is_held_as chains bucket symbol.index symbol.name

-- the exports of the buckets below one, bucket by bucket in the order of its chain
abbrev pub exports_below : HashChains → List SymbolParts → ℕ → List SymbolParts
exports_below chains symbols zero = []
exports_below chains symbols (suc bucket) = exports_below chains symbols bucket
    ++ filter (is_held chains bucket) (filter_map (slice_get symbols) (chain_from chains.next (length symbols) (chains.first bucket)))

-- the symbols of a file
abbrev pub symbols_of : {E : Type 0} → DynamicSymbols E → List SymbolParts
symbols_of file = symbols_from file 0 file.symbols.items

-- the exports of a file
abbrev pub exports_of : {E : Type 0} → DynamicSymbols E → List SymbolParts
exports_of file = let chains = hash_chains file.table in exports_below chains (symbols_of file) chains.buckets

-- a symbol is that of the file at its index
pub record IsSymbolOf {E : Type 0} (file : DynamicSymbols E) (symbol : SymbolParts) : Type 0 where
  pub entry : E
  pub at : slice_get file.symbols.items symbol.index ≡ Some entry
  pub parts : symbol ≡ symbol_parts file symbol.index entry

-- the exports are symbols of the file, and each symbol that look-ups must find is one of them: of GNU's table each from
-- its first symbol on that is defined and not local, of the standard's table each that is not local
pub record AreExports {E : Type 0} (file : DynamicSymbols E) (exports : List SymbolParts) : Type 0 where
  pub each : All (IsSymbolOf file) exports
  pub all : (i : ℕ) (e : E) (name : List ℕ) → IsFor file.table file.symbols i e name → Contains exports (symbol_parts file i e)

-- an object whose checks passed
abbrev pub object_parts : {E : Type 0} → {r : _} → (E → SymbolFields) → DynamicObject E r → ObjectParts
object_parts fields object = let file = object_dynamic_symbols fields object in record {
  exports = exports_of file;
  symbols = symbols_of file;
  symbolic = is_symbolic (view_entries (object_view object));
  machine = object_machine object;
  references = result_ok (references_of (object_file object) (view_entries (object_view object)));
}
