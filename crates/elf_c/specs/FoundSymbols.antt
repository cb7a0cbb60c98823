-- The symbol that a reference gets by its name and version, as numbers (gABI, "Dynamic Section"; LSB, "Symbol
-- Versioning").
use Rattle.std.specs.Prelude.{◌≡◌, ◌≢◌, ◌==◌, ℕ, Bool, true, false, List, [], Option, None, Some, Result, Ok, Err, if◌then◌else◌}
use Rattle.elf_base.specs.FileHeader.{file_class}
use Rattle.elf_base.specs.declared.bytes.Order.{Order}
use Rattle.elf_records.specs.HashNumber.{hash_number}
use Rattle.elf_linking.specs.AnyTable.{IsGoodBy}
use Rattle.elf_linking.specs.DynamicObject.{AreVersionedSymbols, IsObjectError}
use Rattle.elf_linking.specs.Find.{AreReadable, DynamicSymbols, FindsRight, IsFound}
use Rattle.elf_linking.specs.Serves.{serves_others}
use Rattle.elf_linking.specs.declared.error.LinkError.{LinkError}
use Rattle.elf_linking.specs.declared.find.Use.TheVariants.{Any}
use Rattle.elf_linking.specs.declared.find.Wanted.{Wanted}
use Rattle.elf_linking.specs.declared.find.Wanted.TheVariants.{Newest, Unversioned, Version}
use Rattle.xmas_elf.specs.Symbol.{SymbolFields, dyn_entry_32, dyn_entry_32_fields, dyn_entry_64, dyn_entry_64_fields}
use Rattle.xmas_elf.specs.declared.ElfFile.{ElfFile}
use Rattle.elf_c.specs.LookUps.{IfUtf8}
use Rattle.elf_c.specs.Symbols.{symbol_record}
use Rattle.elf_c.specs.declared.found_symbols.FoundSymbol.{FoundSymbol}
use Rattle.elf_c.specs.declared.status.AnyError.{AnyError}
use Rattle.elf_c.specs.declared.status.AnyError.TheVariants.{Link}
use Rattle.elf_c.specs.declared.symbols.Symbol.{Symbol}

-- the numbers of no symbol
abbrev pub no_symbol : Symbol
no_symbol = record { value = 0; size = 0; name = 0; shndx = 0; info = 0; other = 0 }

-- that no symbol is found
abbrev pub no_symbol_record : FoundSymbol
no_symbol_record = record { symbol = no_symbol; found = 0; index = 0 }

-- the numbers of the symbol at an index, if it serves other files than its own
abbrev pub serving_symbol : ℕ → SymbolFields → FoundSymbol
serving_symbol index e = if serves_others e then record { symbol = symbol_record e; found = 1; index = index } else no_symbol_record

-- the numbers of the symbol that a search found, if any, and if it serves other files
abbrev pub found_symbol : {E : Type 0} → (E → SymbolFields) → Option (ℕ × E) → FoundSymbol
found_symbol fields None = no_symbol_record
found_symbol fields (Some at) = serving_symbol at.0 (fields at.1)

-- the numbers of the result of a search
abbrev pub found_answer : {E : Type 0} → (E → SymbolFields) → Result (Option (ℕ × E)) LinkError → Result FoundSymbol AnyError
found_answer fields (Ok found) = Ok (found_symbol fields found)
found_answer fields (Err error) = Err (Link error)

-- what a name of a version asks for: that version and no other, as `dlvsym` does; the empty one asks as `dlsym` does
abbrev pub IsWanted : List ℕ → Wanted → Type 0
IsWanted version Newest = version ≡ []
IsWanted version Unversioned = ⊥
IsWanted version (Version name hash hidden) =
    (version ≢ []) × (name.now ≡ version) × (hash ≡ hash_number version) × (hidden ≡ true)

-- the result of a search among dynamic symbols for a name and a version; if look-ups find all that they must
-- and the versions can be read, the right one
pub record IsSearched {E : Type 0} (all : DynamicSymbols E) (name version : List ℕ) (answer : Result FoundSymbol AnyError) : Type 0 where
  pub wanted : Wanted
  pub found : Result (Option (ℕ × E)) LinkError
  pub is_wanted : IsWanted version wanted
  pub is_found : IsFound all name wanted Any found
  pub is_right : IsGoodBy all.table all.symbols → AreReadable all → FindsRight all name wanted Any found
  pub numbers : answer ≡ found_answer all.symbols.fields found

-- the result of such a search in a file of this class, with symbols of this size, or why the file has no dynamic
-- symbols
pub data IsSearch {E : Type 0} (class size : ℕ) (entry : Order → List ℕ → E) (fields : E → SymbolFields) (file : ElfFile) (name version : List ℕ) : Result FoundSymbol AnyError → Type 0 where
  searched : (all : DynamicSymbols E) (answer : Result FoundSymbol AnyError)
      → AreVersionedSymbols class size entry fields file all → IsSearched all name version answer
      → IsSearch class size entry fields file name version answer
  failed : (error : LinkError) → IsObjectError class size file error
      → IsSearch class size entry fields file name version (Err (Link error))

-- the result of such a search in a file that is of class 32, or of another one
abbrev pub IsByClass : Bool → ElfFile → List ℕ → List ℕ → Result FoundSymbol AnyError → Type 0
IsByClass true file name version answer = IsSearch 1 16 dyn_entry_32 dyn_entry_32_fields file name version answer
IsByClass false file name version answer = IsSearch 2 24 dyn_entry_64 dyn_entry_64_fields file name version answer

-- the result of such a search in a file
abbrev pub IsFoundSymbol : ElfFile → List ℕ → List ℕ → Result FoundSymbol AnyError → Type 0
IsFoundSymbol file name version answer = IsByClass (file_class file.header == 1) file name version answer

-- the result of such a search for a name and a version in bytes: an error if either is not UTF-8
abbrev pub IsFoundBy : ElfFile → List ℕ → List ℕ → Result FoundSymbol AnyError → Type 0
IsFoundBy file name version answer = IfUtf8 (λ text. IfUtf8 (IsFoundSymbol file text) version) name answer
