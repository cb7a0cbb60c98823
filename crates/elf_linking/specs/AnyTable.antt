-- Hash tables of either kind: their check, and look-ups (gABI, "Hash Table"; the convention of GNU binutils
-- and glibc).
use Rattle.std.specs.Prelude.{◌≡◌, ◌≢◌, ◌<◌, ◌≤◌, ℕ, List, Option, Some, None, MatchOption, MatchResult, Result, Ok, Err, slice_get}
use Rattle.elf_base.specs.FileHeader.{file_order}
use Rattle.xmas_elf.specs.HashTable.{chain_count_of, hash_data, hash_order}
use Rattle.elf_base.specs.declared.error.ElfError.{ElfError}
use Rattle.xmas_elf.specs.declared.ElfFile.{ElfFile}
use Rattle.xmas_elf.specs.declared.hash.HashTable.{HashTable}
use Rattle.xmas_elf.specs.Symbol.{IsGlobal, Symbols}
use Rattle.elf_linking.specs.DynamicView.{IsGnuTableBy, as_link_error, gnu_hash_table_of, hash_table_of, number_with}
use Rattle.elf_linking.specs.GnuHash.{first_symbol_of}
use Rattle.elf_linking.specs.declared.any_table.AnyTable.{AnyTable}
use Rattle.elf_linking.specs.declared.any_table.AnyTable.TheVariants.{Gnu, Sysv}
use Rattle.elf_linking.specs.declared.error.LinkError.{LinkError}
use Rattle.elf_linking.specs.declared.error.LinkError.TheVariants.{Elf}
use Rattle.elf_linking.specs.declared.gnu_hash.GnuHashTable.{GnuHashTable}
use Rattle.elf_records.specs.declared.dynamic.Dynamic.{Dynamic}
use Rattle.elf_linking.specs.declared.view.tags.TheConstants.{DT_GNU_HASH}
use Rattle.elf_linking.specs.GnuHash as gnu
use Rattle.xmas_elf.specs.HashTable as gabi

-- the table is GNU's if there is an entry for it (DT_GNU_HASH), otherwise that of the standard; or why there is none
pub data IsLinkedTable (file : ElfFile) (entries : List (Dynamic ℕ)) : Result AnyTable LinkError → Type 0 where
  by_gnu : (address : ℕ) (table : GnuHashTable) → number_with DT_GNU_HASH entries ≡ Some address
      → IsGnuTableBy file entries table → IsLinkedTable file entries (Ok (Gnu table))
  by_hash : (table : HashTable) → number_with DT_GNU_HASH entries ≡ None
      → hash_table_of file entries ≡ Ok (hash_data table) → hash_order table ≡ file_order file.header
      → IsLinkedTable file entries (Ok (Sysv table))
  no_gnu : (address : ℕ) (error : LinkError) → number_with DT_GNU_HASH entries ≡ Some address
      → gnu_hash_table_of file entries ≡ Err error → IsLinkedTable file entries (Err error)
  no_hash : (error : LinkError) → number_with DT_GNU_HASH entries ≡ None
      → hash_table_of file entries ≡ Err error → IsLinkedTable file entries (Err error)

-- look-ups in the table find what they must
abbrev pub IsGoodBy : {E : Type 0} → AnyTable → Symbols E → Type 0
IsGoodBy (Sysv table) symbols = gabi.IsGood table symbols
IsGoodBy (Gnu table) symbols = gnu.IsGnuGood table symbols

-- the result of the table's check
abbrev pub IsCheckBy : {E : Type 0} → AnyTable → Symbols E → Result (Unit {0}) LinkError → Type 0
IsCheckBy (Sysv table) symbols (Ok _) = gabi.IsCheck table symbols (Ok tt)
IsCheckBy (Sysv table) symbols (Err (Elf error)) = gabi.IsCheck table symbols (Err error)
IsCheckBy (Sysv table) symbols (Err _) = ⊥
IsCheckBy (Gnu table) symbols answer = gnu.IsCheck table symbols answer

-- the result of a look-up for the name and P, a property of a symbol and its index, and the number of symbols or
-- chain words read
abbrev pub LooksWhereBy : {E : Type 0} → (ℕ × E → Type 0) → AnyTable → List E → List ℕ → Result (Option (ℕ × E)) LinkError → ℕ → Type 0
LooksWhereBy {E} P (Sysv table) symbols name answer count = (found : Result (Option (ℕ × E)) ElfError)
    × gabi.LooksWhere P table symbols name found count × (answer ≡ as_link_error found)
LooksWhereBy P (Gnu table) symbols name answer count = gnu.GnuLooksWhere P table symbols name answer count

-- the result of a look-up for the name and P, a property of a symbol, and the number of symbols or chain words
-- read
abbrev pub LooksBy : {E : Type 0} → (E → Type 0) → AnyTable → List E → List ℕ → Result (Option (ℕ × E)) LinkError → ℕ → Type 0
LooksBy P table symbols name = LooksWhereBy (λ at. P at.1) table symbols name

-- a bound on the number of symbols read: the chain count of the standard's table; GNU's table has no such count
abbrev pub IsCountBy : AnyTable → ℕ → Type 0
IsCountBy (Sysv table) count = count ≤ chain_count_of table
IsCountBy (Gnu table) count = Unit {0}

-- look-ups for the name must find symbol e at index i
abbrev pub IsFor : {E : Type 0} → AnyTable → Symbols E → ℕ → E → List ℕ → Type 0
IsFor (Sysv table) symbols i e name = IsGlobal symbols i e name
IsFor (Gnu table) symbols i e name = gnu.IsExported table symbols i e name

-- an index that a look-up can return: index 0 is no symbol, and GNU's tables begin at their first symbol
abbrev pub IsIndexBy : AnyTable → ℕ → Type 0
IsIndexBy (Sysv table) i = 0 < i
IsIndexBy (Gnu table) i = (0 < i) × (first_symbol_of table ≤ i)

-- there is no error; what is found is one of the symbols and has P at its index, and if nothing is found, there is
-- no such symbol that look-ups must find
abbrev pub FindsAllWhereBy : {E : Type 0} → AnyTable → Symbols E → List ℕ → (ℕ × E → Type 0) → Result (Option (ℕ × E)) LinkError → Type 0
FindsAllWhereBy {E} table symbols name P answer = MatchResult answer
    (λ found. MatchOption found ((i : ℕ) (e : E) → IsFor table symbols i e name → ¬ P (i, e))
    (λ (p : ℕ × E). IsIndexBy table p.0 × (slice_get symbols.items p.0 ≡ Some p.1) × P p))
    (λ error. ⊥)

-- there is no error; what is found is one of the symbols and has P, a property of a symbol, and if nothing is
-- found, there is no such symbol that look-ups must find
abbrev pub FindsAllBy : {E : Type 0} → AnyTable → Symbols E → List ℕ → (E → Type 0) → Result (Option (ℕ × E)) LinkError → Type 0
FindsAllBy table symbols name P = FindsAllWhereBy table symbols name (λ at. P at.1)

-- symbol e at index i, which a look-up can return, has the name and is defined (its section index is not 0,
-- SHN_UNDEF)
pub record IsDefined {E : Type 0} (table : AnyTable) (symbols : Symbols E) (i : ℕ) (e : E) (name : List ℕ) : Type 0 where
  pub index : IsIndexBy table i
  pub symbol : slice_get symbols.items i ≡ Some e
  pub named : symbols.text e ≡ Some name
  pub defined : (symbols.fields e).shndx ≢ 0

-- each symbol that look-ups for the name must find is undefined
abbrev pub NoneDefined : {E : Type 0} → AnyTable → Symbols E → List ℕ → Type 0
NoneDefined {E} table symbols name =
    (i : ℕ) (e : E) → IsFor table symbols i e name → (symbols.fields e).shndx ≡ 0

-- what is found is a defined symbol with the name; if nothing is found, look-ups must find none
abbrev pub IsDefinedBy : {E : Type 0} → AnyTable → Symbols E → List ℕ → Option (ℕ × E) → Type 0
IsDefinedBy table symbols name found = MatchOption found
    (NoneDefined table symbols name) (λ p. IsDefined table symbols p.0 p.1 name)

-- a symbol has the name and is defined
abbrev pub HasDefinedName : {E : Type 0} → Symbols E → List ℕ → E → Type 0
HasDefinedName symbols name e = (symbols.text e ≡ Some name) × ((symbols.fields e).shndx ≢ 0)

-- the result of a look-up for a defined symbol with the name; a look-up has only one
abbrev pub LooksForDefined : {E : Type 0} → AnyTable → Symbols E → List ℕ → Option (ℕ × E) → Type 0
LooksForDefined table symbols name found =
    (count : ℕ) × LooksBy (HasDefinedName symbols name) table symbols.items name (Ok found) count
