-- A hash table and the symbols that it is linked to, in a file of class 64 that a program is linked to.
use Rattle.std.specs.Prelude.{◌≡◌, ◌<◌, ℕ, List, Option, None, Some, MatchOption, Result, Ok, Err, codes, slice_get}
use Rattle.xmas_elf.specs.Content.{Content, dyn_symbols_64, hash_table, table_of}
use Rattle.xmas_elf.specs.HashTable.{IsCheck, IsGood, hash_data, hash_order}
use Rattle.xmas_elf.specs.ReportHash.{content_at}
use Rattle.xmas_elf.specs.NameTable.{section_named}
use Rattle.xmas_elf.specs.SectionContent.{section_content_of}
use Rattle.xmas_elf.specs.SectionHeader.{section_fields}
use Rattle.xmas_elf.specs.Symbol.{IsGlobal, Symbols}
use Rattle.xmas_elf.specs.Symbols.{dyn_symbols_in_64}
use Rattle.xmas_elf.specs.Types.{DynEntry64, ElfError, ElfFile, HashTable, Order, SectionHeader, ShortData}

-- the order and the bytes of a hash table, if that is what a section has
abbrev pub table_in : Result Content ElfError → Option (Order × List ℕ)
table_in (Ok (hash_table order bytes)) = Some (order, bytes)
table_in _ = None

-- those of the symbols for the dynamic linker, if that is what it has
abbrev pub symbols_in : Result Content ElfError → Option (Order × List ℕ)
symbols_in (Ok (table_of dyn_symbols_64 order bytes)) = Some (order, bytes)
symbols_in _ = None

-- the first section that is called .hash is the hash table, and its link leads to the symbols
pub record AreLinked (file : ElfFile) (table : HashTable) (order : Order) (bytes : List ℕ) : Type 0 where
  pub section : SectionHeader
  pub named : section_named file (codes ".hash") ≡ Some section
  pub is_table : table_in (section_content_of file section) ≡ Some (hash_order table, hash_data table)
  pub are_symbols : symbols_in (content_at file (section_fields section).link) ≡ Some (order, bytes)

-- the file has no such hash table and symbols
abbrev pub NotLinked : ElfFile → Type 0
NotLinked file = (table : HashTable) (order : Order) (bytes : List ℕ) → ¬ AreLinked file table order bytes

-- the symbol found has this value: one of them has the name and this value, which isn't that at index 0
-- (STN_UNDEF), or else none that isn't local has the name
abbrev pub IsValueOf : Symbols DynEntry64 → List ℕ → Option ℕ → Type 0
IsValueOf symbols name found = MatchOption found
    ((i : ℕ) (e : DynEntry64) → ¬ IsGlobal symbols i e name)
    (λ value. (i : ℕ) × (e : DynEntry64) × (0 < i) × (slice_get symbols.items i ≡ Some e)
    × (symbols.text e ≡ Some name) × (value ≡ (symbols.fields e).value))

-- the same of the symbols of a file that its hash table is linked to, which look-ups can rely on: a
-- result that comes before the check has passed doesn't have this
pub record IsFileValueOf (file : ElfFile) (name : List ℕ) (found : Option ℕ) : Type 0 where
  pub table : HashTable
  pub order : Order
  pub bytes : List ℕ
  pub linked : AreLinked file table order bytes
  pub good : IsGood table (dyn_symbols_in_64 file order bytes)
  pub value : IsValueOf (dyn_symbols_in_64 file order bytes) name found

-- why no symbol is looked for: the file has no such tables, or the check finds this fault in them
pub data IsLinkError (file : ElfFile) : ElfError → Type 0 where
  unlinked : NotLinked file → IsLinkError file ShortData
  unchecked : (table : HashTable) (order : Order) (bytes : List ℕ) (error : ElfError)
      → AreLinked file table order bytes
      → IsCheck table (dyn_symbols_in_64 file order bytes) (Err error) → IsLinkError file error
