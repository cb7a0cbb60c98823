-- The dynamic symbols of a file, and those of them that its hash table reaches.
use Rattle.std.specs.Prelude.{◌≡◌, ℕ, List, length, Some, Result, Ok, Err}
use Rattle.elf_addresses.specs.Reached.{AreReached}
use Rattle.elf_addresses.specs.declared.dladdr.Reach.{Reach}
use Rattle.elf_addresses.specs.declared.dladdr.Reach.TheVariants.{Buckets, Chains}
use Rattle.elf_linking.specs.AnyTable.{IsLinkedTable}
use Rattle.elf_linking.specs.DynamicObject.{IsObjectFor, IsObjectErrorFor}
use Rattle.elf_linking.specs.DynamicView.{dynamic_entries_of}
use Rattle.elf_linking.specs.GnuCount.{IsGnuCount}
use Rattle.elf_linking.specs.declared.any_table.AnyTable.{AnyTable}
use Rattle.elf_linking.specs.declared.any_table.AnyTable.TheVariants.{Gnu, Sysv}
use Rattle.elf_linking.specs.declared.error.LinkError.{LinkError}
use Rattle.elf_linking.specs.declared.gnu_hash.GnuHashTable.{GnuHashTable}
use Rattle.elf_linking.specs.declared.object.DynamicObject.{DynamicObject}
use Rattle.xmas_elf.specs.HashTable.{chain_count_of}
use Rattle.xmas_elf.specs.declared.hash.HashTable.{HashTable}
use Rattle.xmas_elf.specs.Types.{Dynamic, ElfFile}

-- the number of symbols by the hash table that `dladdr` reads (elf/dl-addr.c in glibc 2.36): GNU's if there is one, otherwise
-- that of the ELF standard, which has a chain for each symbol; or why there is none
pub data IsTableCount (file : ElfFile) : Result ℕ LinkError → Type 0 where
  no_view : (error : LinkError) → dynamic_entries_of file ≡ Err error → IsTableCount file (Err error)
  no_table : (entries : List (Dynamic ℕ)) (error : LinkError) → dynamic_entries_of file ≡ Ok entries
      → IsLinkedTable file entries (Err error) → IsTableCount file (Err error)
  by_runs : (entries : List (Dynamic ℕ)) (table : GnuHashTable) (count : Result ℕ LinkError)
      → dynamic_entries_of file ≡ Ok entries → IsLinkedTable file entries (Ok (Gnu table)) → IsGnuCount table count
      → IsTableCount file count
  by_chains : (entries : List (Dynamic ℕ)) (table : HashTable) → dynamic_entries_of file ≡ Ok entries
      → IsLinkedTable file entries (Ok (Sysv table)) → IsTableCount file (Ok (chain_count_of table))

-- the object is that of a file with as many symbols
pub record IsDladdrObject {E : Type 0} {r : _} (class size : ℕ) (file : ElfFile) (object : DynamicObject E r) : Type 0 where
  pub count : ℕ
  pub counted : IsTableCount file (Ok count)
  pub is_object : IsObjectFor (Some count) class size file object

-- why there is no such object: the first error, of the number of symbols, or of the object
pub data IsDladdrError (class size : ℕ) (file : ElfFile) (error : LinkError) : Type 0 where
  no_count : IsTableCount file (Err error) → IsDladdrError class size file error
  no_object : (count : ℕ) → IsTableCount file (Ok count) → IsObjectErrorFor (Some count) class size file error
      → IsDladdrError class size file error

-- what a hash table reaches of as many symbols: for GNU's, words that say it for each
abbrev pub IsReach : AnyTable → ℕ → Reach → Type 0
IsReach (Gnu table) count (Buckets words) = AreReached table words.now × (length words.now ≡ count)
IsReach (Gnu table) count (Chains chains) = ⊥
IsReach (Sysv table) count (Buckets words) = ⊥
IsReach (Sysv table) count (Chains chains) = chains ≡ chain_count_of table
