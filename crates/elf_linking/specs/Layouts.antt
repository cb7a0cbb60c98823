-- The hash number of a name in GNU hash tables, and the layout of such a table (the convention of GNU binutils
-- and glibc: sections of type 0x6ffffff6, SHT_GNU_HASH, and the dynamic entry DT_GNU_HASH).
use Rattle.std.specs.Prelude.{ℕ, List, ◌+◌, ◌*◌, ◌≤◌, Bool, true, false, IsTrue, not, nat_lt, [], ◌∷◌, length, Result, ◌%◌, ◌^◌, fold}
use Rattle.std.specs.Int.{is_power_of_two}
use Rattle.elf_base.specs.Number.{number}
use Rattle.elf_base.specs.declared.bytes.Order.{Order}
use Rattle.elf_base.specs.declared.header.numbers.Class.{Class}
use Rattle.elf_base.specs.declared.header.numbers.Class.TheVariants.{SixtyFour, ThirtyTwo}
use Rattle.elf_base.specs.FirstError.{unless}
use Rattle.elf_linking.specs.declared.error.LinkError.{LinkError}
use Rattle.elf_linking.specs.declared.error.LinkError.TheVariants.{BloomCount, ShortTable, UnknownClass}

-- the hash number of the bytes of a text: with each byte it is multiplied by 33, and the byte is added
unfoldable pub gnu_hash_number : List ℕ → ℕ
gnu_hash_number bytes = fold (λ h c. (33 * h + c) % 2 ^ 32) 5381 bytes

-- whether the class is 32 or 64
abbrev pub is_known : Class → Bool
is_known ThirtyTwo = true
is_known SixtyFour = true
is_known _ = false

-- the size of a Bloom word of the class in bytes
abbrev pub bloom_size : Class → ℕ
bloom_size ThirtyTwo = 4
bloom_size _ = 8

-- the first of the four words at its start, of four bytes each: the number of buckets
abbrev pub bucket_count_in : Order → List ℕ → ℕ
bucket_count_in order bytes = number order 4 0 bytes

-- the third: the number of Bloom words
abbrev pub bloom_count_in : Order → List ℕ → ℕ
bloom_count_in order bytes = number order 4 8 bytes

-- the offset of the buckets, after the Bloom words
abbrev pub buckets_in : Class → Order → List ℕ → ℕ
buckets_in class order bytes = 16 + bloom_size class * bloom_count_in order bytes

-- the offset of the chain words, after the buckets
abbrev pub chains_in : Class → Order → List ℕ → ℕ
chains_in class order bytes = buckets_in class order bytes + 4 * bucket_count_in order bytes

-- the bytes are a table of this class
pub record IsGnuTable (class : Class) (order : Order) (bytes : List ℕ) : Type 0 where
  pub known : IsTrue (is_known class)
  pub long : 16 ≤ length bytes
  pub bloom : IsTrue (is_power_of_two (bloom_count_in order bytes))
  pub whole : chains_in class order bytes ≤ length bytes

-- whether the bytes are a table of this class, or the first reason why not
unfoldable pub gnu_table_of : Class → Order → List ℕ → Result (Unit {0}) LinkError
gnu_table_of class order bytes = unless (
    (not (is_known class), UnknownClass)
    ∷ (nat_lt (length bytes) 16, ShortTable)
    ∷ (not (is_power_of_two (bloom_count_in order bytes)), BloomCount)
    ∷ (nat_lt (length bytes) (chains_in class order bytes), ShortTable)
    ∷ []) tt
