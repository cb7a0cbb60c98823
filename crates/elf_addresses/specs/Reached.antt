-- The symbols that a GNU hash table reaches, bucket by bucket (the convention of GNU binutils and glibc).
use Rattle.std.specs.Prelude.{◌≡◌, ◌≤◌, ◌<◌, ℕ, ◌+◌, ◌%◌, ◌^◌, ◌==◌, ◌||◌, min, nat_le, nat_lt, zero, suc, List, length, slice_index, slice_set, if◌then◌else◌}
use Rattle.elf_linking.specs.GnuHash.{HasChain, gnu_bucket_count, bucket_word, chain_word, first_symbol_of}
use Rattle.elf_linking.specs.declared.gnu_hash.GnuHashTable.{GnuHashTable}

-- the chain word of symbol i is there and does not end a run, and the next index has 32 bits
pub record GoesOn (table : GnuHashTable) (i : ℕ) : Type 0 where
  pub next : i + 1 < 2 ^ 32
  pub there : HasChain table i
  pub even : chain_word table i % 2 ≡ 0

-- the run of bucket b begins at symbol i
pub record Starts (table : GnuHashTable) (i b : ℕ) : Type 0 where
  pub bucket : b < gnu_bucket_count table
  pub first : bucket_word table b ≡ i
  pub above : 0 < i
  pub begins : first_symbol_of table ≤ i

-- bucket b reaches symbol i: its run begins at symbol k, which is i or before it, and goes on from there to i
pub record Reaches (table : GnuHashTable) (i b : ℕ) : Type 0 where
  pub from : ℕ
  pub starts : Starts table from b
  pub before : from ≤ i
  pub goes_on : (j : ℕ) → from ≤ j → j < i → GoesOn table j

-- a word is the least number with a property, counted from 1; it is 0 if no number has it
abbrev pub IsLeast : (ℕ → Type 0) → ℕ → Type 0
IsLeast P zero = (n : ℕ) → P n → ⊥
IsLeast P (suc n) = P n × ((m : ℕ) → P m → n ≤ m)

-- the words are for each symbol the number of the first bucket that reaches it
abbrev pub AreReached : GnuHashTable → List ℕ → Type 0
AreReached table words = (i : ℕ) → i < length words → IsLeast (Reaches table i) (slice_index words i)

-- Steps of a pass that finds them.

-- the words are for each symbol the number of the first bucket below k whose run begins there
abbrev pub AreStarts : GnuHashTable → ℕ → List ℕ → Type 0
AreStarts table k words = (i : ℕ) → i < length words → IsLeast (λ b. (b < k) × Starts table i b) (slice_index words i)

-- the symbol at which the run of a bucket begins, or 0 if it has none
abbrev pub start_word : GnuHashTable → ℕ → ℕ
start_word table b = if nat_lt (bucket_word table b) (first_symbol_of table) then 0 else bucket_word table b

-- words in which a symbol without a number, other than symbol 0, has this one
abbrev pub with_start : List ℕ → ℕ → ℕ → List ℕ
with_start words start number =
    if start == 0 || nat_le (length words) start then words
    else (if slice_index words start == 0 then slice_set words start number else words)

-- the smaller of two numbers that are not 0, or the one that is not 0
abbrev pub earlier : ℕ → ℕ → ℕ
earlier m n = if m == 0 then n else (if n == 0 then m else min m n)
