-- The number of symbols of a GNU hash table, as a dynamic linker counts them from the table alone (the
-- convention of GNU binutils and glibc; the errors of the count are this project's own).
use Rattle.std.specs.Prelude.{◌≡◌, ◌≢◌, ℕ, ◌+◌, ◌^◌, ◌≤◌, ◌<◌, Result, Ok, Err}
use Rattle.elf_linking.specs.GnuHash.{EndsRun, HasChain, gnu_bucket_count, bucket_word, chain_of, first_symbol_of}
use Rattle.elf_linking.specs.declared.error.LinkError.{LinkError}
use Rattle.elf_linking.specs.declared.error.LinkError.TheVariants.{SymbolIndex}
use Rattle.elf_linking.specs.declared.gnu_hash.GnuHashTable.{GnuHashTable}

-- there are chain words from index `from` up to `last`, which is excluded, and none of them ends a run
pub record GoesTo (table : GnuHashTable) (from last : ℕ) : Type 0 where
  pub ordered : from ≤ last
  pub words : (i : ℕ) → from ≤ i → i < last → HasChain table i
  pub goes_on : (i : ℕ) → from ≤ i → i < last → EndsRun table i → ⊥

-- the run of some bucket reaches index i, which has a chain word
pub record IsReachedByRun (table : GnuHashTable) (i : ℕ) : Type 0 where
  pub bucket : ℕ
  pub below : bucket < gnu_bucket_count table
  pub begins : bucket_word table bucket ≢ 0
  pub goes : GoesTo table (bucket_word table bucket) i
  pub word : HasChain table i

-- `from` is the greatest index at which the run of a bucket begins; 0 if no bucket has a run
pub record IsLastRun (table : GnuHashTable) (from : ℕ) : Type 0 where
  pub each : (k : ℕ) → k < gnu_bucket_count table → bucket_word table k ≤ from
  pub begins : from ≢ 0 → (k : ℕ) × (k < gnu_bucket_count table) × (bucket_word table k ≡ from)

-- a count stops at index i, with the next index at the end of the run, or with the error there
pub data CountStops (table : GnuHashTable) (i : ℕ) : Result ℕ LinkError → Type 0 where
  ended : i < 2 ^ 32 → HasChain table i → EndsRun table i → CountStops table i (Ok (i + 1))
  failed : (error : LinkError) → i < 2 ^ 32 → chain_of table i ≡ Err error → CountStops table i (Err error)
  too_long : i ≡ 2 ^ 32 → CountStops table i (Err SymbolIndex)

-- the result of the count: the first index of the table if there is no run; otherwise that of the stop that the last
-- run comes to
pub data IsGnuCount (table : GnuHashTable) : Result ℕ LinkError → Type 0 where
  no_run : IsLastRun table 0 → IsGnuCount table (Ok (first_symbol_of table))
  counted : (from last : ℕ) (answer : Result ℕ LinkError) → 0 < from → IsLastRun table from
      → GoesTo table from last → CountStops table last answer → IsGnuCount table answer

-- each index that a run reaches is below the count
abbrev pub IsAboveRuns : GnuHashTable → ℕ → Type 0
IsAboveRuns table count = (i : ℕ) → IsReachedByRun table i → i < count
