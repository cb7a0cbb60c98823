-- Hash tables of symbols (gABI, "Hash Table"): their words, the chains that look-ups follow, and the tables in
-- which look-ups find every symbol that they must. The errors, and which tables are good, are this project's
-- own.
use Rattle.std.specs.Prelude.{ℕ, ◌+◌, ◌*◌, ◌%◌, ◌^◌, ◌<◌, ◌≤◌, Bool, nat_eq, nat_le, nat_lt, List, [], ◌∷◌, length, Option, Some, None, Result, if◌then◌else◌, ◌≡◌, ◌⊎◌, zero, suc, Ok, Err, slice_get, MatchResult, MatchOption}
use Rattle.std.specs.Borrow.{Bor}
use Rattle.elf_base.specs.Number.{number}
use Rattle.elf_base.specs.FirstError.{unless}
use Rattle.elf_records.specs.HashNumber.{hash_number}
use Rattle.elf_base.specs.declared.error.ElfError.TheVariants.{BucketIndex, ChainIndex, ChainSum, HashData, HashCycle, SymbolIndex, HashMissing}
use Rattle.xmas_elf.specs.Prelude.{ElfError, HashTable, Order}
use Rattle.xmas_elf.specs.Symbol.{IsGlobal, Symbols}

-- The words of a table, of four bytes each.

-- the slice that a hash table borrows: its place in memory and its bytes
abbrev pub hash_bytes : HashTable → Bor (List ℕ)
hash_bytes table = table.bytes

-- the bytes of a hash table
abbrev pub hash_data : HashTable → List ℕ
hash_data table = table.bytes.now

-- the byte order of a hash table
abbrev pub hash_order : HashTable → Order
hash_order table = table.order

-- nbucket: the number of buckets
abbrev pub bucket_count_of : HashTable → ℕ
bucket_count_of table = number (hash_order table) 4 0 (hash_data table)

-- nchain: the number of chains, which is the number of symbols
abbrev pub chain_count_of : HashTable → ℕ
chain_count_of table = number (hash_order table) 4 4 (hash_data table)

-- word k of a hash table
abbrev pub hash_word : HashTable → ℕ → ℕ
hash_word table k = number (hash_order table) 4 (4 * k) (hash_data table)

-- word k is within the data
abbrev pub HasWord : HashTable → ℕ → Type 0
HasWord table k = 4 * k + 4 ≤ length (hash_data table)

-- whether word k extends past the end of the data
abbrev pub lacks_word : HashTable → ℕ → Bool
lacks_word table k = nat_lt (length (hash_data table)) (4 * k + 4)

-- word k, or `HashData` if it extends past the end of the data
unfoldable pub word_of : HashTable → ℕ → Result ℕ ElfError
word_of table k = unless ((lacks_word table k, HashData) ∷ []) (hash_word table k)

-- bucket i can be read
abbrev pub HasBucket : HashTable → ℕ → Type 0
HasBucket table i = (i < bucket_count_of table) × HasWord table (2 + i)

-- bucket i, which follows the two counts, or the first reason why there is none
unfoldable pub bucket_of : HashTable → ℕ → Result ℕ ElfError
bucket_of table i = unless (
    (nat_le (bucket_count_of table) i, BucketIndex)
    ∷ (lacks_word table (2 + i), HashData)
    ∷ []) (hash_word table (2 + i))

-- chain i can be read
pub record HasChain (table : HashTable) (i : ℕ) : Type 0 where
  pub below : i < chain_count_of table
  pub fits : bucket_count_of table + i < 2 ^ 32
  pub whole : HasWord table (2 + bucket_count_of table + i)

-- chain i, which follows the buckets, or the first reason why there is none
unfoldable pub chain_of : HashTable → ℕ → Result ℕ ElfError
chain_of table i = unless (
    (nat_le (chain_count_of table) i, ChainIndex)
    ∷ (nat_le (2 ^ 32) (bucket_count_of table + i), ChainSum)
    ∷ (lacks_word table (2 + bucket_count_of table + i), HashData)
    ∷ []) (hash_word table (2 + bucket_count_of table + i))

-- the bucket that a name's hash number selects, or why it can't be read; None if there are no buckets
unfoldable pub start_of : HashTable → List ℕ → Option (Result ℕ ElfError)
start_of table name = if nat_eq (bucket_count_of table) 0 then None
    else Some (bucket_of table (hash_number name % bucket_count_of table))

-- Chains: the steps of a search along one, where it stops, and what it reaches.

-- what a search reads: the number of chain words, each word or why it can't be read, the symbols
pub record Chains (E : Type 0) : Type 0 where
  pub count : ℕ
  pub chain : ℕ → Result ℕ ElfError
  pub symbols : List E

-- the chains of a hash table, with its symbols
abbrev pub chains_of : {E : Type 0} → HashTable → List E → Chains E
chains_of table symbols =
    record { count = chain_count_of table; chain = chain_of table; symbols = symbols }

-- index i is not the end (STN_UNDEF) and is below the number of chains, and its symbol is e
pub record IsFoundAt {E : Type 0} (chains : Chains E) (i : ℕ) (e : E) : Type 0 where
  pub not_end : 0 < i
  pub below : i < chains.count
  pub symbol : slice_get chains.symbols i ≡ Some e

-- the chain leads from index i to index j
pub record Links {E : Type 0} (chains : Chains E) (i j : ℕ) : Type 0 where
  pub entry : E
  pub stands : IsFoundAt chains i entry
  pub next : chains.chain i ≡ Ok j

-- the chain leads from the first index to another in a number of steps
pub data Comes {E : Type 0} (chains : Chains E) (first : ℕ) : ℕ → ℕ → Type 0 where
  starts : Comes chains first zero first
  goes : (n i j : ℕ) → Comes chains first n i → Links chains i j → Comes chains first (suc n) j

-- the chain leads from one index to the other
abbrev pub Reaches : {E : Type 0} → Chains E → ℕ → ℕ → Type 0
Reaches chains first last = (n : ℕ) × Comes chains first n last

-- no symbol at an index that is fewer than n steps from the first has P
abbrev pub NoneBefore : {E : Type 0} → (ℕ × E → Type 0) → Chains E → ℕ → ℕ → Type 0
NoneBefore {E} P chains first n =
    (m : ℕ) → m < n → (i : ℕ) (e : E) → Comes chains first m i → IsFoundAt chains i e → ¬ P (i, e)

-- a search for P, a property of a symbol and its index, stops at an index with a result, and tests a number of
-- symbols there: 0 or 1
pub data Stops {E : Type 0} (P : ℕ × E → Type 0) (chains : Chains E) : ℕ → Result (Option (ℕ × E)) ElfError → ℕ → Type 0 where
  at_end : Stops P chains 0 (Ok None) 0
  past_chains : (i : ℕ) → 0 < i → chains.count ≤ i → Stops P chains i (Err ChainIndex) 0
  past_symbols : (i : ℕ) → 0 < i → i < chains.count → slice_get chains.symbols i ≡ None
      → Stops P chains i (Err SymbolIndex) 0
  found : (i : ℕ) (e : E) → IsFoundAt chains i e → P (i, e) → Stops P chains i (Ok (Some (i, e))) 1
  failed : (i : ℕ) (e : E) (error : ElfError) → IsFoundAt chains i e → (P (i, e) → ⊥)
      → chains.chain i ≡ Err error → Stops P chains i (Err error) 1

-- the result of a search that begins at a bucket, and the number of symbols it tests: the result of the first
-- stop that it reaches, or HashCycle if it reaches none
pub data LooksFrom {E : Type 0} (P : ℕ × E → Type 0) (chains : Chains E) : Option (Result ℕ ElfError) → Result (Option (ℕ × E)) ElfError → ℕ → Type 0 where
  no_bucket : LooksFrom P chains None (Ok None) 0
  bad_bucket : (error : ElfError) → LooksFrom P chains (Some (Err error)) (Err error) 0
  reaches : (first last n more : ℕ) (answer : Result (Option (ℕ × E)) ElfError)
      → Comes chains first n last → NoneBefore P chains first n → Stops P chains last answer more
      → LooksFrom P chains (Some (Ok first)) answer (n + more)
  endless : (first n : ℕ)
      → ((last m more : ℕ) (answer : Result (Option (ℕ × E)) ElfError) → Comes chains first m last → NoneBefore P chains first m → Stops P chains last answer more → ⊥)
      → LooksFrom P chains (Some (Ok first)) (Err HashCycle) n

-- the result of a look-up for P, a property of a symbol and its index, which begins at the bucket of the name
abbrev pub LooksWhere : {E : Type 0} → (ℕ × E → Type 0) → HashTable → List E → List ℕ → Result (Option (ℕ × E)) ElfError → ℕ → Type 0
LooksWhere P table symbols name = LooksFrom P (chains_of table symbols) (start_of table name)

-- the result of a look-up for P, a property of a symbol
abbrev pub Looks : {E : Type 0} → (E → Type 0) → HashTable → List E → List ℕ → Result (Option (ℕ × E)) ElfError → ℕ → Type 0
Looks P table symbols name = LooksWhere (λ at. P at.1) table symbols name

-- why a search stops at an index that isn't the end, after `passed` symbols
pub data Halts {E : Type 0} (chains : Chains E) (passed i : ℕ) : ElfError → Type 0 where
  no_chain : chains.count ≤ i → Halts chains passed i ChainIndex
  no_symbol : i < chains.count → slice_get chains.symbols i ≡ None → Halts chains passed i SymbolIndex
  too_many : (e : E) → IsFoundAt chains i e → (chains.count ≤ passed) ⊎ (length chains.symbols ≤ passed)
      → Halts chains passed i HashCycle

-- the chain leads from the first index to index i in n steps, and each symbol before i has Over: its test
-- was false
pub record Followed {E : Type 0} (Over : ℕ × E → Type 0) (chains : Chains E) (first n i : ℕ) : Type 0 where
  pub comes : Comes chains first n i
  pub over : (m x : ℕ) (e : E) → m < n → Comes chains first m x → IsFoundAt chains x e → Over (x, e)

-- the result of a search that tests each symbol, and the number of tests: the first symbol that passes, nothing
-- at the end, or the error where it stops
pub data FollowsChain {E : Type 0} (Stop Over : ℕ × E → Type 0) (chains : Chains E) (first : ℕ) : Result (Option (ℕ × E)) ElfError → ℕ → Type 0 where
  ends : (n : ℕ) → Followed Over chains first n 0 → FollowsChain Stop Over chains first (Ok None) n
  stops : (n i : ℕ) (e : E) → Followed Over chains first n i → IsFoundAt chains i e → Stop (i, e)
      → FollowsChain Stop Over chains first (Ok (Some (i, e))) (n + 1)
  halts : (n i : ℕ) (error : ElfError) → Followed Over chains first n i → 0 < i → Halts chains n i error
      → FollowsChain Stop Over chains first (Err error) n
  breaks : (n i : ℕ) (e : E) (error : ElfError) → Followed Over chains first n i → IsFoundAt chains i e → Over (i, e)
      → chains.chain i ≡ Err error → FollowsChain Stop Over chains first (Err error) (n + 1)

-- a search for P begins at an index, and reaches no stop
abbrev pub IsEndless : {E : Type 0} → (ℕ × E → Type 0) → Chains E → Option (Result ℕ ElfError) → Type 0
IsEndless {E} P chains start = (first : ℕ) × (start ≡ Some (Ok first))
    × ((last m more : ℕ) (answer : Result (Option (ℕ × E)) ElfError) → Comes chains first m last → NoneBefore P chains first m → Stops P chains last answer more → ⊥)

-- Tables whose chains end and contain every symbol that a search must find.

-- the chain of bucket k ends
abbrev pub Ends : {E : Type 0} → HashTable → List E → ℕ → Type 0
Ends table symbols k =
    (first : ℕ) × (bucket_of table k ≡ Ok first) × Reaches (chains_of table symbols) first 0

-- the chains of all buckets below n end
abbrev pub EndsBelow : {E : Type 0} → HashTable → List E → ℕ → Type 0
EndsBelow table symbols n = (k : ℕ) → k < n → Ends table symbols k

-- index i is in the chain of the bucket of the name
abbrev pub IsReached : {E : Type 0} → HashTable → List E → List ℕ → ℕ → Type 0
IsReached table symbols name i =
    (first : ℕ) × (start_of table name ≡ Some (Ok first)) × Reaches (chains_of table symbols) first i

-- symbol i is in the chain of its name, if it is not local and has a name
abbrev pub Held : {E : Type 0} → HashTable → Symbols E → ℕ → Type 0
Held {E} table symbols i = (e : E) (name : List ℕ) → IsGlobal symbols i e name → IsReached table symbols.items name i

-- each chain ends, and each symbol that is not local and has a name is in the chain of that name
pub record IsGood {E : Type 0} (table : HashTable) (symbols : Symbols E) : Type 0 where
  pub ends : EndsBelow table symbols.items (bucket_count_of table)
  pub holds : (i : ℕ) (e : E) (name : List ℕ) → IsGlobal symbols i e name
      → IsReached table symbols.items name i

-- bucket k is at fault: its whole chain can't be followed, for the reason of this error
abbrev pub IsAtFault : {E : Type 0} → HashTable → List E → ℕ → ElfError → Type 0
IsAtFault table symbols k error =
    (n : ℕ) × LooksFrom (λ _. ⊥) (chains_of table symbols) (Some (bucket_of table k)) (Err error) n

-- the result of the check: the error of the least bucket at fault; otherwise whether a symbol is missing
pub data IsCheck {E : Type 0} (table : HashTable) (symbols : Symbols E) : Result (Unit {0}) ElfError → Type 0 where
  good : IsGood table symbols → IsCheck table symbols (Ok tt)
  faulty : (k : ℕ) (error : ElfError) → k < bucket_count_of table → EndsBelow table symbols.items k
      → IsAtFault table symbols.items k error → IsCheck table symbols (Err error)
  missing : (i : ℕ) (e : E) (name : List ℕ) → EndsBelow table symbols.items (bucket_count_of table)
      → IsGlobal symbols i e name → ¬ IsReached table symbols.items name i
      → IsCheck table symbols (Err HashMissing)

-- symbol i must be found: it is not local and has a name
abbrev pub MustBeHeld : {E : Type 0} → Symbols E → ℕ → Type 0
MustBeHeld {E} symbols i = (e : E) × (name : List ℕ) × IsGlobal symbols i e name

-- symbol i must be found, and bucket k is that of its name
abbrev pub Belongs : {E : Type 0} → HashTable → Symbols E → ℕ → ℕ → Type 0
Belongs {E} table symbols k i = (e : E) × (name : List ℕ)
    × IsGlobal symbols i e name × (hash_number name % bucket_count_of table ≡ k)

-- symbol i belongs to bucket k and is in its chain
abbrev pub IsHeldBy : {E : Type 0} → HashTable → Symbols E → ℕ → ℕ → Type 0
IsHeldBy table symbols k i = Belongs table symbols k i × ((first : ℕ)
    × (bucket_of table k ≡ Ok first) × Reaches (chains_of table symbols.items) first i)

-- symbol i is found in its bucket, which is below n
abbrev pub IsHeldBelow : {E : Type 0} → HashTable → Symbols E → ℕ → ℕ → Type 0
IsHeldBelow table symbols n i = (k : ℕ) × (k < n) × IsHeldBy table symbols k i

-- a search of all symbols for the name and P, a property of a symbol and its index, finds one
abbrev pub MustBeFoundWhere : {E : Type 0} → Symbols E → List ℕ → (ℕ × E → Type 0) → Type 0
MustBeFoundWhere {E} symbols name P = (i : ℕ) × (e : E) × IsGlobal symbols i e name × P (i, e)

-- a search of all symbols for the name and P, a property of a symbol, finds one
abbrev pub MustBeFound : {E : Type 0} → Symbols E → List ℕ → (E → Type 0) → Type 0
MustBeFound symbols name P = MustBeFoundWhere symbols name (λ at. P at.1)

-- there is no error; what is found is one of the symbols and has P at its index, and if nothing is found, a
-- search of all symbols finds nothing either
abbrev pub FindsAllWhere : {E : Type 0} → Symbols E → List ℕ → (ℕ × E → Type 0) → Result (Option (ℕ × E)) ElfError → Type 0
FindsAllWhere {E} symbols name P answer = MatchResult answer
    (λ found. MatchOption found (¬ MustBeFoundWhere symbols name P)
    (λ (p : ℕ × E). (0 < p.0) × (slice_get symbols.items p.0 ≡ Some p.1) × P p))
    (λ error. ⊥)

-- there is no error; what is found is one of the symbols and has P, a property of a symbol, and if nothing is
-- found, a search of all symbols finds nothing either
abbrev pub FindsAll : {E : Type 0} → Symbols E → List ℕ → (E → Type 0) → Result (Option (ℕ × E)) ElfError → Type 0
FindsAll symbols name P = FindsAllWhere symbols name (λ at. P at.1)
