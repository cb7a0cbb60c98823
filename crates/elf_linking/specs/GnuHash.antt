-- GNU hash tables of symbols (the convention of GNU binutils and glibc): their words, the runs that look-ups
-- pass, and the tables in which look-ups find every symbol that they must. The errors of a look-up, and which
-- tables are good, are this project's own. The layout of a table is in `Layouts`.
use Rattle.std.specs.Prelude.{◌≡◌, ℕ, ◌+◌, ◌-◌, ◌*◌, ◌/◌, ◌%◌, ◌^◌, ◌≤◌, ◌==◌, ◌&&◌, ◌||◌, Bool, not, nat_le, nat_lt, List, [], ◌∷◌, length, Option, Some, None, Result, if◌then◌else◌, ◌<◌, min, Ok, Err, slice_get, ◌≢◌, ◌⊎◌, MatchResult, MatchOption}
use Rattle.std.specs.Int.{bit_at}
use Rattle.elf_base.specs.Number.{number}
use Rattle.elf_base.specs.declared.bytes.Order.{Order}
use Rattle.elf_base.specs.declared.header.numbers.Class.{Class}
use Rattle.elf_linking.specs.Layouts.{bloom_count_in, bloom_size, bucket_count_in, buckets_in, chains_in, gnu_hash_number}
use Rattle.elf_base.specs.FirstError.{unless}
use Rattle.elf_linking.specs.declared.error.LinkError.{LinkError}
use Rattle.elf_linking.specs.declared.error.LinkError.TheVariants.{BucketIndex, ChainData, ChainIndex, SymbolIndex, Missing}
use Rattle.elf_linking.specs.declared.gnu_hash.GnuHashTable.{GnuHashTable}
use Rattle.xmas_elf.specs.Symbol.{IsGlobal, Symbols}

-- The words of a table, and the bucket where a look-up begins.

-- the bytes of a table
abbrev pub gnu_data : GnuHashTable → List ℕ
gnu_data table = table.bytes.now

-- the class of its Bloom words
abbrev pub gnu_class : GnuHashTable → Class
gnu_class table = table.class

-- its byte order
abbrev pub gnu_order : GnuHashTable → Order
gnu_order table = table.order

-- the number of buckets
abbrev pub gnu_bucket_count : GnuHashTable → ℕ
gnu_bucket_count table = bucket_count_in table.order table.bytes.now

-- the index of the first symbol: the second of the four words
abbrev pub first_symbol_of : GnuHashTable → ℕ
first_symbol_of table = number table.order 4 4 table.bytes.now

-- the number of Bloom words
abbrev pub bloom_count_of : GnuHashTable → ℕ
bloom_count_of table = bloom_count_in table.order table.bytes.now

-- the shift of the hash number for the second bit: the fourth word
abbrev pub bloom_shift_of : GnuHashTable → ℕ
bloom_shift_of table = number table.order 4 12 table.bytes.now

-- Bloom word k, as a number
unfoldable pub bloom_word : GnuHashTable → ℕ → ℕ
bloom_word table k = let size = bloom_size table.class in
    number table.order size (16 + size * k) table.bytes.now

-- the word of bucket k: the index of the first symbol of its run, or 0 if it has none
unfoldable pub bucket_word : GnuHashTable → ℕ → ℕ
bucket_word table k = let start = buckets_in table.class table.order table.bytes.now in
    number table.order 4 (start + 4 * k) table.bytes.now

-- the offset of the chain word of symbol i
unfoldable pub chain_place : GnuHashTable → ℕ → ℕ
chain_place table i = chains_in table.class table.order table.bytes.now
    + 4 * (i - first_symbol_of table)

-- the chain word of symbol i: the hash number of its name, except for the lowest bit, which ends a run
unfoldable pub chain_word : GnuHashTable → ℕ → ℕ
chain_word table i = number table.order 4 (chain_place table i) table.bytes.now

-- symbol i has a chain word: it is not before the first symbol, and the word is within the data
abbrev pub HasChain : GnuHashTable → ℕ → Type 0
HasChain table i =
    (first_symbol_of table ≤ i) × (chain_place table i + 4 ≤ length table.bytes.now)

-- Bloom word k, or why there is none
unfoldable pub bloom_of : GnuHashTable → ℕ → Result ℕ LinkError
bloom_of table k =
    unless ((nat_le (bloom_count_of table) k, BucketIndex) ∷ []) (bloom_word table k)

-- the word of bucket k, or why there is none
unfoldable pub bucket_of : GnuHashTable → ℕ → Result ℕ LinkError
bucket_of table k =
    unless ((nat_le (gnu_bucket_count table) k, BucketIndex) ∷ []) (bucket_word table k)

-- the chain word of symbol i, or the first reason why there is none
unfoldable pub chain_of : GnuHashTable → ℕ → Result ℕ LinkError
chain_of table i = unless (
    (nat_lt i (first_symbol_of table), ChainIndex)
    ∷ (nat_lt (length table.bytes.now) (chain_place table i + 4), ChainData)
    ∷ []) (chain_word table i)

-- a name with this hash number may be in the table: two bits are set in the Bloom word that the number
-- selects, that of the number and that of the shifted number
unfoldable pub may_hold : GnuHashTable → ℕ → Bool
may_hold table h = let width = 8 * bloom_size table.class in
    let word = bloom_word table (h / width % bloom_count_of table) in
    bit_at word (h % width) == 1 && bit_at word (h / 2 ^ bloom_shift_of table % width) == 1

-- the index of the first symbol of a look-up by the hash number, which is the word of its bucket; None if
-- there are no buckets, no such name is in the table, or the bucket has no run
unfoldable pub start_at : GnuHashTable → ℕ → Option ℕ
start_at table h = if gnu_bucket_count table == 0 || not (may_hold table h) then None
    else (let word = bucket_word table (h % gnu_bucket_count table) in
    if word == 0 then None else Some word)

-- the index of the first symbol of a look-up by the name
abbrev pub gnu_start_of : GnuHashTable → List ℕ → Option ℕ
gnu_start_of table name = start_at table (gnu_hash_number name)

-- the chain word of symbol i ends a run
abbrev pub EndsRun : GnuHashTable → ℕ → Type 0
EndsRun table i = chain_word table i % 2 ≡ 1

-- Runs: the symbols that a look-up passes, where it stops, and its result.

-- the number of symbols with an index of 32 bits
abbrev pub symbol_end : {E : Type 0} → List E → ℕ
symbol_end symbols = min (length symbols) (2 ^ 32)

-- index i has a symbol and a chain word
pub record IsThere {E : Type 0} (table : GnuHashTable) (symbols : List E) (i : ℕ) : Type 0 where
  pub symbol : i < symbol_end symbols
  pub word : HasChain table i

-- index i has no symbol, or it has no chain word
pub data Lacks {E : Type 0} (table : GnuHashTable) (symbols : List E) (i : ℕ) : LinkError → Type 0 where
  no_symbol : symbol_end symbols ≤ i → Lacks table symbols i SymbolIndex
  no_word : i < symbol_end symbols → length table.bytes.now < chain_place table i + 4
      → Lacks table symbols i ChainData

-- there are symbols and chain words from index `from` up to `last`, which is excluded, and none of the words
-- ends a run
pub record Run {E : Type 0} (table : GnuHashTable) (symbols : List E) (from last : ℕ) : Type 0 where
  pub ordered : from ≤ last
  pub there : (i : ℕ) → from ≤ i → i < last → IsThere table symbols i
  pub goes_on : (i : ℕ) → from ≤ i → i < last → EndsRun table i → ⊥

-- the runs that come to an index are those that begin at `from` or later
pub record ComeFrom {E : Type 0} (table : GnuHashTable) (symbols : List E) (from index : ℕ) : Type 0 where
  pub ordered : from ≤ index
  pub come : (i : ℕ) → from ≤ i → i ≤ index → Run table symbols i index
  pub only : (i : ℕ) → 0 < i → Run table symbols i index → from ≤ i

-- a look-up for P, a property of a symbol and its index, by the hash number h finds symbol e at index i
pub record IsHit {E : Type 0} (P : ℕ × E → Type 0) (h : ℕ) (table : GnuHashTable) (symbols : List E) (i : ℕ) (e : E) : Type 0 where
  pub there : IsThere table symbols i
  pub symbol : slice_get symbols i ≡ Some e
  pub agrees : chain_word table i / 2 ≡ h / 2
  pub holds : P (i, e)

-- a look-up finds no symbol from one index up to another, which is excluded
abbrev pub NoHit : {E : Type 0} → (ℕ × E → Type 0) → ℕ → GnuHashTable → List E → ℕ → ℕ → Type 0
NoHit {E} P h table symbols from last =
    (i : ℕ) (e : E) → from ≤ i → i < last → IsHit P h table symbols i e → ⊥

-- a look-up for P stops at index i, with a result and the number of chain words read there: at a hit, at the
-- end of the run, or where a symbol or a chain word is missing
pub data GnuStops {E : Type 0} (P : ℕ × E → Type 0) (h : ℕ) (table : GnuHashTable) (symbols : List E) (i : ℕ) : Result (Option (ℕ × E)) LinkError → ℕ → Type 0 where
  found : (e : E) → IsHit P h table symbols i e → GnuStops P h table symbols i (Ok (Some (i, e))) 1
  ended : IsThere table symbols i → EndsRun table i → ((e : E) → IsHit P h table symbols i e → ⊥)
      → GnuStops P h table symbols i (Ok None) 1
  failed : (error : LinkError) → Lacks table symbols i error → GnuStops P h table symbols i (Err error) 0

-- the result of a look-up for P from an index on, and the number of chain words read: that of the stop that
-- its run comes to
pub record GnuLooksFrom {E : Type 0} (P : ℕ × E → Type 0) (h : ℕ) (table : GnuHashTable) (symbols : List E) (from : ℕ) (answer : Result (Option (ℕ × E)) LinkError) (n : ℕ) : Type 0 where
  pub last : ℕ
  pub here : ℕ
  pub run : Run table symbols from last
  pub missed : NoHit P h table symbols from last
  pub stop : GnuStops P h table symbols last answer here
  pub counted : n ≡ last - from + here

-- the result of a look-up for the name and P, a property of a symbol and its index, and the number of chain words
-- read
pub data GnuLooksWhere {E : Type 0} (P : ℕ × E → Type 0) (table : GnuHashTable) (symbols : List E) (name : List ℕ) : Result (Option (ℕ × E)) LinkError → ℕ → Type 0 where
  no_run : gnu_start_of table name ≡ None → GnuLooksWhere P table symbols name (Ok None) 0
  too_early : (from : ℕ) → gnu_start_of table name ≡ Some from → from < first_symbol_of table
      → GnuLooksWhere P table symbols name (Err ChainIndex) 0
  goes : (from n : ℕ) (answer : Result (Option (ℕ × E)) LinkError)
      → gnu_start_of table name ≡ Some from → first_symbol_of table ≤ from
      → GnuLooksFrom P (gnu_hash_number name) table symbols from answer n
      → GnuLooksWhere P table symbols name answer n

-- the result of a look-up for the name and P, a property of a symbol, and the number of chain words read
abbrev pub Looks : {E : Type 0} → (E → Type 0) → GnuHashTable → List E → List ℕ → Result (Option (ℕ × E)) LinkError → ℕ → Type 0
Looks P table symbols name = GnuLooksWhere (λ at. P at.1) table symbols name

-- Tables whose runs end and contain every symbol that a search must find.

-- the run from an index on ends, at a word with its lowest bit set
pub record GnuEnds {E : Type 0} (table : GnuHashTable) (symbols : List E) (from : ℕ) : Type 0 where
  pub last : ℕ
  pub run : Run table symbols from last
  pub there : IsThere table symbols last
  pub ends : EndsRun table last

-- the run from an index on comes to an index without a symbol or a chain word
pub record IsCut {E : Type 0} (table : GnuHashTable) (symbols : List E) (from : ℕ) (error : LinkError) : Type 0 where
  pub last : ℕ
  pub run : Run table symbols from last
  pub lacks : Lacks table symbols last error

-- bucket k has no run, or one that begins at the first symbol or later and ends
abbrev pub IsBucketGood : {E : Type 0} → GnuHashTable → List E → ℕ → Type 0
IsBucketGood table symbols k = let from = bucket_word table k in
    (from ≡ 0) ⊎ ((first_symbol_of table ≤ from) × GnuEnds table symbols from)

-- the buckets below n are good
abbrev pub AreGoodBelow : {E : Type 0} → GnuHashTable → List E → ℕ → Type 0
AreGoodBelow table symbols n = (k : ℕ) → k < n → IsBucketGood table symbols k

-- bucket k is at fault, with this error
pub data IsAtFault {E : Type 0} (table : GnuHashTable) (symbols : List E) (k : ℕ) : LinkError → Type 0 where
  before_first : 0 < bucket_word table k → bucket_word table k < first_symbol_of table
      → IsAtFault table symbols k ChainIndex
  cut : (error : LinkError) → 0 < bucket_word table k
      → first_symbol_of table ≤ bucket_word table k
      → IsCut table symbols (bucket_word table k) error → IsAtFault table symbols k error

-- symbol e at index i is exported: it is not local, has the name, is not before the first symbol of the
-- table, and is defined (its section index is not 0, SHN_UNDEF)
pub record IsExported {E : Type 0} (table : GnuHashTable) (symbols : Symbols E) (i : ℕ) (e : E) (name : List ℕ) : Type 0 where
  pub global : IsGlobal symbols i e name
  pub from_first : first_symbol_of table ≤ i
  pub defined : (symbols.fields e).shndx ≢ 0

-- index i is found for the name: the run of the name comes to it, and its chain word has the hash number
pub record IsHeld {E : Type 0} (table : GnuHashTable) (symbols : List E) (name : List ℕ) (i : ℕ) : Type 0 where
  pub from : ℕ
  pub starts : gnu_start_of table name ≡ Some from
  pub run : Run table symbols from i
  pub there : IsThere table symbols i
  pub agrees : chain_word table i / 2 ≡ gnu_hash_number name / 2

-- each bucket is good, and every exported symbol is found for its name
pub record IsGnuGood {E : Type 0} (table : GnuHashTable) (symbols : Symbols E) : Type 0 where
  pub buckets : AreGoodBelow table symbols.items (gnu_bucket_count table)
  pub holds : (i : ℕ) (e : E) (name : List ℕ) → IsExported table symbols i e name
      → IsHeld table symbols.items name i

-- the result of the check: the error of the least bucket at fault; otherwise whether a symbol is missing
pub data IsCheck {E : Type 0} (table : GnuHashTable) (symbols : Symbols E) : Result (Unit {0}) LinkError → Type 0 where
  good : IsGnuGood table symbols → IsCheck table symbols (Ok tt)
  faulty : (k : ℕ) (error : LinkError) → k < gnu_bucket_count table
      → AreGoodBelow table symbols.items k
      → IsAtFault table symbols.items k error → IsCheck table symbols (Err error)
  missing : (i : ℕ) (e : E) (name : List ℕ)
      → AreGoodBelow table symbols.items (gnu_bucket_count table)
      → IsExported table symbols i e name → ¬ IsHeld table symbols.items name i
      → IsCheck table symbols (Err Missing)

-- the table exports a symbol with the name and P, a property of a symbol and its index
abbrev pub MustBeFoundWhere : {E : Type 0} → GnuHashTable → Symbols E → List ℕ → (ℕ × E → Type 0) → Type 0
MustBeFoundWhere {E} table symbols name P =
    (i : ℕ) × (e : E) × IsExported table symbols i e name × P (i, e)

-- there is no error; what is found is one of the symbols and has P at its index, and if nothing is found, the
-- table exports no such symbol
abbrev pub FindsAllWhere : {E : Type 0} → GnuHashTable → Symbols E → List ℕ → (ℕ × E → Type 0) → Result (Option (ℕ × E)) LinkError → Type 0
FindsAllWhere {E} table symbols name P answer = MatchResult answer
    (λ found. MatchOption found (¬ MustBeFoundWhere table symbols name P)
    (λ (p : ℕ × E). (0 < p.0) × (first_symbol_of table ≤ p.0)
    × (slice_get symbols.items p.0 ≡ Some p.1) × P p))
    (λ error. ⊥)

-- there is no error; what is found is one of the symbols and has P, a property of a symbol, and if nothing is
-- found, the table exports no such symbol
abbrev pub FindsAll : {E : Type 0} → GnuHashTable → Symbols E → List ℕ → (E → Type 0) → Result (Option (ℕ × E)) LinkError → Type 0
FindsAll table symbols name P = FindsAllWhere table symbols name (λ at. P at.1)
