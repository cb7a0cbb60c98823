-- The cache of libraries that `ldconfig` writes, and what the loader finds there for a name (glibc, `dl-cache.h` and
-- `ld.so`'s `search_cache`). A search of any bytes, and what is wrong with a cache, are this project's own.
use Rattle.std.specs.Prelude.{◌≡◌, ℕ, zero, suc, ◌+◌, ◌-◌, ◌*◌, ◌/◌, ◌%◌, ◌^◌, ◌<◌, ◌≤◌, ◌==◌, ◌&&◌, ◌||◌, Bool, true, false, not, nat_eq, nat_le, nat_lt, List, [], ◌∷◌, length, drop, position, unwrap_or, option_map, Option, None, Some, Result, Ok, Err, is_none, if◌then◌else◌, bit_and, bit_or, is_some}
use Rattle.std.specs.Cmp.Lexicographic.{pointwise, slice_cmp}
use Rattle.std.specs.Int.{bit_at}
use Rattle.std.specs.List.{starts_with}
use Rattle.std.specs.Ordering.{is_lt, nat_cmp}
use Rattle.std.specs.declared.cmp.Ordering.{Ordering}
use Rattle.std.specs.declared.cmp.Ordering.TheVariants.{Less, Equal, Greater}
use Rattle.elf_base.specs.Number.{byte_at, number}
use Rattle.elf_base.specs.FirstError.{and_then, unless}
use Rattle.elf_base.specs.Text.{before_zero}
use Rattle.elf_base.specs.declared.bytes.Order.TheVariants.{Little}
use Rattle.elf_search.specs.Pieces.{are_small, name_order, pieces}
use Rattle.elf_search.specs.declared.cache.Cache.{Cache}
use Rattle.elf_search.specs.declared.cache.Machine.{Machine}
use Rattle.elf_search.specs.declared.cache.TheConstants.{MAGIC, OLD_MAGIC, PLATFORMS}
use Rattle.elf_search.specs.declared.cache.Usage.{Usage}
use Rattle.elf_search.specs.declared.cache.Usage.TheVariants.{Foreign, Named, Plain, Unfit}
use Rattle.elf_search.specs.declared.error.SearchError.{SearchError}
use Rattle.elf_search.specs.declared.error.SearchError.TheVariants.{CacheCount, CacheEntry, CacheEntryOrder, CacheExtension, CacheNumber, CacheOrder, HwcapsName, HwcapsOrder, NotACache}

-- The layout.

-- the 32-bit number at a place
abbrev pub word_at : List ℕ → ℕ → ℕ
word_at bytes place = number Little 4 place bytes

-- the place of the header: that of the older format may come before it, with entries of 12 bytes and padding to 8
abbrev pub header_place : List ℕ → ℕ
header_place bytes = if starts_with nat_eq bytes OLD_MAGIC.now then (16 + 12 * word_at bytes 12 + 7) / 8 * 8 else 0

-- the number of entries
abbrev pub entry_count : List ℕ → ℕ
entry_count bytes = word_at bytes (header_place bytes + 20)

-- the byte order of a header is not given, or is little-endian
abbrev pub is_little : ℕ → Bool
is_little flags = flags == 0 || flags % 4 == 2

-- whether the bytes are a cache, or the first reason why not
unfoldable pub cache_of : List ℕ → Result (Unit {0}) SearchError
cache_of bytes = let start = header_place bytes in unless (
    (nat_lt (length bytes) 49, NotACache)
    ∷ (nat_lt (length bytes) (start + 48), NotACache)
    ∷ (not (starts_with nat_eq (drop start bytes) MAGIC.now), NotACache)
    ∷ (nat_lt (length bytes) (start + 48 + 24 * entry_count bytes), CacheCount)
    ∷ (not (is_little (byte_at (start + 28) bytes)), CacheOrder)
    ∷ []) tt

-- whether the sections 0 to n - 1 of an extension, whose records begin at a place, are in the file
abbrev pub are_within : List ℕ → ℕ → ℕ → Bool
are_within bytes place zero = true
are_within bytes place (suc n) = are_within bytes place n
    && nat_le (word_at bytes (place + 16 * n + 8) + word_at bytes (place + 16 * n + 12)) (length bytes)

-- the place and the number of the words in a section; two zeros if its place or its size is no multiple of 4
abbrev pub aligned_words : ℕ → ℕ → ℕ × ℕ
aligned_words place size = if place % 4 == 0 && size % 4 == 0 then (place, size / 4) else (0, 0)

-- the place and the number of the words in the last of these sections that has tag 1, or two zeros
abbrev pub tagged_words : List ℕ → ℕ → ℕ → ℕ × ℕ
tagged_words bytes place zero = (0, 0)
tagged_words bytes place (suc n) = if word_at bytes (place + 16 * n) == 1
    then aligned_words (word_at bytes (place + 16 * n + 8)) (word_at bytes (place + 16 * n + 12))
    else tagged_words bytes place n

-- the head of an extension at a place is in the file, and so are the records of its sections
abbrev pub is_extension : List ℕ → ℕ → Bool
is_extension bytes place = place % 4 == 0 && nat_le (place + 8) (length bytes) && word_at bytes place == 0xeaa42174
    && nat_le (place + 8 + 16 * word_at bytes (place + 4)) (length bytes)

-- the place and the number of the words for names of hwcaps in the extension at a place, which is 0 if there is no
-- extension; None if the extension is damaged
unfoldable pub extension_words : List ℕ → ℕ → Option (ℕ × ℕ)
extension_words bytes place = if place == 0 then Some (0, 0)
    else (if is_extension bytes place then (let n = word_at bytes (place + 4) in
    if are_within bytes (place + 8) n then Some (tagged_words bytes (place + 8) n) else None) else None)

-- those of the extension of the header at a place
abbrev pub words_of_header : List ℕ → ℕ → Option (ℕ × ℕ)
words_of_header bytes start = extension_words bytes (word_at bytes (start + 32))

-- the words for names of hwcaps of a cache: none if the extension is damaged
abbrev pub name_words : List ℕ → ℕ × ℕ
name_words bytes = unwrap_or (words_of_header bytes (header_place bytes)) (0, 0)

-- Entries.

-- the bytes of a cache
abbrev pub cache_bytes : Cache → List ℕ
cache_bytes cache = cache.bytes.now

-- the place of entry i
abbrev pub entry_place : Cache → ℕ → ℕ
entry_place cache i = cache.start + 48 + 24 * i

-- its flags, which say for which machines it is
unfoldable pub flags_of : Cache → ℕ → ℕ
flags_of cache i = word_at cache.bytes.now (entry_place cache i)

-- the place of its key, the name of a library
unfoldable pub key_place : Cache → ℕ → ℕ
key_place cache i = cache.start + word_at cache.bytes.now (entry_place cache i + 4)

-- the place of its value, the path of a library
unfoldable pub value_place : Cache → ℕ → ℕ
value_place cache i = cache.start + word_at cache.bytes.now (entry_place cache i + 8)

-- the capabilities that its library needs of the processor
unfoldable pub hwcap_of : Cache → ℕ → ℕ
hwcap_of cache i = number Little 8 (entry_place cache i + 16) cache.bytes.now

-- a place is in the file
abbrev pub is_inside : Cache → ℕ → Bool
is_inside cache place = nat_lt place (length cache.bytes.now)

-- the bytes from a place up to the first zero byte, or up to the end
abbrev pub text_from : List ℕ → ℕ → List ℕ
text_from bytes place = unwrap_or (before_zero (drop place bytes)) (drop place bytes)

-- the order of a name and the key of entry i, if the key is in the file
unfoldable pub order_at : Cache → List ℕ → ℕ → Option Ordering
order_at cache name i = if is_inside cache (key_place cache i)
    then Some (name_order name (drop (key_place cache i) cache.bytes.now)) else None

-- What an entry is to a machine.

-- name i of hwcaps, if there is one
unfoldable pub hwcaps_name : Cache → ℕ → Option (List ℕ)
hwcaps_name cache i = if nat_lt i cache.name_count then (let place = word_at cache.bytes.now (cache.names + 4 * i) in
    if is_inside cache place then Some (text_from cache.bytes.now place) else None) else None

-- the place of a name among the active ones of a machine
abbrev pub rank_of : Machine → Option (List ℕ) → Option ℕ
rank_of machine None = None
rank_of machine (Some name) = position (λ active. pointwise nat_eq active.now name) machine.names.now

-- the library is in a subdirectory with a name of hwcaps
abbrev pub is_named : ℕ → Bool
is_named hwcap = hwcap / 2 ^ 42 == 2 ^ 20

-- the machine has the level that a named entry asks for
abbrev pub has_level : Machine → ℕ → Bool
has_level machine hwcap = bit_at machine.levels (hwcap / 2 ^ 32 % 32) == 1

-- an entry with a name is as good as the name's place among the active ones
abbrev pub ranked : Option ℕ → Usage
ranked None = Unfit
ranked (Some rank) = Named rank

-- the machine has all capabilities that an entry without a name asks for
abbrev pub is_plain : Machine → ℕ → Bool
is_plain machine hwcap = let platform = bit_and hwcap PLATFORMS in
    bit_and hwcap (bit_or machine.bits PLATFORMS) == hwcap && (platform == 0 || platform == machine.platform)

-- what an entry with these capabilities is to the machine
abbrev pub usage_by : Cache → Machine → ℕ → Usage
usage_by cache machine hwcap = if is_named hwcap
    then (if has_level machine hwcap then ranked (rank_of machine (hwcaps_name cache (hwcap % 2 ^ 32))) else Unfit)
    else (if is_plain machine hwcap then Plain else Foreign)

-- the entry is for the machine, and its value is in the file
abbrev pub is_for : Cache → Machine → ℕ → Bool
is_for cache machine i = (flags_of cache i == machine.flags || flags_of cache i == machine.other_flags)
    && is_inside cache (value_place cache i)

-- what entry i is to the machine
unfoldable pub usage_of : Cache → Machine → ℕ → Usage
usage_of cache machine i = if is_for cache machine i then usage_by cache machine (hwcap_of cache i) else Unfit

-- Which of several entries is used.

-- the better of the named entry so far and a named entry, each with the place of its name: the first of equals
abbrev pub better : Option (ℕ × ℕ) → ℕ → ℕ → Option (ℕ × ℕ)
better None i rank = Some (i, rank)
better (Some best) i rank = if nat_lt rank best.1 then Some (i, rank) else Some best

-- an entry ends the choice: one without a name does if the machine has its capabilities, or if there is a named one
abbrev pub is_last : Option (ℕ × ℕ) → Usage → Bool
is_last best Unfit = false
is_last best (Named rank) = false
is_last best Plain = true
is_last best Foreign = is_some best

-- the best named entry after entry i
abbrev pub next_best : Option (ℕ × ℕ) → ℕ → Usage → Option (ℕ × ℕ)
next_best best i Unfit = best
next_best best i (Named rank) = better best i rank
next_best best i Plain = best
next_best best i Foreign = best

-- the entry used among these, in order: the best named one before the first without a name, or else the first without a
-- name whose capabilities the machine has; `best` is the best named one before them
abbrev pub used_after : (ℕ → Usage) → Option (ℕ × ℕ) → List ℕ → Option ℕ
used_after usage best [] = option_map (λ entry. entry.0) best
used_after usage best (i ∷ is) = if is_last best (usage i) then Some (unwrap_or (option_map (λ entry. entry.0) best) i)
    else used_after usage (next_best best i (usage i)) is

-- the entry used among these
abbrev pub used : (ℕ → Usage) → List ℕ → Option ℕ
used usage is = used_after usage None is

-- The search.

-- the order is that of equals
abbrev pub is_same : Option Ordering → Bool
is_same None = false
is_same (Some Less) = false
is_same (Some Equal) = true
is_same (Some Greater) = false

-- a binary search among the entries from `left` up to `end`, which is excluded, finds one that compares equal; it ends
-- without one where a key is not in the file
pub data Searches (order : ℕ → Option Ordering) : ℕ → ℕ → Option ℕ → Type 0 where
  none : (left end : ℕ) → end ≤ left → Searches order left end None
  outside : (left end : ℕ) → left < end → order ((left + end - 1) / 2) ≡ None → Searches order left end None
  here : (left end : ℕ) → left < end → order ((left + end - 1) / 2) ≡ Some Equal → Searches order left end (Some ((left + end - 1) / 2))
  after : (left end : ℕ) (found : Option ℕ) → left < end → order ((left + end - 1) / 2) ≡ Some Less
      → Searches order ((left + end - 1) / 2 + 1) end found → Searches order left end found
  before : (left end : ℕ) (found : Option ℕ) → left < end → order ((left + end - 1) / 2) ≡ Some Greater
      → Searches order left ((left + end - 1) / 2) found → Searches order left end found

-- the first of the entries before k and directly before each other that compare equal, or k
abbrev pub first_same : (ℕ → Option Ordering) → ℕ → ℕ
first_same order zero = zero
first_same order (suc k) = if is_same (order k) then first_same order k else suc k

-- the entries from i on that compare equal, up to the first that doesn't, at most n
abbrev pub run_from : (ℕ → Option Ordering) → ℕ → ℕ → List ℕ
run_from order zero i = []
run_from order (suc n) i = if is_same (order i) then i ∷ run_from order n (suc i) else []

-- the entries around a found one that compare equal, of n entries
abbrev pub run_around : (ℕ → Option Ordering) → ℕ → Option ℕ → List ℕ
run_around order n None = []
run_around order n (Some k) = let first = first_same order k in run_from order (n - first) first

-- the n entries from i on that compare equal
abbrev pub all_same : (ℕ → Option Ordering) → ℕ → ℕ → List ℕ
all_same order zero i = []
all_same order (suc n) i = if is_same (order i) then i ∷ all_same order n (suc i) else all_same order n (suc i)

-- the value of an entry
abbrev pub value_of : Cache → ℕ → List ℕ
value_of cache i = text_from cache.bytes.now (value_place cache i)

-- what a look-up finds: by the entries that compare equal, around the one that a binary search finds
pub record LooksUp (cache : Cache) (machine : Machine) (name : List ℕ) (entry : Option ℕ) : Type 0 where
  pub found : Option ℕ
  pub search : Searches (order_at cache name) 0 cache.count found
  pub rules : entry ≡ used (usage_of cache machine) (run_around (order_at cache name) cache.count found)

-- what a look-up without a search finds: by all entries that compare equal
abbrev pub looked_up : Cache → Machine → List ℕ → Option ℕ
looked_up cache machine name = used (usage_of cache machine) (all_same (order_at cache name) cache.count 0)

-- What is wrong with a cache.

-- the first error of tests 0 to n - 1
abbrev pub first_error : (ℕ → Result (Unit {0}) SearchError) → ℕ → Result (Unit {0}) SearchError
first_error test zero = Ok tt
first_error test (suc n) = and_then (first_error test n) (λ _. test n)

-- the key of entry i, with all that follows it
abbrev pub key_of : Cache → ℕ → List ℕ
key_of cache i = drop (key_place cache i) cache.bytes.now

-- the key and the value of entry i are in the file
unfoldable pub is_entry_inside : Cache → ℕ → Bool
is_entry_inside cache i = is_inside cache (key_place cache i) && is_inside cache (value_place cache i)

-- entries may be in this order: the keys downwards, and of equal keys those of named entries first
abbrev pub may_follow : Ordering → Bool → Bool → Bool
may_follow Less one other = false
may_follow Equal one other = one || not other
may_follow Greater one other = true

-- entry i may come before the next one
unfoldable pub is_pair_good : Cache → ℕ → Bool
is_pair_good cache i = may_follow (name_order (key_of cache i) (key_of cache (i + 1)))
    (is_named (hwcap_of cache i)) (is_named (hwcap_of cache (i + 1)))

-- entry i may come after the one before it, if there is one
abbrev pub is_in_order : Cache → ℕ → Bool
is_in_order cache zero = true
is_in_order cache (suc i) = is_pair_good cache i

-- the first error of entry i: a part is past the end, a number in its key is 2 to the 31 or more, or it is out of order
unfoldable pub entry_check : Cache → ℕ → Result (Unit {0}) SearchError
entry_check cache i = unless (
    (not (is_entry_inside cache i), CacheEntry)
    ∷ (not (are_small (pieces (key_of cache i))), CacheNumber)
    ∷ (not (is_in_order cache i), CacheEntryOrder)
    ∷ []) tt

-- name i - 1 of hwcaps, if there is one
abbrev pub name_before : Cache → ℕ → Option (List ℕ)
name_before cache zero = None
name_before cache (suc i) = hwcaps_name cache i

-- a name is above the one before it, if there is one: by their bytes, and where one ends first, by their lengths (`ld.so`,
-- `glibc_hwcaps_compare`)
abbrev pub is_above : Option (List ℕ) → List ℕ → Bool
is_above None name = true
is_above (Some last) name = is_lt (slice_cmp nat_cmp last name)

-- the error of a name of hwcaps after another one: it is past the end, or not above that one
abbrev pub name_error : Option (List ℕ) → Option (List ℕ) → Result (Unit {0}) SearchError
name_error last None = Err HwcapsName
name_error last (Some name) = if is_above last name then Ok tt else Err HwcapsOrder

-- the error of name i of hwcaps
abbrev pub name_check : Cache → ℕ → Result (Unit {0}) SearchError
name_check cache i = name_error (name_before cache i) (hwcaps_name cache i)

-- the first error of a cache: of its entries, then of its extension, then of the names of hwcaps there
abbrev pub cache_check : Cache → Result (Unit {0}) SearchError
cache_check cache = and_then (first_error (entry_check cache) cache.count) (λ _.
    if is_none (words_of_header cache.bytes.now cache.start) then Err CacheExtension
    else first_error (name_check cache) cache.name_count)

-- the entries of a cache are in order, and all that they say is in the file
pub record IsGood (cache : Cache) : Type 0 where
  pub inside : (i : ℕ) → i < cache.count → is_entry_inside cache i ≡ true
  pub small : (i : ℕ) → i < cache.count → are_small (pieces (key_of cache i)) ≡ true
  pub pairs : (i : ℕ) → i + 1 < cache.count → is_pair_good cache i ≡ true

-- the extension is not damaged, and each name of hwcaps there is in the file, and above the one before it
pub record AreNamesGood (cache : Cache) : Type 0 where
  pub extension : is_some (words_of_header cache.bytes.now cache.start) ≡ true
  pub inside : (i : ℕ) → i < cache.name_count → is_some (hwcaps_name cache i) ≡ true
  pub rise : (i : ℕ) (name : List ℕ) → i + 1 < cache.name_count → hwcaps_name cache (i + 1) ≡ Some name
      → is_above (hwcaps_name cache i) name ≡ true
