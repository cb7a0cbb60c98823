-- The symbols of many addresses, by an index in words and numbers of the caller: the record of a first call, and what later calls
-- read by it (gABI, "Symbol Table"; the index is this project's own).
use Rattle.std.specs.Prelude.{◌≡◌, ◌<◌, ◌≤◌, ◌^◌, ℕ, ◌-◌, ◌%◌, ◌==◌, ◌&&◌, nat_le, nat_lt, min, Bool, true, false, List, [], ◌∷◌, length, map, drop, take, slice_get, Option, None, Some, IfSome, Result, Ok, Err, IsOkAnd, MatchResult, if◌then◌else◌}
use Rattle.std.specs.Option.{option_and_then}
use Rattle.elf_addresses.specs.Candidates.{is_candidate}
use Rattle.elf_addresses.specs.Claims.{Covers, IsInnermost}
use Rattle.elf_addresses.specs.Index.{IsWellBuilt, listed, number_count, word_count}
use Rattle.elf_addresses.specs.SymbolClaims.{symbol_claim, symbol_items, symbol_range}
use Rattle.elf_addresses.specs.declared.claim.Claim.{Claim}
use Rattle.elf_addresses.specs.declared.error.IndexError.TheVariants.{FewWords, ManySymbols}
use Rattle.elf_addresses.specs.declared.find.At.{At}
use Rattle.elf_addresses.specs.declared.symbols.AddressSymbols.{AddressSymbols}
use Rattle.elf_base.specs.FileHeader.{order_of}
use Rattle.elf_base.specs.Number.{number}
use Rattle.elf_base.specs.FirstError.{and_then, unless}
use Rattle.elf_base.specs.Table.{records, table_items}
use Rattle.elf_base.specs.declared.bytes.Order.{Order}
use Rattle.elf_base.specs.declared.error.ElfError.TheVariants.{NotMultiple}
use Rattle.xmas_elf.specs.Ranges.{range_of}
use Rattle.xmas_elf.specs.Symbol.{SymbolFields, dyn_entry_32, dyn_entry_32_fields, dyn_entry_64, dyn_entry_64_fields}
use Rattle.elf_c.specs.FoundSymbols.{no_symbol}
use Rattle.elf_c.specs.Records.{flag_number}
use Rattle.elf_c.specs.Status.{and_so}
use Rattle.elf_c.specs.Symbols.{symbol_record}
use Rattle.elf_c.specs.declared.address_index.AddressIndex.{AddressIndex}
use Rattle.elf_c.specs.declared.address_index.AnyAddresses.{AnyAddresses}
use Rattle.elf_c.specs.declared.address_index.AnyAddresses.TheVariants.{Narrow, Wide}
use Rattle.elf_c.specs.declared.address_index.Sizes.{Sizes}
use Rattle.elf_c.specs.declared.address_index.SymbolAt.{SymbolAt}
use Rattle.elf_c.specs.declared.names.Range.{Range}
use Rattle.elf_c.specs.declared.status.AnyError.{AnyError}
use Rattle.elf_c.specs.declared.status.AnyError.TheVariants.{Elf, Index}
use Rattle.elf_c.specs.declared.symbol_tables.SymbolTable.{SymbolTable}

-- symbols, and what says which of them name addresses: their string table, their section indices that need more than
-- 16 bits, and the machine
pub record Addresses : Type 0 where
  pub items : List SymbolFields
  pub strings : List ℕ
  pub words : List ℕ
  pub machine : ℕ

-- the symbols in bytes, in the layout of class 32 or else of class 64, or that they are not a whole number
abbrev pub symbol_records_in : Bool → Order → List ℕ → Result (List SymbolFields) AnyError
symbol_records_in true order bytes = if length bytes % 16 == 0
    then Ok (map dyn_entry_32_fields (records 16 (dyn_entry_32 order) bytes)) else Err (Elf NotMultiple)
symbol_records_in false order bytes = if length bytes % 24 == 0
    then Ok (map dyn_entry_64_fields (records 24 (dyn_entry_64 order) bytes)) else Err (Elf NotMultiple)

-- the symbols in the range of a record
abbrev pub symbols_by : List ℕ → SymbolTable → Result (List SymbolFields) AnyError
symbols_by input table = and_so (range_of input table.symbols.offset table.symbols.size)
    (symbol_records_in (table.class == 1) (order_of table.encoding))

-- the words of 4 bytes in bytes, or that they are not a whole number
abbrev pub index_words_in : Order → List ℕ → Result (List ℕ) AnyError
index_words_in order bytes =
    if length bytes % 4 == 0 then Ok (records 4 (number order 4 0) bytes) else Err (Elf NotMultiple)

-- the words in a range
abbrev pub words_by : List ℕ → Range → Order → Result (List ℕ) AnyError
words_by input part order = and_so (range_of input part.offset part.size) (index_words_in order)

-- the symbols of a record with their string table, and the section indices in a range, or the first error
abbrev pub addresses_by : List ℕ → SymbolTable → Range → ℕ → Result Addresses AnyError
addresses_by input table indices machine =
    and_then (symbols_by input table) (λ items.
    and_so (range_of input table.strings.offset table.strings.size) (λ strings.
    and_then (words_by input indices (order_of table.encoding)) (λ words.
    Ok (record { items = items; strings = strings; words = words; machine = machine }))))

-- the claim of a symbol at an index, if it names addresses
abbrev pub claim_by : Addresses → Option ℕ → ℕ → SymbolFields → Option Claim
claim_by all within index symbol = if is_candidate all.machine all.strings all.words within index symbol
    then Some (symbol_claim index symbol) else None

-- the claim of the symbol at an index, if there is one that names addresses: those of a section, if one is given
abbrev pub claim_in_section : Addresses → Option ℕ → ℕ → Option Claim
claim_in_section all within index = option_and_then (claim_by all within index) (slice_get all.items index)

-- the first address and the size of the symbol at an index; 0 if there is none
abbrev pub range_in : Addresses → ℕ → ℕ × ℕ
range_in all index = symbol_range (λ symbol. symbol) (slice_get all.items index)

-- the section that is asked for; 0 is none
abbrev pub within_of : ℕ → Option ℕ
within_of section = if section == 0 then None else Some section

-- the number of words that an index of so many claims takes
abbrev pub words_with : (ℕ → Option Claim) → ℕ → ℕ
words_with claim_of count = min (word_count claim_of count) (2 ^ 64 - 1)

-- only the number of words is asked for: there are none, and the index takes some
abbrev pub asks_size : (ℕ → Option Claim) → ℕ → List ℕ → Bool
asks_size claim_of count words = length words == 0 && nat_lt 0 (words_with claim_of count)

-- the number of numbers that an index of so many claims takes
abbrev pub numbers_with : (ℕ → Option Claim) → ℕ → ℕ
numbers_with claim_of count = min (number_count claim_of count) (2 ^ 64 - 1)

-- why an index can't be built in words and numbers
abbrev pub index_rows : (ℕ → Option Claim) → ℕ → List ℕ → List ℕ → List (Bool × AnyError)
index_rows claim_of count words numbers = (nat_le (2 ^ 32) count, Index ManySymbols)
    ∷ (nat_lt (length words) (word_count claim_of count), Index FewWords)
    ∷ (nat_lt (length numbers) (number_count claim_of count), Index FewWords)
    ∷ []

-- the sizes of an index, or why it can't be built in words and numbers
abbrev pub sizes_with : (ℕ → Option Claim) → ℕ → List ℕ → List ℕ → Result Sizes AnyError
sizes_with claim_of count words numbers = if asks_size claim_of count words
    then Ok (record { words = words_with claim_of count; numbers = numbers_with claim_of count; sized_count = 0; open_count = 0 })
    else unless (index_rows claim_of count words numbers) (record {
      words = words_with claim_of count;
      numbers = numbers_with claim_of count;
      sized_count = length (listed claim_of false count);
      open_count = length (listed claim_of true count);
    })

-- the same for the symbols of a table
abbrev pub index_sizes_of : Addresses → Option ℕ → List ℕ → List ℕ → Result Sizes AnyError
index_sizes_of all within words numbers = sizes_with (claim_in_section all within) (length all.items) words numbers

-- the record of an index with these sizes
abbrev pub index_with : SymbolTable → Range → ℕ → ℕ → Sizes → AddressIndex
index_with table indices machine within sizes = record {
  table = table;
  indices = indices;
  words = sizes.words;
  numbers = sizes.numbers;
  sized_count = sizes.sized_count;
  open_count = sizes.open_count;
  within = within;
  machine = machine;
}

-- the record of an index of the symbols of a record, or why there is none
abbrev pub index_of : List ℕ → SymbolTable → Range → ℕ → ℕ → List ℕ → List ℕ → Result AddressIndex AnyError
index_of input table indices machine within words numbers =
    and_then (addresses_by input table indices machine) (λ all.
    and_then (index_sizes_of all (within_of within) words numbers) (λ sizes.
    Ok (index_with table indices machine within sizes)))

-- words and numbers begin with a well built index of claims, so many of them with a size and so many of size 0
abbrev pub IsIndexWith : (ℕ → Option Claim) → (ℕ → ℕ × ℕ) → ℕ → ℕ → List ℕ → List ℕ → Type 0
IsIndexWith claim_of range_of sized opens words numbers = IsWellBuilt claim_of range_of (take sized words)
    (take sized numbers) (take sized (drop sized numbers)) (take sized (drop sized words)) (take opens (drop sized (drop sized words)))

-- the same for the symbols of a table
abbrev pub IsIndexIn : Addresses → Option ℕ → ℕ → ℕ → List ℕ → List ℕ → Type 0
IsIndexIn all within sized opens words numbers =
    IsIndexWith (claim_in_section all within) (range_in all) sized opens words numbers

-- words and numbers begin with a well built index of the symbols of a record
abbrev pub IsIndexOf : List ℕ → AddressIndex → List ℕ → List ℕ → Type 0
IsIndexOf input index words numbers = IsOkAnd (addresses_by input index.table index.indices index.machine)
    (λ all. IsIndexIn all (within_of index.within) index.sized_count index.open_count words numbers)

-- the numbers of no symbol
abbrev pub no_symbol_at : SymbolAt
no_symbol_at = record { symbol = no_symbol; index = 0; offset = 0; found = 0; is_open = 0 }

-- the numbers of the symbol at an index, if there is one, for an address
abbrev pub symbol_at_address : ℕ → ℕ → Option SymbolFields → SymbolAt
symbol_at_address address index None = no_symbol_at
symbol_at_address address index (Some symbol) = record {
  symbol = symbol_record symbol;
  index = index;
  offset = address - symbol.value;
  found = 1;
  is_open = flag_number (symbol.size == 0);
}

-- the numbers of the symbol of a claim that was found, if any
abbrev pub claimed_at : List SymbolFields → ℕ → Option Claim → SymbolAt
claimed_at items address None = no_symbol_at
claimed_at items address (Some claim) = symbol_at_address address claim.index (slice_get items claim.index)

-- the numbers are those of a symbol that covers the address, or of none; of the innermost that names addresses, if the
-- index is well built
pub record IsAnswer (claim_of : ℕ → Option Claim) (items : List SymbolFields) (IsBuilt : Type 0) (address : ℕ) (said : SymbolAt) : Type 0 where
  pub found : Option Claim
  pub covers : IfSome found (λ claim. Covers claim address)
  pub innermost : IsBuilt → IsInnermost claim_of address found
  pub numbers : said ≡ claimed_at items address found

-- the same for the symbols of a table, and the words and the numbers of an index
abbrev pub IsAnswerIn : Addresses → AddressIndex → List ℕ → List ℕ → ℕ → SymbolAt → Type 0
IsAnswerIn all index words numbers = let within = within_of index.within in
    IsAnswer (claim_in_section all within) all.items (IsIndexIn all within index.sized_count index.open_count words numbers)

-- each item of the slice that has an address satisfies P for it; the other items are unchanged
pub record AreStored {T : Type 0} (P : ℕ → T → Type 0) (addresses : List ℕ) (old new : List T) : Type 0 where
  pub long : length new ≡ length old
  pub each : (k address : ℕ) → slice_get addresses k ≡ Some address → k < length old
      → (said : T) × P address said × (slice_get new k ≡ Some said)
  pub rest : (k : ℕ) → length addresses ≤ k → slice_get new k ≡ slice_get old k

-- the result of a call for many addresses by the words and the numbers of an index: the numbers of their symbols, or an
-- error, and nothing is stored
abbrev pub AreAnswered : List ℕ → AddressIndex → List ℕ → List ℕ → List ℕ → List SymbolAt → Result (Unit {0}) AnyError → List SymbolAt → Type 0
AreAnswered input index words numbers addresses old answer new =
    MatchResult (addresses_by input index.table index.indices index.machine)
    (λ all. (answer ≡ Ok tt) × AreStored (IsAnswerIn all index words numbers) addresses old new)
    (λ why. (answer ≡ Err why) × (new ≡ old))

-- the symbols that a table of the library has, as such
abbrev pub addresses_of_table : {E : Type 0} → {r : _} → (E → SymbolFields) → AddressSymbols E r → Addresses
addresses_of_table fields symbols = record {
  items = map fields (symbol_items symbols);
  strings = symbols.strings.now;
  words = table_items symbols.indices;
  machine = symbols.machine;
}

-- the same of a table of either class
abbrev pub addresses_in_table : AnyAddresses → Addresses
addresses_in_table (Narrow symbols) = addresses_of_table dyn_entry_32_fields symbols
addresses_in_table (Wide symbols) = addresses_of_table dyn_entry_64_fields symbols

-- the numbers of the symbol that the library finds, if any
abbrev pub told : {E : Type 0} → (E → SymbolFields) → Option (At E) → SymbolAt
told fields None = no_symbol_at
told fields (Some at) = record {
  symbol = symbol_record (fields at.symbol);
  index = at.index;
  offset = at.offset;
  found = 1;
  is_open = flag_number at.open;
}
