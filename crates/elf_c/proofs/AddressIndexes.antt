-- The symbols of the library's tables are those in the ranges of a record.
use Rattle.std.proofs.Common.{◌≡◌, ◌<◌, ◌≤◌, ◌+◌, ◌-◌, ◌%◌, ◌==◌, ℕ, Bool, true, false, List, length, map, slice_get, Option, None, Some, IfSome, option_map, Result, Ok, Err, if◌then◌else◌, refl, sym, ap, subst, ◌∙◌, arith}
use Rattle.std.proofs.Math.Path.{fun_ext}
use Rattle.std.proofs.lemmas.List.{length-map}
use Rattle.std.proofs.lemmas.Option.{slice_get-get_or, slice_get-map, slice_get_within}
use Rattle.std.specs.Option.{option_and_then}
use Rattle.std.proofs.Common.{◌⊎◌, ◌^◌, get_or, IfOk, MatchResult}
use Rattle.elf_addresses.specs.Index.{IsBuilt, listed}
use Rattle.elf_addresses.specs.SymbolAt.{TellsAt, claim_at}
use Rattle.elf_addresses.specs.SymbolClaims.{claim_if, claim_of_symbols, has_claim, range_of_symbols, symbol_count, symbol_items, symbol_range}
use Rattle.elf_addresses.specs.declared.claim.Claim.{Claim}
use Rattle.elf_addresses.specs.declared.find.At.{At}
use Rattle.elf_addresses.specs.declared.symbols.AddressSymbols.{AddressSymbols}
use Rattle.elf_base.specs.FileHeader.{order_of}
use Rattle.elf_base.specs.FirstError.{and_then}
use Rattle.elf_base.specs.Table.{records, table_items}
use Rattle.elf_base.specs.declared.bytes.Order.{Order}
use Rattle.elf_base.specs.declared.error.ElfError.{ElfError}
use Rattle.elf_base.specs.declared.error.ElfError.TheVariants.{NotMultiple}
use Rattle.xmas_elf.specs.Ranges.{range_of}
use Rattle.xmas_elf.specs.Symbol.{SymbolFields, dyn_entry_32, dyn_entry_32_fields, dyn_entry_64, dyn_entry_64_fields}
use Rattle.elf_c.specs.AddressIndex.{Addresses, AreAnswered, AreStored, IsAnswer, IsAnswerIn, IsIndexIn, IsIndexWith, addresses_by, addresses_of_table, claim_by, claim_in_section, claimed_at, range_in, index_sizes_of, sizes_with, symbol_at_address, symbols_by, symbol_records_in, told, within_of, words_by}
use Rattle.elf_c.specs.Records.{flag_number, record_in, record_or_none}
use Rattle.elf_c.specs.Status.{and_so}
use Rattle.elf_c.specs.SymbolTables.{AreSymbolsBy, AreSymbolsIn, symbol_among, symbol_by}
use Rattle.elf_c.specs.Symbols.{symbol_record}
use Rattle.elf_c.specs.declared.address_index.AddressIndex.{AddressIndex}
use Rattle.elf_c.specs.declared.address_index.Sizes.{Sizes}
use Rattle.elf_c.specs.declared.address_index.SymbolAt.{SymbolAt}
use Rattle.elf_c.specs.declared.names.Range.{Range}
use Rattle.elf_c.specs.declared.status.AnyError.{AnyError}
use Rattle.elf_c.specs.declared.status.AnyError.TheVariants.{Elf}
use Rattle.elf_c.specs.declared.symbol_tables.AnySymbols.{AnySymbols}
use Rattle.elf_c.specs.declared.symbol_tables.AnySymbols.TheVariants.{Narrow, Wide}
use Rattle.elf_c.specs.declared.symbol_tables.SymbolTable.{SymbolTable}

-- a claim by the library's table is one by its symbols
same_claim : {E : Type 0} {r : _} (fields : E → SymbolFields) (symbols : AddressSymbols E r) (within : Option ℕ) (i : ℕ) (found : Option E) → option_and_then (claim_if fields symbols within i) found ≡ option_and_then (claim_by (addresses_of_table fields symbols) within i) (option_map fields found)
unfolding has_claim
same_claim fields symbols within i None = refl
same_claim fields symbols within i (Some e) = refl

pub same_claims : {E : Type 0} {r : _} (fields : E → SymbolFields) (symbols : AddressSymbols E r) (within : Option ℕ) → claim_of_symbols fields symbols within ≡ claim_in_section (addresses_of_table fields symbols) within
same_claims fields symbols within = fun_ext (λ i. same_claim fields symbols within i (slice_get (symbol_items symbols) i)
    ∙ ap (option_and_then (claim_by (addresses_of_table fields symbols) within i)) (sym (slice_get-map fields (symbol_items symbols) i)))

same_range : {E : Type 0} (fields : E → SymbolFields) (found : Option E) → symbol_range fields found ≡ symbol_range (λ symbol. symbol) (option_map fields found)
same_range fields None = refl
same_range fields (Some e) = refl

pub same_ranges : {E : Type 0} {r : _} (fields : E → SymbolFields) (symbols : AddressSymbols E r) → range_of_symbols fields symbols ≡ range_in (addresses_of_table fields symbols)
same_ranges fields symbols = fun_ext (λ i. same_range fields (slice_get (symbol_items symbols) i)
    ∙ ap (symbol_range (λ symbol. symbol)) (sym (slice_get-map fields (symbol_items symbols) i)))

pub same_count : {E : Type 0} {r : _} (fields : E → SymbolFields) (symbols : AddressSymbols E r) → symbol_count symbols ≡ length (addresses_of_table fields symbols).items
same_count fields symbols = sym (length-map (symbol_items symbols) fields)

-- the numbers of a symbol that was found are those of the symbol at its index
pub told_is : {E : Type 0} {r : _} (fields : E → SymbolFields) (symbols : AddressSymbols E r) (address : ℕ) (found : Option (At E)) → IfSome found (TellsAt fields symbols address) → told fields found ≡ claimed_at (map fields (symbol_items symbols)) address (claim_at fields found)
told_is fields symbols address None tells = refl
told_is fields symbols address (Some at) tells =
    let symbol = fields at.symbol in
    let there : slice_get (map fields (symbol_items symbols)) at.index ≡ Some symbol = slice_get-map fields (symbol_items symbols) at.index ∙ ap (option_map fields) tells.stands in
    let sum = tells.offset in
    let offset : at.offset ≡ address - symbol.value = omega (arith, sum) in
    let numbers : ℕ → Bool → SymbolAt = λ n b. record { symbol = symbol_record symbol; index = at.index; offset = n; found = 1; is_open = flag_number b } in
    ap (λ n. numbers n at.open) offset ∙ ap (λ b. numbers (address - symbol.value) b) tells.is_open ∙ ap (symbol_at_address address at.index) (sym there)

-- sizes, indexes and answers by the library's table are those by its symbols
pub same_sizes : {E : Type 0} {r : _} (fields : E → SymbolFields) (symbols : AddressSymbols E r) (within : Option ℕ) (words numbers : List ℕ) → sizes_with (claim_of_symbols fields symbols within) (symbol_count symbols) words numbers ≡ index_sizes_of (addresses_of_table fields symbols) within words numbers
same_sizes fields symbols within words numbers =
    ap (λ c. sizes_with c (symbol_count symbols) words numbers) (same_claims fields symbols within)
    ∙ ap (λ n. sizes_with (claim_in_section (addresses_of_table fields symbols) within) n words numbers) (same_count fields symbols)

pub same_index : {E : Type 0} {r : _} (fields : E → SymbolFields) (symbols : AddressSymbols E r) (within : Option ℕ) (sized opens : ℕ) (words numbers : List ℕ) → IsIndexWith (claim_of_symbols fields symbols within) (range_of_symbols fields symbols) sized opens words numbers → IsIndexIn (addresses_of_table fields symbols) within sized opens words numbers
same_index fields symbols within sized opens words numbers is =
    subst (λ c. IsIndexWith c (range_in (addresses_of_table fields symbols)) sized opens words numbers) (same_claims fields symbols within)
    (subst (λ r. IsIndexWith (claim_of_symbols fields symbols within) r sized opens words numbers) (same_ranges fields symbols) is)

pub same_built : {E : Type 0} {r : _} (fields : E → SymbolFields) (symbols : AddressSymbols E r) (within : Option ℕ) (size : ℕ) (words numbers : List ℕ) (answer : Result Sizes AnyError) → IfOk answer (λ s. s.words ≤ size → IsIndexWith (claim_of_symbols fields symbols within) (range_of_symbols fields symbols) s.sized_count s.open_count words numbers) → IfOk answer (λ s. s.words ≤ size → IsIndexIn (addresses_of_table fields symbols) within s.sized_count s.open_count words numbers)
same_built fields symbols within size words numbers (Ok s) built = λ fits. same_index fields symbols within s.sized_count s.open_count words numbers (built fits)
same_built fields symbols within size words numbers (Err why) built = tt

pub same_answers : {E : Type 0} {r : _} (fields : E → SymbolFields) (symbols : AddressSymbols E r) (index : AddressIndex) (words numbers addresses : List ℕ) (old new : List SymbolAt)
    → AreStored (IsAnswer (claim_of_symbols fields symbols (within_of index.within)) (map fields (symbol_items symbols)) (IsIndexWith (claim_of_symbols fields symbols (within_of index.within)) (range_of_symbols fields symbols) index.sized_count index.open_count words numbers)) addresses old new
    → AreStored (IsAnswerIn (addresses_of_table fields symbols) index words numbers) addresses old new
same_answers fields symbols index words numbers addresses old new are =
    let items = map fields (symbol_items symbols) in
    let P : (ℕ → Option Claim) → (ℕ → ℕ × ℕ) → Type 0 =
    λ c r. AreStored (IsAnswer c items (IsIndexWith c r index.sized_count index.open_count words numbers)) addresses old new in
    subst (λ c. P c (range_in (addresses_of_table fields symbols))) (same_claims fields symbols (within_of index.within))
    (subst (λ r. P (claim_of_symbols fields symbols (within_of index.within)) r) (same_ranges fields symbols) are)

-- the symbols of a table of either class
abbrev pub items_in : AnySymbols → List SymbolFields
items_in (Narrow table) = map dyn_entry_32_fields (table_items table)
items_in (Wide table) = map dyn_entry_64_fields (table_items table)

items_among : (narrow : Bool) (order : Order) (bytes : List ℕ) (answer : Result AnySymbols AnyError) → AreSymbolsIn narrow order bytes answer → MatchResult answer (λ symbols. symbol_records_in narrow order bytes ≡ Ok (items_in symbols)) (λ why. symbol_records_in narrow order bytes ≡ Err why)
items_among true order bytes (Ok (Narrow table)) is = rw is.0 (ap (λ xs. Ok (map dyn_entry_32_fields xs)) (sym is.1))
items_among true order bytes (Ok (Wide table)) is = absurd is
items_among true order bytes (Err why) is = rw is.0 (ap (λ x. Err x) (sym is.1))
items_among false order bytes (Ok (Narrow table)) is = absurd is
items_among false order bytes (Ok (Wide table)) is = rw is.0 (ap (λ xs. Ok (map dyn_entry_64_fields xs)) (sym is.1))
items_among false order bytes (Err why) is = rw is.0 (ap (λ x. Err x) (sym is.1))

pub items_read : (input : List ℕ) (table : SymbolTable) (answer : Result AnySymbols AnyError) → AreSymbolsBy input table answer → MatchResult answer (λ symbols. symbols_by input table ≡ Ok (items_in symbols)) (λ why. symbols_by input table ≡ Err why)
items_read input table answer = by_range (range_of input table.symbols.offset table.symbols.size) refl
  where
    Is : Result (List SymbolFields) AnyError → Type 0
    Is found = MatchResult answer (λ symbols. found ≡ Ok (items_in symbols)) (λ why. found ≡ Err why)

    failed : (error : ElfError) (found : Result AnySymbols AnyError) → found ≡ Err (Elf error) → MatchResult found (λ symbols. ◌≡◌ {A = Result (List SymbolFields) AnyError} (Err (Elf error)) (Ok (items_in symbols))) (λ why. ◌≡◌ {A = Result (List SymbolFields) AnyError} (Err (Elf error)) (Err why))
    failed error (Ok symbols) same = absurd (cc)
    failed error (Err why) same = cc

    by_range : (found : Result (List ℕ) ElfError) → range_of input table.symbols.offset table.symbols.size ≡ found → MatchResult found (λ bytes. AreSymbolsIn (table.class == 1) (order_of table.encoding) bytes answer) (λ error. answer ≡ Err (Elf error)) → Is (and_so found (symbol_records_in (table.class == 1) (order_of table.encoding)))
    by_range (Ok bytes) is are = items_among (table.class == 1) (order_of table.encoding) bytes answer are
    by_range (Err error) is are = failed error answer are

-- what the ranges of a record contain, or the first error
module _ (input : List ℕ) (table : SymbolTable) (indices : Range) (machine : ℕ) where
  pub all_read : (symbols : AnySymbols) (strings words : List ℕ) → AreSymbolsBy input table (Ok symbols) → range_of input table.strings.offset table.strings.size ≡ Ok strings → words_by input indices (order_of table.encoding) ≡ Ok words → addresses_by input table indices machine ≡ Ok (record { items = items_in symbols; strings = strings; words = words; machine = machine })
  all_read symbols strings words are is also = rw (items_read input table (Ok symbols) are, is, also) refl

  pub no_symbols : (why : AnyError) → AreSymbolsBy input table (Err why) → addresses_by input table indices machine ≡ Err why
  no_symbols why are = rw (items_read input table (Err why) are) refl

  pub no_strings : (symbols : AnySymbols) (error : ElfError) → AreSymbolsBy input table (Ok symbols) → range_of input table.strings.offset table.strings.size ≡ Err error → addresses_by input table indices machine ≡ Err (Elf error)
  no_strings symbols error are is = rw (items_read input table (Ok symbols) are, is) refl

  pub no_words : (symbols : AnySymbols) (strings : List ℕ) (why : AnyError) → AreSymbolsBy input table (Ok symbols) → range_of input table.strings.offset table.strings.size ≡ Ok strings → words_by input indices (order_of table.encoding) ≡ Err why → addresses_by input table indices machine ≡ Err why
  no_words symbols strings why are is also = rw (items_read input table (Ok symbols) are, is, also) refl

-- the symbol of an answer is the one at its index
ok_same : (xs ys : List SymbolFields) → ◌≡◌ {A = Result (List SymbolFields) AnyError} (Ok xs) (Ok ys) → xs ≡ ys
ok_same xs ys is = cc

some_same : (a b : SymbolFields) → Some a ≡ Some b → a ≡ b
some_same a b is = cc

value_in : {E : Type 0} (fields : E → SymbolFields) (all : List E) (items : List SymbolFields) (index : ℕ) (symbol : SymbolFields) → map fields all ≡ items → slice_get items index ≡ Some symbol → record_in (λ e. symbol_record (fields e)) all index ≡ Ok (symbol_record symbol)
value_in {E} fields all items index symbol is there = by_item (slice_get all index) (sym (slice_get-map fields all index) ∙ ap (λ xs. slice_get xs index) is ∙ there)
  where
    by_item : (found : Option E) → option_map fields found ≡ Some symbol → record_or_none (λ e. symbol_record (fields e)) found ≡ Ok (symbol_record symbol)
    by_item None none = absurd (cc)
    by_item (Some e) one = ap (λ s. Ok (symbol_record s)) (some_same (fields e) symbol one)

value_among : (narrow : Bool) (order : Order) (bytes : List ℕ) (items : List SymbolFields) → symbol_records_in narrow order bytes ≡ Ok items → (index : ℕ) (symbol : SymbolFields) → slice_get items index ≡ Some symbol → symbol_among symbol_record narrow order bytes index ≡ Ok (symbol_record symbol)
value_among true order bytes items is index symbol there = by_size (length bytes % 16 == 0) is
  where
    by_size : (whole : Bool) → (if whole then Ok (map dyn_entry_32_fields (records 16 (dyn_entry_32 order) bytes)) else Err (Elf NotMultiple)) ≡ Ok items → (if whole then record_in (λ e. symbol_record (dyn_entry_32_fields e)) (records 16 (dyn_entry_32 order) bytes) index else Err (Elf NotMultiple)) ≡ Ok (symbol_record symbol)
    by_size true same = value_in dyn_entry_32_fields (records 16 (dyn_entry_32 order) bytes) items index symbol (ok_same _ _ same) there
    by_size false same = absurd (cc)
value_among false order bytes items is index symbol there = by_size (length bytes % 24 == 0) is
  where
    by_size : (whole : Bool) → (if whole then Ok (map dyn_entry_64_fields (records 24 (dyn_entry_64 order) bytes)) else Err (Elf NotMultiple)) ≡ Ok items → (if whole then record_in (λ e. symbol_record (dyn_entry_64_fields e)) (records 24 (dyn_entry_64 order) bytes) index else Err (Elf NotMultiple)) ≡ Ok (symbol_record symbol)
    by_size true same = value_in dyn_entry_64_fields (records 24 (dyn_entry_64 order) bytes) items index symbol (ok_same _ _ same) there
    by_size false same = absurd (cc)

abbrev addresses_with : List SymbolFields → List ℕ → List ℕ → ℕ → Addresses
addresses_with items strings words machine = record { items = items; strings = strings; words = words; machine = machine }

all_same : (a b : Addresses) → ◌≡◌ {A = Result Addresses AnyError} (Ok a) (Ok b) → a ≡ b
all_same a b is = cc

one_same : (a b : SymbolAt) → Some a ≡ Some b → a ≡ b
one_same a b is = cc

none_found : ◌≡◌ {A = ℕ} 0 1 → ⊥
none_found is = cc

value_by : (input : List ℕ) (table : SymbolTable) (items : List SymbolFields) (index : ℕ) (symbol : SymbolFields) → symbols_by input table ≡ Ok items → slice_get items index ≡ Some symbol → symbol_by symbol_record input table index ≡ Ok (symbol_record symbol)
value_by input table items index symbol is there = by_range (range_of input table.symbols.offset table.symbols.size) is
  where
    by_range : (found : Result (List ℕ) ElfError) → and_so found (symbol_records_in (table.class == 1) (order_of table.encoding)) ≡ Ok items → and_so found (λ bytes. symbol_among symbol_record (table.class == 1) (order_of table.encoding) bytes index) ≡ Ok (symbol_record symbol)
    by_range (Ok bytes) read = value_among (table.class == 1) (order_of table.encoding) bytes items read index symbol there
    by_range (Err error) read = absurd (cc)

items_of : (items : Result (List SymbolFields) AnyError) (strings : Result (List ℕ) ElfError) (words : Result (List ℕ) AnyError) (machine : ℕ) (all : Addresses) → and_then items (λ i. and_so strings (λ s. and_then words (λ w. Ok (record { items = i; strings = s; words = w; machine = machine })))) ≡ Ok all → items ≡ Ok all.items
items_of (Ok i) (Ok s) (Ok w) machine all is = let same : addresses_with i s w machine ≡ all = all_same _ _ is in ap (λ (a : Addresses). Ok a.items) same
items_of (Ok i) (Ok s) (Err why) machine all is = absurd (cc)
items_of (Ok i) (Err error) w machine all is = absurd (cc)
items_of (Err why) s w machine all is = absurd (cc)

-- an answer that a symbol is found has the symbol at its index
answer_has : (all : Addresses) (input : List ℕ) (table : SymbolTable) (address : ℕ) (found : Option Claim) (said : SymbolAt) → symbols_by input table ≡ Ok all.items → said ≡ claimed_at all.items address found → said.found ≡ 1 → symbol_by symbol_record input table said.index ≡ Ok said.symbol
answer_has all input table address None said is numbers one = absurd (none_found (sym (ap (λ s. s.found) numbers) ∙ one))
answer_has all input table address (Some claim) said is numbers one = by_item (slice_get all.items claim.index) refl
  where
    by_item : (item : Option SymbolFields) → slice_get all.items claim.index ≡ item → symbol_by symbol_record input table said.index ≡ Ok said.symbol
    by_item None there = absurd (none_found (sym (ap (λ s. s.found) (numbers ∙ ap (symbol_at_address address claim.index) there)) ∙ one))
    by_item (Some symbol) there =
        let same : said ≡ symbol_at_address address claim.index (Some symbol) = numbers ∙ ap (symbol_at_address address claim.index) there in
        subst (λ (s : SymbolAt). symbol_by symbol_record input table s.index ≡ Ok s.symbol) (sym same) (value_by input table all.items claim.index symbol is there)

-- each symbol that is found is the one at its index
abbrev pub AreThere : List ℕ → AddressIndex → List ℕ → List SymbolAt → Type 0
AreThere input index addresses new = (k : ℕ) (one : SymbolAt) → k < length addresses → slice_get new k ≡ Some one → one.found ≡ 1 → symbol_by symbol_record input index.table one.index ≡ Ok one.symbol

pub symbols_found : (input : List ℕ) (index : AddressIndex) (words numbers addresses : List ℕ) (old new : List SymbolAt) (answer : Result (Unit {0}) AnyError) → AreAnswered input index words numbers addresses old answer new → IfOk answer (λ done. AreThere input index addresses new)
symbols_found input index words numbers addresses old new answer are = by_all (addresses_by input index.table index.indices index.machine) refl are
  where
    each : (all : Addresses) → addresses_by input index.table index.indices index.machine ≡ Ok all → AreStored (IsAnswerIn all index words numbers) addresses old new → AreThere input index addresses new
    each all is stored k one below there found =
        let inside = slice_get_within new k one there in
        let long = stored.long in
        let address = get_or addresses k 0 in
        let (said, answered, put) = stored.each k address (slice_get-get_or addresses k 0 below) (omega (arith, inside, long)) in
        let same : said ≡ one = one_same said one (sym put ∙ there) in
        subst (λ (s : SymbolAt). symbol_by symbol_record input index.table s.index ≡ Ok s.symbol) same
        (answer_has all input index.table address answered.found said
        (items_of (symbols_by input index.table) (range_of input index.table.strings.offset index.table.strings.size) (words_by input index.indices (order_of index.table.encoding)) index.machine all is)
        answered.numbers (ap (λ (s : SymbolAt). s.found) same ∙ found))

    by_all : (found : Result Addresses AnyError) → addresses_by input index.table index.indices index.machine ≡ found → MatchResult found (λ all. (answer ≡ Ok tt) × AreStored (IsAnswerIn all index words numbers) addresses old new) (λ why. (answer ≡ Err why) × (new ≡ old)) → IfOk answer (λ done. AreThere input index addresses new)
    by_all (Ok all) is here = subst (λ (r : Result (Unit {0}) AnyError). IfOk r (λ done. AreThere input index addresses new)) (sym here.0) (each all is here.1)
    by_all (Err why) is here = subst (λ (r : Result (Unit {0}) AnyError). IfOk r (λ done. AreThere input index addresses new)) (sym here.0) tt

-- the words and numbers of an index of this size begin with it
pub built_index : (claim_of : ℕ → Option Claim) (range_of : ℕ → ℕ × ℕ) (count sized opens : ℕ) (words numbers : List ℕ) → sized ≡ length (listed claim_of false count) → opens ≡ length (listed claim_of true count) → IsBuilt claim_of range_of count words numbers → IsIndexWith claim_of range_of sized opens words numbers
built_index claim_of range_of count sized opens words numbers is also built = rw (is, also) built
