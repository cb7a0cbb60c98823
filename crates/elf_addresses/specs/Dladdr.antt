-- The symbols that `dladdr` finds (determine_info of elf/dl-addr.c in glibc 2.36), and their order.
use Rattle.std.specs.Prelude.{◌≡◌, ℕ, ◌+◌, ◌%◌, ◌/◌, max, Bool, ◌&&◌, ◌||◌, ◌==◌, not, nat_lt, List, Option, None, Some, length, slice_get, slice_index, if◌then◌else◌}
use Rattle.std.specs.Option.{option_and_then, option_map_or}
use Rattle.xmas_elf.specs.Symbol.{SymbolFields}
use Rattle.xmas_elf.specs.Table.{table_items}
use Rattle.elf_addresses.specs.Claims.{no_claim}
use Rattle.elf_addresses.specs.declared.claim.Claim.{Claim}
use Rattle.elf_addresses.specs.declared.dladdr.DladdrSymbols.{DladdrSymbols}
use Rattle.elf_addresses.specs.declared.dladdr.Reach.{Reach}
use Rattle.elf_addresses.specs.declared.dladdr.Reach.TheVariants.{Buckets, Chains}
use Rattle.elf_addresses.specs.declared.find.At.{At}

-- other files can use a symbol: it is global or weak (STB_GLOBAL, STB_WEAK), and neither internal nor hidden
-- (STV_INTERNAL, STV_HIDDEN)
abbrev pub is_exported : SymbolFields → Bool
is_exported symbol =
    (symbol.info / 16 == 1 || symbol.info / 16 == 2) && not (symbol.other % 4 == 1) && not (symbol.other % 4 == 2)

-- where a symbol is in the order in which its hash table is read, or 0 if it is not reached: for GNU's table the
-- number of the first bucket that reaches it, and for the other 1 for each exported symbol with a chain
abbrev pub reach_of : Reach → ℕ → SymbolFields → ℕ
reach_of (Buckets words) index symbol = slice_index words.now index
reach_of (Chains count) index symbol = if nat_lt index count && is_exported symbol then 1 else 0

-- a symbol that is reached is found if it is not thread-local (STT_TLS) or absolute (SHN_ABS), is not both undefined
-- and without a value, and has its name in the string table
unfoldable pub is_found : List ℕ → ℕ → SymbolFields → Bool
is_found strings reach symbol =
    not (reach == 0) && not (symbol.info % 16 == 6) && not (symbol.shndx == 0xfff1)
    && not (symbol.shndx == 0 && symbol.value == 0) && nat_lt symbol.name (length strings)

-- the range of a symbol: at least one address; of those with the same value the first that is reached comes first,
-- and sizes are not compared
abbrev pub dladdr_claim : ℕ → ℕ → SymbolFields → Claim
dladdr_claim reach index symbol = record { begin = symbol.value; size = max symbol.size 1; extent = 0; rank = reach; index = index }

-- the claim of the symbol at an index, if it is found
abbrev pub dladdr_if : {E : Type 0} → {r : _} → (E → SymbolFields) → DladdrSymbols E r → ℕ → E → Option Claim
dladdr_if fields symbols index symbol =
    if is_found symbols.strings.now (reach_of symbols.reach index (fields symbol)) (fields symbol)
    then Some (dladdr_claim (reach_of symbols.reach index (fields symbol)) index (fields symbol)) else None

-- the claim of the symbol at an index, if there is one that is found
abbrev pub dladdr_claims : {E : Type 0} → {r : _} → (E → SymbolFields) → DladdrSymbols E r → ℕ → Option Claim
dladdr_claims fields symbols index = option_and_then (dladdr_if fields symbols index) (slice_get (table_items symbols.table) index)

-- the claim of the symbol at an index, whether or not it is found; an open one at address 0 if there is none
abbrev pub dladdr_known : {E : Type 0} → {r : _} → (E → SymbolFields) → DladdrSymbols E r → ℕ → Claim
dladdr_known fields symbols index =
    option_map_or (λ symbol. dladdr_claim (reach_of symbols.reach index (fields symbol)) index (fields symbol))
    (slice_get (table_items symbols.table) index) (no_claim index)

-- the first address and the size of a symbol; 0 and 1 if there is none
abbrev pub dladdr_range : {E : Type 0} → (E → SymbolFields) → Option E → ℕ × ℕ
dladdr_range fields None = (0, 1)
dladdr_range fields (Some symbol) = ((fields symbol).value, max (fields symbol).size 1)

-- those of the symbol at an index, whether or not it is found
abbrev pub dladdr_ranges : {E : Type 0} → {r : _} → (E → SymbolFields) → DladdrSymbols E r → ℕ → ℕ × ℕ
dladdr_ranges fields symbols index = dladdr_range fields (slice_get (table_items symbols.table) index)

-- the claim of the symbol that is found
abbrev pub dladdr_at : {E : Type 0} → {r : _} → (E → SymbolFields) → DladdrSymbols E r → Option (At E) → Option Claim
dladdr_at fields symbols None = None
dladdr_at fields symbols (Some at) = Some (dladdr_claim (reach_of symbols.reach at.index (fields at.symbol)) at.index (fields at.symbol))

-- the symbol is the one at the index, the offset that of the address in it, and `open` whether it has no size
pub record IsDladdrAt {E : Type 0} {r : _} (fields : E → SymbolFields) (symbols : DladdrSymbols E r) (address : ℕ) (at : At E) : Type 0 where
  pub stands : slice_get (table_items symbols.table) at.index ≡ Some at.symbol
  pub offset : (fields at.symbol).value + at.offset ≡ address
  pub is_open : at.open ≡ ((fields at.symbol).size == 0)
