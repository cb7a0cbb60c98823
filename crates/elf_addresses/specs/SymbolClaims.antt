-- The claims of the symbols of a table: the ranges of those that name addresses (gABI, "Symbol Table", st_value
-- and st_size).
use Rattle.std.specs.Prelude.{ℕ, Bool, List, Option, None, Some, length, slice_get, if◌then◌else◌}
use Rattle.std.specs.Option.{option_and_then, option_map_or}
use Rattle.xmas_elf.specs.Symbol.{SymbolFields}
use Rattle.xmas_elf.specs.Table.{table_items}
use Rattle.elf_addresses.specs.Candidates.{is_candidate, symbol_rank}
use Rattle.elf_addresses.specs.Claims.{no_claim}
use Rattle.elf_addresses.specs.declared.claim.Claim.{Claim}
use Rattle.elf_addresses.specs.declared.symbols.AddressSymbols.{AddressSymbols}

-- the range of a symbol with its index
abbrev pub symbol_claim : ℕ → SymbolFields → Claim
symbol_claim index symbol = record { begin = symbol.value; size = symbol.size; extent = symbol.size; rank = symbol_rank symbol.info; index = index }

-- the symbols of a table
abbrev pub symbol_items : {E : Type 0} → {r : _} → AddressSymbols E r → List E
symbol_items symbols = table_items symbols.table

-- the number of symbols
abbrev pub symbol_count : {E : Type 0} → {r : _} → AddressSymbols E r → ℕ
symbol_count symbols = length (symbol_items symbols)

-- the symbol at an index names addresses: those of a section, if one is given
unfoldable pub has_claim : {E : Type 0} → {r : _} → (E → SymbolFields) → AddressSymbols E r → Option ℕ → ℕ → E → Bool
has_claim fields symbols within index symbol =
    is_candidate symbols.machine symbols.strings.now (table_items symbols.indices) within index (fields symbol)

-- the claim of the symbol at an index, if it names addresses
abbrev pub claim_if : {E : Type 0} → {r : _} → (E → SymbolFields) → AddressSymbols E r → Option ℕ → ℕ → E → Option Claim
claim_if fields symbols within index symbol =
    if has_claim fields symbols within index symbol then Some (symbol_claim index (fields symbol)) else None

-- the claim of the symbol at an index, if there is one that names addresses
abbrev pub claim_of_symbols : {E : Type 0} → {r : _} → (E → SymbolFields) → AddressSymbols E r → Option ℕ → ℕ → Option Claim
claim_of_symbols fields symbols within index =
    option_and_then (claim_if fields symbols within index) (slice_get (symbol_items symbols) index)

-- the claim of the symbol at an index, whether or not it names addresses; an open one at address 0 if there is none
abbrev pub known_of_symbols : {E : Type 0} → {r : _} → (E → SymbolFields) → AddressSymbols E r → ℕ → Claim
known_of_symbols fields symbols index =
    option_map_or (λ symbol. symbol_claim index (fields symbol)) (slice_get (symbol_items symbols) index) (no_claim index)

-- the first address and the size of a symbol; 0 if there is none
abbrev pub symbol_range : {E : Type 0} → (E → SymbolFields) → Option E → ℕ × ℕ
symbol_range fields None = (0, 0)
symbol_range fields (Some symbol) = ((fields symbol).value, (fields symbol).size)

-- those of the symbol at an index, whether or not it names addresses
abbrev pub range_of_symbols : {E : Type 0} → {r : _} → (E → SymbolFields) → AddressSymbols E r → ℕ → ℕ × ℕ
range_of_symbols fields symbols index = symbol_range fields (slice_get (symbol_items symbols) index)
