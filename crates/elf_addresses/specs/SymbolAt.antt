-- What a look-up of an address says of a symbol (gABI, "Symbol Table", st_value and st_size).
use Rattle.std.specs.Prelude.{◌≡◌, ◌≤◌, ℕ, ◌+◌, ◌==◌, Option, Some, slice_get, option_map}
use Rattle.xmas_elf.specs.Symbol.{SymbolFields}
use Rattle.xmas_elf.specs.Table.{table_items}
use Rattle.elf_addresses.specs.Candidates.{section_index}
use Rattle.elf_addresses.specs.Claims.{Among, IsOpenBelow}
use Rattle.elf_addresses.specs.SymbolClaims.{claim_of_symbols, symbol_claim, symbol_items}
use Rattle.elf_addresses.specs.declared.claim.Claim.{Claim}
use Rattle.elf_addresses.specs.declared.find.At.{At}
use Rattle.elf_addresses.specs.declared.symbols.AddressSymbols.{AddressSymbols}

-- the claim of the symbol that is found
abbrev pub claim_at : {E : Type 0} → (E → SymbolFields) → Option (At E) → Option Claim
claim_at fields found = option_map (λ at. symbol_claim at.index (fields at.symbol)) found

-- the symbol is the one at the index, the offset that of the address in it, and `open` whether it has no size
pub record TellsAt {E : Type 0} {r : _} (fields : E → SymbolFields) (symbols : AddressSymbols E r) (address : ℕ) (at : At E) : Type 0 where
  pub stands : slice_get (symbol_items symbols) at.index ≡ Some at.symbol
  pub offset : (fields at.symbol).value + at.offset ≡ address
  pub is_open : at.open ≡ ((fields at.symbol).size == 0)

-- no symbol covers the address, and the symbol with the greatest value up to it has no size and is in a section
pub record IsOpenSymbol {E : Type 0} {r : _} (fields : E → SymbolFields) (symbols : AddressSymbols E r) (within : Option ℕ) (address section : ℕ) (at : At E) : Type 0 where
  pub below : IsOpenBelow (claim_of_symbols fields symbols within) address (symbol_claim at.index (fields at.symbol))
  pub in_section : section_index (table_items symbols.indices) (fields at.symbol) at.index ≡ section
  pub tells : TellsAt fields symbols address at

-- the symbol names addresses, has no size and a value up to the address, and is in a section
pub record IsInSection {E : Type 0} {r : _} (fields : E → SymbolFields) (symbols : AddressSymbols E r) (within : Option ℕ) (address section : ℕ) (at : At E) : Type 0 where
  pub among : Among (claim_of_symbols fields symbols within) (λ claim. (claim.size ≡ 0) × (claim.begin ≤ address)) (symbol_claim at.index (fields at.symbol))
  pub in_section : section_index (table_items symbols.indices) (fields at.symbol) at.index ≡ section
  pub tells : TellsAt fields symbols address at
