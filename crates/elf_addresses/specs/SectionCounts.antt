-- How many symbols of each section have a size and name addresses (this project's own).
use Rattle.std.specs.Prelude.{◌≡◌, ℕ, ◌+◌, ◌<◌, ◌==◌, ◌&&◌, not, nat_lt, false, List, length, slice_index, slice_set, Option, None, Some, slice_get, if◌then◌else◌}
use Rattle.std.specs.Option.{option_and_then}
use Rattle.xmas_elf.specs.Symbol.{SymbolFields}
use Rattle.xmas_elf.specs.Table.{table_items}
use Rattle.elf_addresses.specs.Candidates.{section_index}
use Rattle.elf_addresses.specs.Index.{listed}
use Rattle.elf_addresses.specs.SymbolClaims.{claim_of_symbols, has_claim, symbol_items}
use Rattle.elf_addresses.specs.declared.symbols.AddressSymbols.{AddressSymbols}

-- the section of a symbol that names addresses and has a size
abbrev pub section_if : {E : Type 0} → {r : _} → (E → SymbolFields) → AddressSymbols E r → ℕ → E → Option ℕ
section_if fields symbols index symbol =
    if has_claim fields symbols None index symbol && not ((fields symbol).size == 0)
    then Some (section_index (table_items symbols.indices) (fields symbol) index) else None

-- the section of the symbol at an index, if there is one that names addresses and has a size
abbrev pub sized_section : {E : Type 0} → {r : _} → (E → SymbolFields) → AddressSymbols E r → ℕ → Option ℕ
sized_section fields symbols index =
    option_and_then (section_if fields symbols index) (slice_get (symbol_items symbols) index)

-- counts of sections with one more symbol in a section
abbrev pub counted : List ℕ → Option ℕ → List ℕ
counted counts None = counts
counted counts (Some section) =
    if nat_lt section (length counts) then slice_set counts section (slice_index counts section + 1) else counts

-- for each section that has a count, the number of its symbols below an index that name addresses and have a size
abbrev pub AreCounts : {E : Type 0} → {r : _} → (E → SymbolFields) → AddressSymbols E r → ℕ → List ℕ → Type 0
AreCounts fields symbols index counts = (section : ℕ) → section < length counts
    → slice_index counts section ≡ length (listed (claim_of_symbols fields symbols (Some section)) false index)
