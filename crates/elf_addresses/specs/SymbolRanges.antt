-- The claim of a symbol has its index and its range (this project's own).
use Rattle.std.proofs.Common.{◌≡◌, ℕ, Bool, true, false, Option, None, Some, slice_get, ap, sym, ◌∙◌, if◌then◌else◌}
use Rattle.std.proofs.lemmas.Option.{none-some, option_and_then_some, same_Some}
use Rattle.xmas_elf.specs.Symbol.{SymbolFields}
use Rattle.std.specs.Option.{option_map_or}
use Rattle.elf_addresses.specs.Claims.{no_claim}
use Rattle.elf_addresses.specs.SymbolClaims.{claim_if, claim_of_symbols, has_claim, known_of_symbols, range_of_symbols, symbol_claim, symbol_items, symbol_range}
use Rattle.elf_addresses.specs.declared.claim.Claim.{Claim}
use Rattle.elf_addresses.specs.declared.symbols.AddressSymbols.{AddressSymbols}

-- what is there under a condition
pub if_some : (b : Bool) (one claim : Claim) → ◌≡◌ {A = Option Claim} (if b then Some one else None) (Some claim) → one ≡ claim
if_some true one claim is = same_Some one claim is
if_some false one claim is = absurd (none-some claim is)

-- a claim has the index of its symbol
pub own_index : {E : Type 0} → {r : _} → (fields : E → SymbolFields) (symbols : AddressSymbols E r) (within : Option ℕ) (i : ℕ) (claim : Claim) → claim_of_symbols fields symbols within i ≡ Some claim → claim.index ≡ i
own_index fields symbols within i claim is =
    option_and_then_some (claim_if fields symbols within i) (slice_get (symbol_items symbols) i) claim is
    (λ found there has. ap (λ k. k.index) (sym (if_some (has_claim fields symbols within i found) (symbol_claim i (fields found)) claim has)))

-- it is known without a test whether the symbol names addresses
pub own_known : {E : Type 0} → {r : _} → (fields : E → SymbolFields) (symbols : AddressSymbols E r) (within : Option ℕ) (i : ℕ) (claim : Claim) → claim_of_symbols fields symbols within i ≡ Some claim → known_of_symbols fields symbols i ≡ claim
own_known {E} {r} fields symbols within i claim is =
    option_and_then_some (claim_if fields symbols within i) (slice_get (symbol_items symbols) i) claim is
    (λ found there has. ap (λ (o : Option E). option_map_or (λ symbol. symbol_claim i (fields symbol)) o (no_claim i)) there ∙ if_some (has_claim fields symbols within i found) (symbol_claim i (fields found)) claim has)

-- a claim has the first address and the size of its symbol
pub own_range : {E : Type 0} → {r : _} → (fields : E → SymbolFields) (symbols : AddressSymbols E r) (within : Option ℕ) (i : ℕ) (claim : Claim) → claim_of_symbols fields symbols within i ≡ Some claim → range_of_symbols fields symbols i ≡ (claim.begin, claim.size)
own_range {E} {r} fields symbols within i claim is =
    option_and_then_some (claim_if fields symbols within i) (slice_get (symbol_items symbols) i) claim is
    (λ found there has. ap (λ (o : Option E). symbol_range fields o) there ∙ ap (λ (k : Claim). (k.begin, k.size)) (if_some (has_claim fields symbols within i found) (symbol_claim i (fields found)) claim has))
