-- The claim at an index is that of the symbol there.
use Rattle.std.proofs.Common.{◌≡◌, ℕ, ◌≤◌, ◌==◌, Bool, true, false, Option, None, Some, IfSome, MatchOption, slice_get, refl, ap, subst, sym, ◌∙◌, if◌then◌else◌}
use Rattle.std.proofs.lemmas.Bool.{eqb-false, eqb-true}
use Rattle.std.proofs.lemmas.Option.{option_and_then_some}
use Rattle.xmas_elf.specs.Symbol.{SymbolFields}
use Rattle.xmas_elf.specs.Table.{table_items}
use Rattle.elf_addresses.specs.Candidates.{section_index}
use Rattle.elf_addresses.specs.Claims.{Among, Covers, IsInnermost, IsOpenBelow, begins_nearer}
use Rattle.elf_addresses.specs.SymbolAt.{IsInSection, IsOpenSymbol, TellsAt}
use Rattle.elf_addresses.specs.SymbolClaims.{claim_if, claim_of_symbols, has_claim, symbol_claim, symbol_items}
use Rattle.elf_addresses.specs.declared.claim.Claim.{Claim}
use Rattle.elf_addresses.specs.declared.find.At.{At}
use Rattle.elf_addresses.specs.declared.symbols.AddressSymbols.{AddressSymbols}
use Rattle.elf_addresses.proofs.Foremost.{foremost_once}
use Rattle.elf_addresses.proofs.Order.{nearest_order}
use Rattle.elf_addresses.specs.SymbolRanges.{if_some}

-- a claim is that of the symbol at its index
pub claim_there : {E : Type 0} → {r : _} → (fields : E → SymbolFields) (symbols : AddressSymbols E r) (within : Option ℕ) (i : ℕ) (claim : Claim) (symbol : E) → claim_of_symbols fields symbols within i ≡ Some claim → Some symbol ≡ slice_get (symbol_items symbols) i → symbol_claim i (fields symbol) ≡ claim
claim_there fields symbols within i claim symbol is at =
    option_and_then_some (claim_if fields symbols within i) (slice_get (symbol_items symbols) i) claim is
    (λ found there has. let same : symbol ≡ found = cc in rw same (if_some (has_claim fields symbols within i found) (symbol_claim i (fields found)) claim has))

-- an index with a claim has a symbol
pub symbol_there : {E : Type 0} → {r : _} → (fields : E → SymbolFields) (symbols : AddressSymbols E r) (within : Option ℕ) (i : ℕ) (claim : Claim) → claim_of_symbols fields symbols within i ≡ Some claim → None ≡ slice_get (symbol_items symbols) i → ⊥
symbol_there fields symbols within i claim is at =
    option_and_then_some (claim_if fields symbols within i) (slice_get (symbol_items symbols) i) claim is (λ found there _. cc)

-- the open symbol below an address, if its section is the one that is asked for
pub open_symbol : {E : Type 0} → {r : _} → (fields : E → SymbolFields) (symbols : AddressSymbols E r) (within : Option ℕ) (address section : ℕ) (claim : Claim) (at : At E) (found : Option (At E)) → IsOpenBelow (claim_of_symbols fields symbols within) address claim → symbol_claim at.index (fields at.symbol) ≡ claim → TellsAt fields symbols address at → found ≡ (if section_index (table_items symbols.indices) (fields at.symbol) at.index == section then Some at else None) → MatchOption found ((o : At E) → IsOpenSymbol fields symbols within address section o → ⊥) (IsOpenSymbol fields symbols within address section)
open_symbol {E} {r} fields symbols within address section claim at found below same tells is =
    subst (λ (o : Option (At E)). MatchOption o ((x : At E) → IsOpenSymbol fields symbols within address section x → ⊥) (IsOpenSymbol fields symbols within address section)) (sym is)
    (picked (section_index (table_items symbols.indices) (fields at.symbol) at.index == section) refl)
  where
    once : (o : At E) → IsOpenSymbol fields symbols within address section o → section_index (table_items symbols.indices) (fields at.symbol) at.index ≡ section
    once o open_one =
        let other = symbol_claim o.index (fields o.symbol) in
        let one : claim ≡ other = foremost_once begins_nearer nearest_order (claim_of_symbols fields symbols within) (λ k. k.begin ≤ address) claim other below.nearest open_one.below.nearest in
        let index : at.index ≡ o.index = ap (λ k. k.index) (same ∙ one) in
        let there : slice_get (symbol_items symbols) o.index ≡ Some at.symbol = subst (λ i. slice_get (symbol_items symbols) i ≡ Some at.symbol) index tells.stands in
        let there' : slice_get (symbol_items symbols) o.index ≡ Some o.symbol = open_one.tells.stands in
        let symbol : at.symbol ≡ o.symbol = cc in
        ap (λ i. section_index (table_items symbols.indices) (fields at.symbol) i) index
        ∙ (ap (λ e. section_index (table_items symbols.indices) (fields e) o.index) symbol ∙ open_one.in_section)

    picked : (b : Bool) → (section_index (table_items symbols.indices) (fields at.symbol) at.index == section) ≡ b → MatchOption (if b then Some at else None) ((x : At E) → IsOpenSymbol fields symbols within address section x → ⊥) (IsOpenSymbol fields symbols within address section)
    picked true h = record {
      below = subst (λ k. IsOpenBelow (claim_of_symbols fields symbols within) address k) (sym same) below;
      in_section = eqb-true (section_index (table_items symbols.indices) (fields at.symbol) at.index) section h;
      tells = tells;
    }
    picked false h = λ o open_one. eqb-false (section_index (table_items symbols.indices) (fields at.symbol) at.index) section h (once o open_one)

-- a symbol without a size that names addresses, if its section is the one that is asked for
pub in_section : {E : Type 0} → {r : _} → (fields : E → SymbolFields) (symbols : AddressSymbols E r) (within : Option ℕ) (address section : ℕ) (at : At E) (found : Option (At E)) → Among (claim_of_symbols fields symbols within) (λ claim. (claim.size ≡ 0) × (claim.begin ≤ address)) (symbol_claim at.index (fields at.symbol)) → TellsAt fields symbols address at → found ≡ (if section_index (table_items symbols.indices) (fields at.symbol) at.index == section then Some at else None) → IfSome found (IsInSection fields symbols within address section)
in_section {E} {r} fields symbols within address section at found among tells is =
    subst (λ (o : Option (At E)). IfSome o (IsInSection fields symbols within address section)) (sym is) (picked (section_index (table_items symbols.indices) (fields at.symbol) at.index == section) refl)
  where
    picked : (b : Bool) → (section_index (table_items symbols.indices) (fields at.symbol) at.index == section) ≡ b → IfSome (if b then Some at else None) (IsInSection fields symbols within address section)
    picked true h = record {
      among = among;
      in_section = eqb-true (section_index (table_items symbols.indices) (fields at.symbol) at.index) section h;
      tells = tells;
    }
    picked false h = tt

-- the symbol of the innermost claim is found at its index
pub innermost_there : {E : Type 0} → {r : _} → (fields : E → SymbolFields) (symbols : AddressSymbols E r) (within : Option ℕ) (address : ℕ) (claim : Claim) (found : Option Claim) → IsInnermost (claim_of_symbols fields symbols within) address (Some claim) → ((symbol : E) → slice_get (symbol_items symbols) claim.index ≡ Some symbol → Covers (symbol_claim claim.index (fields symbol)) address → found ≡ Some (symbol_claim claim.index (fields symbol))) → IsInnermost (claim_of_symbols fields symbols within) address found
innermost_there {E} {r} fields symbols within address claim found inner known = by_symbol (slice_get (symbol_items symbols) claim.index) refl
  where
    by_symbol : (symbol : Option E) → slice_get (symbol_items symbols) claim.index ≡ symbol → IsInnermost (claim_of_symbols fields symbols within) address found
    by_symbol None at = absurd (symbol_there fields symbols within claim.index claim inner.0.is (sym at))
    by_symbol (Some symbol) at =
        let same : symbol_claim claim.index (fields symbol) ≡ claim = claim_there fields symbols within claim.index claim symbol inner.0.is (sym at) in
        let covers : Covers (symbol_claim claim.index (fields symbol)) address = subst (λ k. Covers k address) (sym same) inner.0.has in
        subst (λ o. IsInnermost (claim_of_symbols fields symbols within) address o) (sym (known symbol at covers ∙ ap (λ k. Some k) same)) inner
