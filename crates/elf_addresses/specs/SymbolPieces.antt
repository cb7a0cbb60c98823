-- The pieces of a section: the longest runs of addresses in one symbol (this project's own).
use Rattle.std.specs.Prelude.{◌≡◌, ℕ, ◌-◌, ◌<◌, ◌≤◌, false, MatchOption, Option, option_map}
use Rattle.std.specs.Iterator.{Count, at_most}
use Rattle.xmas_elf.specs.Symbol.{SymbolFields}
use Rattle.elf_addresses.specs.Claims.{Covers, IsForemost, comes_before}
use Rattle.elf_addresses.specs.Index.{IsKind}
use Rattle.elf_addresses.specs.SymbolClaims.{claim_of_symbols}
use Rattle.elf_addresses.specs.declared.claim.Claim.{Claim}
use Rattle.elf_addresses.specs.declared.symbol_pieces.SymbolPiece.{SymbolPiece}
use Rattle.elf_addresses.specs.declared.symbol_pieces.SymbolPieces.{SymbolPieces}

-- of the claims with a size that cover an address, the innermost; or none covers it
abbrev pub IsSizedInnermost : (ℕ → Option Claim) → ℕ → Option Claim → Type 0
IsSizedInnermost claim_of address found = IsForemost comes_before claim_of (λ k. IsKind false k × Covers k address) found

-- the index of that claim
abbrev pub IsSizedOwner : (ℕ → Option Claim) → ℕ → Option ℕ → Type 0
IsSizedOwner claim_of address owner =
    (found : Option Claim) × IsSizedInnermost claim_of address found × (owner ≡ option_map (λ k. k.index) found)

-- each address from `begin` up to `end` has the owner, and the address at `end` has another one, or is the limit
pub record IsSizedRun (claim_of : ℕ → Option Claim) (limit begin end : ℕ) (owner : Option ℕ) : Type 0 where
  pub some : begin < end
  pub within : end ≤ limit
  pub same : (address : ℕ) → begin ≤ address → address < end → IsSizedOwner claim_of address owner
  pub ends : end < limit → IsSizedOwner claim_of end owner → ⊥

-- the claims of the symbols of pieces
abbrev pub piece_claims : {E : Type 0} → {r s : _} → (E → SymbolFields) → SymbolPieces E r s → ℕ → Option Claim
piece_claims fields pieces = claim_of_symbols fields pieces.claims.symbols.now pieces.claims.within

-- the address at which the next piece begins
abbrev pub symbol_place : {E : Type 0} → {r s : _} → SymbolPieces E r s → ℕ
symbol_place pieces = pieces.place

-- the address at which the last piece ends: the limit that the pieces were made with
abbrev pub symbol_limit : {E : Type 0} → {r s : _} → SymbolPieces E r s → ℕ
symbol_limit pieces = pieces.end

-- the number of addresses of the pieces that are left
abbrev pub addresses_left : {E : Type 0} → {r s : _} → SymbolPieces E r s → ℕ
addresses_left pieces = symbol_limit pieces - symbol_place pieces

-- not more pieces are left than addresses
abbrev pub symbol_pieces_left : {E : Type 0} → {r s : _} → SymbolPieces E r s → Count
symbol_pieces_left pieces = at_most (addresses_left pieces)

-- one call of `next`: a piece from the place on, up to the next place; none at the limit
abbrev pub SymbolStep : {E : Type 0} → {r s : _} → (E → SymbolFields) → SymbolPieces E r s → Option SymbolPiece → SymbolPieces E r s → Type 0
SymbolStep fields old result new = (new.claims ≡ old.claims) × (symbol_limit new ≡ symbol_limit old) × MatchOption result
    ((symbol_place old ≡ symbol_limit old) × (symbol_place new ≡ symbol_limit old))
    (λ piece. (piece.begin ≡ symbol_place old) × (piece.end ≡ symbol_place new)
    × IsSizedRun (piece_claims fields old) (symbol_limit old) piece.begin piece.end piece.symbol)
