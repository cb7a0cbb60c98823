-- Runs of addresses in one claim with a size: up to its end, or the next begin of a claim before it.
use Rattle.std.proofs.Common.{◌≡◌, ℕ, ◌<◌, ◌≤◌, min, false, Option, None, Some, slice_get, refl, subst, sym, arith, inl, inr}
use Rattle.std.proofs.lemmas.Bool.{both_ways, cases_lt}
use Rattle.std.proofs.lemmas.Option.{none-some, option_and_then_some, same_Some, slice_get_within}
use Rattle.xmas_elf.specs.Symbol.{SymbolFields}
use Rattle.elf_addresses.specs.SymbolClaims.{claim_if, claim_of_symbols, symbol_count, symbol_items}
use Rattle.elf_addresses.specs.declared.symbols.AddressSymbols.{AddressSymbols}
use Rattle.elf_addresses.specs.Claims.{Among, Covers, claim_end, comes_before}
use Rattle.elf_addresses.specs.Index.{IsKind}
use Rattle.elf_addresses.specs.Owner.{ClaimBegins}
use Rattle.elf_addresses.specs.Runs.{IsNext}
use Rattle.elf_addresses.specs.SymbolPieces.{IsSizedInnermost, IsSizedOwner, IsSizedRun}
use Rattle.elf_addresses.specs.declared.claim.Claim.{Claim}
use Rattle.elf_addresses.proofs.Order.{later_further_in}
use Rattle.elf_addresses.proofs.Runs.{next_behind, none_between}

module _ (claim_of : ℕ → Option Claim) where
  sized_before : (byte limit next b : ℕ) (claim : Claim) → IsNext (ClaimBegins claim_of) byte limit next → byte ≤ b → b < next → Among claim_of (λ k. IsKind false k × Covers k b) claim → Among claim_of (λ k. IsKind false k × Covers k byte) claim
  sized_before byte limit next b claim is from to among =
      let p : claim.begin ≤ b = among.has.1.0 in
      let q : b < claim_end claim = among.has.1.1 in
      let begins : claim.begin ≤ byte = none_between (ClaimBegins claim_of) byte limit next claim.begin is (claim, record { is = among.is; has = (among.has.0, refl) }) (omega arith) in
      record { is = among.is; has = (among.has.0, (begins, omega arith)) }

  -- the index of the innermost tells which claim it is
  no_owner : (byte : ℕ) → IsSizedOwner claim_of byte None → IsSizedInnermost claim_of byte None
  no_owner byte (None, none, same) = none
  no_owner byte (Some claim, is, same) = absurd (none-some claim.index same)

  own_claim : (byte : ℕ) (found : Claim) → claim_of found.index ≡ Some found → IsSizedOwner claim_of byte (Some found.index) → IsSizedInnermost claim_of byte (Some found)
  own_claim byte found stands (None, is, same) = absurd (none-some found.index (sym same))
  own_claim byte found stands (Some other, is, same) =
      let index : found.index ≡ other.index = same_Some found.index other.index same in
      let at : claim_of found.index ≡ Some other = subst (λ i. claim_of i ≡ Some other) (sym index) is.0.is in
      let eq : other ≡ found = cc in
      subst (λ k. IsSizedInnermost claim_of byte (Some k)) eq is

  -- a claim covers the address at which it begins
  begin_covered : (byte : ℕ) → ClaimBegins claim_of byte → (claim : Claim) × (claim.begin ≡ byte) × Among claim_of (λ k. IsKind false k × Covers k byte) claim
  begin_covered byte (claim, among) =
      let same : claim.begin ≡ byte = among.has.1 in
      (claim, same, record { is = among.is; has = (among.has.0, (omega arith, omega arith)) })

  pub owned_run : (byte limit next : ℕ) (found : Claim) → byte < limit → IsSizedInnermost claim_of byte (Some found) → IsNext (ClaimBegins claim_of) byte (min limit (claim_end found)) next → IsSizedRun claim_of limit byte next (Some found.index)
  owned_run byte limit next found more (among, least) is =
      let p : found.begin ≤ byte = among.has.1.0 in
      let q : byte < claim_end found = among.has.1.1 in
      let bound : next ≤ min limit (claim_end found) = is.bound in
      let some : byte < next = next_behind (ClaimBegins claim_of) byte (min limit (claim_end found)) next is (omega arith) in
      record {
        some = some;
        within = omega arith;
        same = λ b from to. (
          Some found,
          (
            record { is = among.is; has = (among.has.0, (omega arith, omega arith)) },
            λ claim other. least claim (sized_before byte (min limit (claim_end found)) next b claim is from to other),
          ),
          refl,
        );
        ends = λ less owner.
            let again = own_claim next found among.is owner in
            elim (cases_lt next (claim_end found)) [
              | inl before ↦
                  let (claim, same, covers) = begin_covered next ((is.begins (omega arith)).1) in
                  both_ways (comes_before claim found) (again.1 claim covers) (later_further_in false found claim among.has.0 covers.has.0 (omega arith))
              | inr after ↦ let r : next < claim_end found = again.0.has.1.1 in omega arith
            ];
      }

  pub free_run : (byte limit next : ℕ) → byte < limit → IsSizedInnermost claim_of byte None → IsNext (ClaimBegins claim_of) byte limit next → IsSizedRun claim_of limit byte next None
  free_run byte limit next more none is = record {
    some = next_behind (ClaimBegins claim_of) byte limit next is more;
    within = is.bound;
    same = λ b from to. (None, λ claim among. none claim (sized_before byte limit next b claim is from to among), refl);
    ends = λ less owner.
        let (claim, same, covers) = begin_covered next ((is.begins less).1) in
        no_owner next owner claim covers;
  }

-- an index with a claim has a symbol
pub claim_within : {E : Type 0} → {r : _} → (fields : E → SymbolFields) (symbols : AddressSymbols E r) (within : Option ℕ) (i : ℕ) (claim : Claim) → claim_of_symbols fields symbols within i ≡ Some claim → i < symbol_count symbols
claim_within fields symbols within i claim is =
    option_and_then_some (claim_if fields symbols within i) (slice_get (symbol_items symbols) i) claim is
    (λ symbol there _. slice_get_within (symbol_items symbols) i symbol there)
