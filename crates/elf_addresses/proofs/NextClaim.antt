-- The next begin of a claim, by an index whose words are in order.
use Rattle.std.proofs.Common.{◌≡◌, ℕ, ◌<◌, ◌≤◌, min, false, List, length, slice_index, Option, Some, subst, sym, arith, inl, inr}
use Rattle.std.proofs.lemmas.Bool.{cases_lt}
use Rattle.elf_addresses.specs.Index.{IsWorstFirst, IsFoundAt}
use Rattle.elf_addresses.specs.Owner.{ClaimBegins}
use Rattle.elf_addresses.specs.Runs.{IsNext}
use Rattle.elf_addresses.specs.declared.claim.Claim.{Claim}
use Rattle.elf_addresses.proofs.Ask.{begin_of, rising}

module _ (claim_of : ℕ → Option Claim) (range_of : ℕ → ℕ × ℕ) (ranged : (i : ℕ) (claim : Claim) → claim_of i ≡ Some claim → range_of i ≡ (claim.begin, claim.size)) (own : (i : ℕ) (claim : Claim) → claim_of i ≡ Some claim → claim.index ≡ i) where
  -- a claim that begins after the byte stands at or after the count
  after_count : (words : List ℕ) (byte count place : ℕ) (claim : Claim) → ((k : ℕ) → k < count → (range_of (slice_index words k)).0 ≤ byte) → IsFoundAt claim_of words place claim → byte < claim.begin → count ≤ place
  after_count words byte count place claim begun stands behind = elim (cases_lt place count) [
    | inl less ↦
        let p : (range_of (slice_index words place)).0 ≤ byte = begun place less in
        let q : (range_of (slice_index words place)).0 ≡ claim.begin = begin_of claim_of range_of ranged words place claim stands in
        absurd (omega arith)
    | inr more ↦ more
  ]

  -- the range at the count begins next
  pub next_at : (words : List ℕ) (byte limit count : ℕ) → IsWorstFirst claim_of false words → ((k : ℕ) → k < count → (range_of (slice_index words k)).0 ≤ byte) → ((k : ℕ) → count ≤ k → k < length words → byte < (range_of (slice_index words k)).0) → count < length words → IsNext (ClaimBegins claim_of) byte limit (min limit (range_of (slice_index words count)).0)
  next_at words byte limit count wf begun rest within =
      let begin = (range_of (slice_index words count)).0 in
      let (c, stands, kind) = wf.each count within in
      let same : begin ≡ c.begin = begin_of claim_of range_of ranged words count c stands in
      let behind : byte < begin = rest count (omega arith) within in
      record {
        bound = omega arith;
        first = λ b more (claim, among).
            let (place, there) = wf.all claim (record { is = among.is; has = among.has.0 }) in
            let at : claim.begin ≡ b = among.has.1 in
            let after : count ≤ place = after_count words byte count place claim begun there (omega arith) in
            let up : begin ≤ (range_of (slice_index words place)).0 = rising claim_of range_of ranged false words wf count place after there.0 in
            let q : (range_of (slice_index words place)).0 ≡ claim.begin = begin_of claim_of range_of ranged words place claim there in
            omega arith;
        begins = λ less.
            let found : min limit begin ≡ begin = omega arith in
            let is : claim_of c.index ≡ Some c = subst (λ i. claim_of i ≡ Some c) (sym (own (slice_index words count) c stands.1)) stands.1 in
            let at : c.begin ≡ min limit begin = omega arith in
            (omega arith, (c, record { is = is; has = (kind, at) }));
      }

  -- no claim begins after the byte
  pub next_none : (words : List ℕ) (byte limit count : ℕ) → IsWorstFirst claim_of false words → ((k : ℕ) → k < count → (range_of (slice_index words k)).0 ≤ byte) → length words ≤ count → IsNext (ClaimBegins claim_of) byte limit limit
  next_none words byte limit count wf begun past = record {
    bound = omega arith;
    first = λ b more (claim, among).
        let (place, there) = wf.all claim (record { is = among.is; has = among.has.0 }) in
        let at : claim.begin ≡ b = among.has.1 in
        let after : count ≤ place = after_count words byte count place claim begun there (omega arith) in
        let inside : place < length words = there.0 in
        absurd (omega arith);
    begins = λ less. absurd (omega arith);
  }
