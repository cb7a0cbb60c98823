-- Claims that begin after a byte.
use Rattle.std.proofs.Common.{◌≡◌, ◌↔◌, ℕ, ◌<◌, ◌==◌, ◌||◌, Bool, IsTrue, not, nat_lt, true, false, Option, None, Some, inl, inr, refl, subst, sym}
use Rattle.std.proofs.lemmas.Bool.{and_from, and_parts, both_ways, lt-ltb, ltb-true, not-true, not_from_false, or_cases, or_left, or_right, false≢true}
use Rattle.xmas_elf.specs.Types.{ElfFile}
use Rattle.elf_addresses.specs.FileClaims.{section_claim, segment_claim}
use Rattle.elf_addresses.specs.Owner.{ClaimBegins, HasPartBehind, TableBegins, is_claim_behind}
use Rattle.elf_addresses.specs.declared.claim.Claim.{Claim}

module _ (claim_of : ℕ → Option Claim) (byte : ℕ) where
  claim_here : (i : ℕ) (o : Option Claim) → ((claim : Claim) → claim_of i ≡ Some claim → claim.index ≡ i) → claim_of i ≡ o → is_claim_behind o byte ≡ true → (begin : ℕ) × (byte < begin) × ClaimBegins claim_of begin
  claim_here i None own at h = absurd (false≢true h)
  claim_here i (Some claim) own at h =
      let (sized, behind) = and_parts (not (claim.size == 0)) (nat_lt byte claim.begin) h in
      let is : claim_of claim.index ≡ Some claim = subst (λ k. claim_of k ≡ Some claim) (sym (own claim at)) at in
      (claim.begin, ltb-true byte claim.begin behind, (claim, record { is = is; has = (not-true (claim.size == 0) sized, refl) }))

  -- the claim at an index begins after the byte
  pub behind_at : (i : ℕ) → ((claim : Claim) → claim_of i ≡ Some claim → claim.index ≡ i) → is_claim_behind (claim_of i) byte ≡ true → (begin : ℕ) × (byte < begin) × ClaimBegins claim_of begin
  behind_at i own h = claim_here i (claim_of i) own refl h

  -- no claim does
  pub behind_nowhere : (count : ℕ) → ((i : ℕ) (claim : Claim) → claim_of i ≡ Some claim → i < count) → ((i : ℕ) → i < count → is_claim_behind (claim_of i) byte ≡ false) → (begin : ℕ) × (byte < begin) × ClaimBegins claim_of begin → ⊥
  behind_nowhere count within all (begin, more, (claim, among)) =
      let fails : is_claim_behind (claim_of claim.index) byte ≡ false = all claim.index (within claim.index claim among.is) in
      let fails' : is_claim_behind (Some claim) byte ≡ false = subst (λ o. is_claim_behind o byte ≡ false) among.is fails in
      let less : byte < claim.begin = subst (λ b. byte < b) (sym among.has.1) more in
      both_ways (is_claim_behind (Some claim) byte) fails' (and_from (not (claim.size == 0)) (nat_lt byte claim.begin) (not_from_false (claim.size == 0) among.has.0) (lt-ltb byte claim.begin less))

-- a part begins after the byte if a table, a section or a segment does
pub behind_any : (file : ElfFile) (byte : ℕ) (a b c : Bool) → (IsTrue a ↔ ((begin : ℕ) × (byte < begin) × TableBegins file begin)) → (IsTrue b ↔ ((begin : ℕ) × (byte < begin) × ClaimBegins (section_claim file) begin)) → (IsTrue c ↔ ((begin : ℕ) × (byte < begin) × ClaimBegins (segment_claim file) begin)) → IsTrue (a || (b || c)) ↔ HasPartBehind file byte
behind_any file byte a b c tables sections segments = (
  λ h. elim (or_cases a (b || c) h) [
    | inl table ↦ let (begin, behind, begins) = tables.0 table in (begin, behind, inl (inl begins))
    | inr rest ↦ elim (or_cases b c rest) [
      | inl section ↦ let (begin, behind, begins) = sections.0 section in (begin, behind, inl (inr begins))
      | inr segment ↦ let (begin, behind, begins) = segments.0 segment in (begin, behind, inr begins)
    ]
  ],
  λ (begin, behind, begins). elim begins [
    | inl (inl table) ↦ or_left a (b || c) (tables.1 (begin, behind, table))
    | inl (inr section) ↦ or_right a (b || c) (or_left b c (sections.1 (begin, behind, section)))
    | inr segment ↦ or_right a (b || c) (or_right b c (segments.1 (begin, behind, segment)))
  ],
)
