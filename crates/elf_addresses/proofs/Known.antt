-- The claims that an index knows at its words.
use Rattle.std.proofs.Common.{◌≡◌, ℕ, ◌<◌, ◌≤◌, ◌+◌, max, List, length, slice_get, slice_index, get_or, Option, None, Some, IfSome, MatchOption, ◌⊎◌, inl, inr, ap, subst, sym, ◌∙◌}
use Rattle.std.proofs.lemmas.Option.{get_or_from_slice_get, none-some, slice_get-get_or, slice_get_past, slice_get_within}
use Rattle.std.specs.Borrow.{Bor}
use Rattle.std.specs.Option.{option_map_or}
use Rattle.std.specs.Slice.{IsItemAt}
use Rattle.elf_addresses.specs.Claims.{Covers, IsClaimAt, NoneAt}
use Rattle.elf_addresses.specs.Index.{IsKnownIn, IsFoundAt, SpansOver}
use Rattle.elf_addresses.specs.declared.claim.Claim.{Claim}

-- what a slice lends at a place is its element there
pub lent_item : (words : List ℕ) (place : ℕ) (lent : Option (Bor ℕ)) (word : Bor ℕ) → IsItemAt words place lent → lent ≡ Some word → Some word.now ≡ slice_get words place
lent_item words place lent word item is =
    let at = subst (IsItemAt words place) is item in
    sym (slice_get-get_or words place word.now at.3.0 ∙ ap (λ (k : ℕ). Some k) (sym at.1))

pub lent_nothing : (words : List ℕ) (place : ℕ) (lent : Option (Bor ℕ)) → IsItemAt words place lent → lent ≡ None → None ≡ slice_get words place
lent_nothing words place lent item is =
    let at = subst (IsItemAt words place) is item in
    sym (slice_get_past words place at.3)

-- the claim that is known where there is an item, and where there is none
pub known_item : {E : Type 0} (claim_at : E → Claim) (items : List E) (i : ℕ) (item : E) (none known : Claim) → known ≡ claim_at item → Some item ≡ slice_get items i → known ≡ option_map_or claim_at (slice_get items i) none
known_item {E} claim_at items i item none known is at = is ∙ ap (λ (o : Option E). option_map_or claim_at o none) at

pub known_nothing : {E : Type 0} (claim_at : E → Claim) (items : List E) (i : ℕ) (none known : Claim) → known ≡ none → None ≡ slice_get items i → known ≡ option_map_or claim_at (slice_get items i) none
known_nothing {E} claim_at items i none known is at = is ∙ ap (λ (o : Option E). option_map_or claim_at o none) at

-- a place of words has one
pub no_word : (words : List ℕ) (place : ℕ) → place < length words → None ≡ slice_get words place → ⊥
no_word words place within at = none-some (get_or words place 0) (at ∙ slice_get-get_or words place 0 within)

pub spans_over : (words begins sizes : List ℕ) (address place : ℕ) (found : Option ℕ) → found ≡ slice_get words place → slice_index begins place ≤ address → address < slice_index begins place + max (slice_index sizes place) 1 → IfSome found (SpansOver words begins sizes address)
spans_over words begins sizes address place None at begun ends = tt
spans_over words begins sizes address place (Some index) at begun ends = record {
  place = place;
  within = slice_get_within words place index (sym at);
  is = get_or_from_slice_get words place index 0 (sym at);
  begun = begun;
  ends = ends;
}

-- what is found in one of two lists
pub in_one : (A B : Claim → Type 0) (found : Option Claim) → IfSome found A → IfSome found (λ claim. A claim ⊎ B claim)
in_one A B None fact = tt
in_one A B (Some claim) fact = inl fact

pub in_other : (A B : Claim → Type 0) (found : Option Claim) → IfSome found B → IfSome found (λ claim. A claim ⊎ B claim)
in_other A B None fact = tt
in_other A B (Some claim) fact = inr fact

module _ (known_of : ℕ → Claim) (words : List ℕ) where
  -- the claim that is known at a word is
  pub known_at : (place index : ℕ) (known : Claim) (found : Option Claim) → Some index ≡ slice_get words place → known ≡ known_of index → IfSome found (λ claim. claim ≡ known) → IfSome found (IsKnownIn known_of words)
  known_at place index known None at is same = tt
  known_at place index known (Some claim) at is same = record {
    place = place;
    within = slice_get_within words place index (sym at);
    known = ap known_of (get_or_from_slice_get words place index 0 (sym at)) ∙ sym is ∙ sym same;
  }

  module _ (claim_of : ℕ → Option Claim) (knows : (i : ℕ) (claim : Claim) → claim_of i ≡ Some claim → known_of i ≡ claim) where
    -- a claim that stands at a place is the one that is known there
    pub known_there : (place index address : ℕ) (known : Claim) (found : Option Claim) → Some index ≡ slice_get words place → known ≡ known_of index → (Covers known address → found ≡ Some known) → (claim : Claim) → IsFoundAt claim_of words place claim → Covers claim address → found ≡ Some claim
    known_there place index address known found at is found_if claim stands covers =
        let same : known ≡ claim = is ∙ sym (ap known_of (get_or_from_slice_get words place index 0 (sym at))) ∙ knows (slice_index words place) claim stands.1 in
        found_if (subst (λ k. Covers k address) (sym same) covers) ∙ ap (λ k. Some k) same

    pub known_begun : (place address : ℕ) (found : Option Claim) → place < length words → MatchOption found (NoneAt claim_of (λ claim. claim.begin ≤ address) (slice_index words place)) (λ claim. IsClaimAt claim_of (slice_index words place) claim × (claim.begin ≤ address) × (claim.index ≡ slice_index words place)) → IfSome found (IsKnownIn known_of words)
    known_begun place address None within fact = tt
    known_begun place address (Some claim) within (is, begins, own) = record { place = place; within = within; known = knows (slice_index words place) claim is }
