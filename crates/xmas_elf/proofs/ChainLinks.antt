-- Links between the indices of a hash table's chains, one more at a time.
use Rattle.std.proofs.Common.{◌≡◌, ◌<◌, ◌^◌, ℕ, ◌⊎◌, inl, inr, List, Option, Some, None, Ok, subst, sym, slice_get, slice_index_or, length, refl, zero}
use Rattle.std.specs.Prelude.{IsTrue, MatchOption, is_some, unwrap_or}
use Rattle.xmas_elf.specs.HashTable.{Chains, Reaches, goes, starts}
use Rattle.xmas_elf.specs.ChainLinks.{AreLinks, Joins}

-- what holds of each link still does with one more of which it holds
pub with_link : (P : ℕ → ℕ → Type 0) (old new : List ℕ) (i j : ℕ) → ((x y : ℕ) → Joins new x y → ((x ≡ i) × (y ≡ j)) ⊎ Joins old x y) → ((x y : ℕ) → Joins old x y → P x y) → P i j → (x y : ℕ) → Joins new x y → P x y
with_link P old new i j said each this x y joins =
    elim (said x y joins) [ inl (here, there) ↦ subst (λ z. P z y) (sym here) (subst (λ z. P i z) (sym there) this) | inr was ↦ each x y was ]

-- an index that is linked is linked to some index
pub linked_to : (words : List ℕ) (i : ℕ) (o : Option ℕ) → MatchOption o (slice_index_or words i 0 < 2 ^ 31) (λ j. Joins words i j × (i < length words) × (j < 2 ^ 31)) → IsTrue (is_some o) → (j : ℕ) × Joins words i j
linked_to words i None said some = absurd (cc)
linked_to words i (Some j) said some = let (joins, within, small) = said in (j, joins)

-- what stands in a Some
pub some_of : {X : Type 0} (o : Option X) → IsTrue (is_some o) → (x : X) × (o ≡ Some x)
some_of None there = absurd (cc)
some_of (Some x) there = (x, refl)

module _ {E : Type 0} (chains : Chains E) where
  -- the index that a chain's word names is reached in one step
  pub reaches_next : (i j : ℕ) (e : E) → 0 < i → i < chains.count → slice_get chains.symbols i ≡ Some e → chains.chain i ≡ Ok j → Reaches chains i j
  reaches_next i j e some below there next =
      (1, goes zero i j starts (record { entry = e; stands = record { not_end = some; below = below; symbol = there }; next = next }))

  -- what an index is linked to is reached from it, or the index itself if it isn't linked
  pub reaches_linked : (words : List ℕ) (i : ℕ) (o : Option ℕ) → AreLinks chains words → MatchOption o (slice_index_or words i 0 < 2 ^ 31) (λ j. Joins words i j × (i < length words) × (j < 2 ^ 31)) → Reaches chains i (unwrap_or o i)
  reaches_linked words i None links said = (0, starts)
  reaches_linked words i (Some j) links said = let (joins, within, small) = said in links i j joins
