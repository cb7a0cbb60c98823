-- A pass over chain words that keeps the index after the last one that ends a run.
use Rattle.std.proofs.Common.{◌+◌, ◌<◌, ◌≤◌, ℕ, ◌⊎◌, inl, inr, List, arith, below_more}
use Rattle.std.proofs.lemmas.Bool.{cases_lt}
use Rattle.elf_linking.specs.GnuHash.{GnuEnds, EndsRun, IsThere, first_symbol_of}
use Rattle.elf_linking.specs.declared.gnu_hash.GnuHashTable.{GnuHashTable}

-- all symbols and words up to an index are there; runs from before `end` end; no word from `end` on ends one
pub record Scanned {E : Type 0} (table : GnuHashTable) (symbols : List E) (end index : ℕ) : Type 0 where
  pub below : end ≤ index
  pub there : (i : ℕ) → first_symbol_of table ≤ i → i < index → IsThere table symbols i
  pub ends : (from : ℕ) → first_symbol_of table ≤ from → from < end → GnuEnds table symbols from
  pub last : (i : ℕ) → first_symbol_of table ≤ i → end ≤ i → i < index → EndsRun table i → ⊥

module _ {E : Type 0} (table : GnuHashTable) (symbols : List E) where
  pub scanned_first : (index : ℕ) → index ≤ first_symbol_of table → Scanned table symbols 0 index
  scanned_first index first = record {
    below = omega arith;
    there = λ i begins below. absurd (omega arith);
    ends = λ i begins below. absurd (omega arith);
    last = λ i begins above below ends. omega arith;
  }

  there_more : (end index : ℕ) → Scanned table symbols end index → IsThere table symbols index → (i : ℕ) → first_symbol_of table ≤ i → i < index + 1 → IsThere table symbols i
  there_more end index s here i begins below =
      let There : ℕ → Type 0 = λ k. first_symbol_of table ≤ k → IsThere table symbols k in
      below_more There index (λ k under over. s.there k over under) (λ _. here) i below begins

  pub scanned_end : (end index : ℕ) → Scanned table symbols end index → IsThere table symbols index → EndsRun table index → Scanned table symbols (index + 1) (index + 1)
  scanned_end end index s here ends = record {
    below = omega arith;
    there = there_more end index s here;
    ends = λ from begins below. go from begins below (cases_lt from end);
    last = λ i begins above below h. omega arith;
  }
    where
      go : (from : ℕ) → first_symbol_of table ≤ from → from < index + 1 → (from < end) ⊎ (end ≤ from) → GnuEnds table symbols from
      go from begins below (inl before) = s.ends from begins before
      go from begins below (inr behind) =
          let ordered : from ≤ index = omega arith in
          record {
            last = index;
            run = record {
              ordered = ordered;
              there = λ i above under. s.there i (omega arith) under;
              goes_on = λ i above under. s.last i (omega arith) (omega arith) under;
            };
            there = here;
            ends = ends;
          }

  pub scanned_on : (end index : ℕ) → Scanned table symbols end index → IsThere table symbols index → (EndsRun table index → ⊥) → Scanned table symbols end (index + 1)
  scanned_on end index s here on =
      let below : end ≤ index = s.below in
      let Last : ℕ → Type 0 = λ k. first_symbol_of table ≤ k → end ≤ k → EndsRun table k → ⊥ in
      record {
        below = omega arith;
        there = there_more end index s here;
        ends = s.ends;
        last = λ i begins above under. below_more Last index (λ k u b a. s.last k b a u) (λ _ _. on) i under begins above;
      }
