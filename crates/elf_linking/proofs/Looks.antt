-- A look-up has only one result; in a good table it has no error and finds what must be found.
use Rattle.std.proofs.Common.{◌≡◌, ◌≢◌, ◌%◌, ◌<◌, ◌≤◌, ℕ, ◌⊎◌, inl, inr, Bool, true, false, List, Option, Some, None, Result, refl, subst, arith}
use Rattle.std.proofs.Math.Dec.{eqb}
use Rattle.std.proofs.lemmas.Bool.{cases_order, eqb-false}
use Rattle.std.specs.Prelude.{◌||◌, not, if◌then◌else◌}
use Rattle.elf_linking.specs.GnuHash.{AreGoodBelow, GnuEnds, EndsRun, FindsAllWhere, IsBucketGood, IsExported, IsGnuGood, IsHeld, IsHit, GnuLooksFrom, GnuLooksWhere, NoHit, Run, GnuStops, gnu_bucket_count, bucket_word, ended, first_symbol_of, found, goes, may_hold, no_run, failed, start_at, gnu_start_of, too_early}
use Rattle.elf_linking.specs.Layouts.{gnu_hash_number}
use Rattle.elf_linking.specs.declared.error.LinkError.{LinkError}
use Rattle.elf_linking.specs.declared.gnu_hash.GnuHashTable.{GnuHashTable}
use Rattle.elf_linking.proofs.Runs.{ends_cut, looks_from_once}
use Rattle.xmas_elf.specs.Symbol.{Symbols}

-- the chosen word is that of the bucket, if there are buckets and it is not 0
picked : (a b z : Bool) (word from : ℕ) → (if a || not b then None else (if z then None else Some word)) ≡ Some from → (a ≡ false) × (z ≡ false) × (word ≡ from)
picked true b z word from e = absurd (cc)
picked false true true word from e = absurd (cc)
picked false true false word from e = (refl, refl, cc)
picked false false z word from e = absurd (cc)

-- a look-up begins at the word of a bucket, which is not 0
pub start_bucket : (table : GnuHashTable) (h from : ℕ) → start_at table h ≡ Some from → (gnu_bucket_count table ≢ 0) × (bucket_word table (h % gnu_bucket_count table) ≡ from) × (0 < from)
unfolding start_at
start_bucket table h from starts =
    let word : ℕ = bucket_word table (h % gnu_bucket_count table) in
    let (some, other, same) = picked (eqb (gnu_bucket_count table) 0) (may_hold table h) (eqb word 0) word from starts in
    let above : word ≢ 0 = eqb-false word 0 other in
    (eqb-false (gnu_bucket_count table) 0 some, same, omega arith)

module _ {E : Type 0} (P : ℕ × E → Type 0) (table : GnuHashTable) (symbols : List E) (name : List ℕ) where
  -- a look-up has only one result and one number of chain words
  pub looks_once : (a b : Result (Option (ℕ × E)) LinkError) (n m : ℕ) → GnuLooksWhere P table symbols name a n → GnuLooksWhere P table symbols name b m → (a ≡ b) × (n ≡ m)
  looks_once _ _ _ _ (no_run none) (no_run none') = (refl, refl)
  looks_once _ _ _ _ (no_run none) (too_early from starts early) = absurd (cc)
  looks_once _ _ _ _ (no_run none) (goes from m b starts begins looks) = absurd (cc)
  looks_once _ _ _ _ (too_early from starts early) (no_run none) = absurd (cc)
  looks_once _ _ _ _ (too_early from starts early) (too_early from' starts' early') = (refl, refl)
  looks_once _ _ _ _ (too_early from starts early) (goes from' m b starts' begins looks) =
      let same : from ≡ from' = cc in absurd (omega arith)
  looks_once _ _ _ _ (goes from n a starts begins looks) (no_run none) = absurd (cc)
  looks_once _ _ _ _ (goes from n a starts begins looks) (too_early from' starts' early) =
      let same : from ≡ from' = cc in absurd (omega arith)
  looks_once _ _ _ _ (goes from n a starts begins looks) (goes from' m b starts' begins' looks') =
      let same : from ≡ from' = cc in
      let moved : GnuLooksFrom P (gnu_hash_number name) table symbols from' a n = subst (λ x. GnuLooksFrom P (gnu_hash_number name) table symbols x a n) same looks in
      looks_from_once table symbols P (gnu_hash_number name) from' n m a b moved looks'

module _ {E : Type 0} (P : ℕ × E → Type 0) (table : GnuHashTable) (symbols : List E) (name : List ℕ) where
  -- a look-up by the hash number of the name is a look-up for the name
  pub goes_by : (h from n : ℕ) (a : Result (Option (ℕ × E)) LinkError) → h ≡ gnu_hash_number name → gnu_start_of table name ≡ Some from → first_symbol_of table ≤ from → GnuLooksFrom P h table symbols from a n → GnuLooksWhere P table symbols name a n
  goes_by h from n a same starts begins looks = goes from n a starts begins (subst (λ x. GnuLooksFrom P x table symbols from a n) same looks)

-- if the buckets are good, a look-up begins at the first symbol or later, on a run that ends
pub start_ends : {E : Type 0} (table : GnuHashTable) (symbols : List E) (h from : ℕ) → AreGoodBelow table symbols (gnu_bucket_count table) → start_at table h ≡ Some from → (0 < from) × (first_symbol_of table ≤ from) × GnuEnds table symbols from
start_ends {E} table symbols h from good starts =
    let (some, same, above) = start_bucket table h from starts in
    let k : ℕ = h % gnu_bucket_count table in
    let below : k < gnu_bucket_count table = omega arith in
    go same above (good k below)
  where
    go : bucket_word table (h % gnu_bucket_count table) ≡ from → 0 < from → IsBucketGood table symbols (h % gnu_bucket_count table) → (0 < from) × (first_symbol_of table ≤ from) × GnuEnds table symbols from
    go same above (inl none) = absurd (omega arith)
    go same above (inr (begins, ends)) = (above, omega arith, subst (λ x. GnuEnds table symbols x) same ends)

module _ {E : Type 0} (P : ℕ × E → Type 0) (table : GnuHashTable) (symbols : Symbols E) (name : List ℕ) where
  -- a symbol that a look-up passes without a hit is not one that it must find
  missed_all : (from last : ℕ) → gnu_start_of table name ≡ Some from → IsGnuGood table symbols → Run table symbols.items from last → NoHit P (gnu_hash_number name) table symbols.items from last → EndsRun table last → ((e : E) → IsHit P (gnu_hash_number name) table symbols.items last e → ⊥) → (i : ℕ) (e : E) → IsExported table symbols i e name → P (i, e) → ⊥
  missed_all from last starts good run missed ends none i e exported holds = go (cases_order i last)
    where
      held : IsHeld table symbols.items name i
      held = good.holds i e name exported

      begins : held.from ≡ from
      begins = let one : gnu_start_of table name ≡ Some held.from = held.starts in cc

      here : Run table symbols.items from i
      here = subst (λ x. Run table symbols.items x i) begins held.run

      hit : IsHit P (gnu_hash_number name) table symbols.items i e
      hit = record { there = held.there; symbol = exported.global.stands; agrees = held.agrees; holds = holds }

      go : (i ≡ last) ⊎ ((i < last) ⊎ (last < i)) → ⊥
      go (inl same) = none e (subst (λ x. IsHit P (gnu_hash_number name) table symbols.items x e) same hit)
      go (inr (inl before)) = missed i e here.ordered before hit
      go (inr (inr behind)) = here.goes_on last run.ordered behind ends

  -- at a stop of a run that ends, the result is the right one
  stop_finds : (from last n : ℕ) (a : Result (Option (ℕ × E)) LinkError) → 0 < from → first_symbol_of table ≤ from → GnuEnds table symbols.items from → gnu_start_of table name ≡ Some from → IsGnuGood table symbols → Run table symbols.items from last → NoHit P (gnu_hash_number name) table symbols.items from last → GnuStops P (gnu_hash_number name) table symbols.items last a n → FindsAllWhere table symbols name P a
  stop_finds from last _ _ above begins run_ends starts good run missed (found e hit) =
      let ordered : from ≤ last = run.ordered in
      (omega arith, omega arith, hit.symbol, hit.holds)
  stop_finds from last _ _ above begins run_ends starts good run missed (ended there ends none) =
      λ (i, e, exported, holds). missed_all from last starts good run missed ends none i e exported holds
  stop_finds from last _ _ above begins run_ends starts good run missed (failed error lacks) =
      ends_cut table symbols.items from error run_ends (record { last = last; run = run; lacks = lacks })

  -- in a good table a look-up has no error and finds what must be found
  pub finds_all : (a : Result (Option (ℕ × E)) LinkError) (n : ℕ) → IsGnuGood table symbols → GnuLooksWhere P table symbols.items name a n → FindsAllWhere table symbols name P a
  finds_all _ _ good (no_run none) = λ (i, e, exported, holds).
      let held : IsHeld table symbols.items name i = good.holds i e name exported in
      let starts : gnu_start_of table name ≡ Some held.from = held.starts in
      absurd (cc)
  finds_all _ _ good (too_early from starts early) =
      let (above, begins, run_ends) = start_ends table symbols.items (gnu_hash_number name) from good.buckets starts in
      omega arith
  finds_all _ _ good (goes from n a starts begins looks) =
      let (above, begins', run_ends) = start_ends table symbols.items (gnu_hash_number name) from good.buckets starts in
      stop_finds from looks.last looks.here a above begins run_ends starts good looks.run looks.missed looks.stop
