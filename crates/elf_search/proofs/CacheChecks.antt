-- Lemmas on the first error of tests, and on the entries of a cache without an error.
use Rattle.std.proofs.Common.{◌≡◌, ℕ, zero, suc, ◌+◌, ◌<◌, Bool, true, false, refl, sym, subst, arith, add-one}
use Rattle.std.specs.Prelude.{◌==◌, not, is_none, is_some, Option, None, Some, List, Result, Ok, Err, IsOk, MatchResult, if◌then◌else◌, [], ◌∷◌}
use Rattle.std.proofs.lemmas.Bool.{eqb-false, eqb-true}
use Rattle.std.proofs.lemmas.Option.{same_Some}
use Rattle.elf_base.specs.FirstError.{and_then, unless}
use Rattle.elf_search.specs.Cache.{AreNamesGood, IsGood, cache_check, entry_check, first_error, hwcaps_name, is_above, is_entry_inside, is_in_order, key_of, name_check, name_error, words_of_header}
use Rattle.elf_search.specs.Pieces.{are_small, pieces}
use Rattle.elf_search.specs.declared.cache.Cache.{Cache}
use Rattle.elf_search.specs.declared.error.SearchError.{SearchError}
use Rattle.elf_search.specs.declared.error.SearchError.TheVariants.{CacheEntry, CacheEntryOrder, CacheNumber, HwcapsOrder}

both_ok : (one two : Result (Unit {0}) SearchError) → and_then one (λ _. two) ≡ Ok tt → (one ≡ Ok tt) × (two ≡ Ok tt)
both_ok (Ok u) two e = (refl, e)
both_ok (Err error) two e = cc

module _ (test : ℕ → Result (Unit {0}) SearchError) where
  pub first_more : (i : ℕ) → first_error test i ≡ Ok tt → test i ≡ Ok tt → first_error test (i + 1) ≡ Ok tt
  first_more i before now = rw (add-one, before) now

  failed_step : (n i : ℕ) (error : SearchError) (last : Bool) → (i == n) ≡ last → i < suc n → first_error test i ≡ Ok tt → test i ≡ Err error
      → (i < n → first_error test n ≡ Err error) → first_error test (suc n) ≡ Err error
  failed_step n i error true is b before now below = let e : i ≡ n = eqb-true i n is in rw (← e) (rw before now)
  failed_step n i error false is b before now below =
      let differ : i ≡ n → ⊥ = eqb-false i n is in
      let first : first_error test n ≡ Err error = below (omega arith) in rw first refl

  -- an error after tests without one is the first
  pub first_failed : (n i : ℕ) (error : SearchError) → i < n → first_error test i ≡ Ok tt → test i ≡ Err error → first_error test n ≡ Err error
  first_failed zero i error b before now = absurd (omega arith)
  first_failed (suc n) i error b before now = failed_step n i error (i == n) refl b before now (λ less. first_failed n i error less before now)

  each_step : (n i : ℕ) (last : Bool) → (i == n) ≡ last → i < suc n → test n ≡ Ok tt → (i < n → test i ≡ Ok tt) → test i ≡ Ok tt
  each_step n i true is b now below = let e : n ≡ i = sym (eqb-true i n is) in subst (λ k. test k ≡ Ok tt) e now
  each_step n i false is b now below = below (let differ : i ≡ n → ⊥ = eqb-false i n is in omega arith)

  each_ok : (n i : ℕ) → first_error test n ≡ Ok tt → i < n → test i ≡ Ok tt
  each_ok zero i h b = absurd (omega arith)
  each_ok (suc n) i h b = let both = both_ok (first_error test n) (test n) h in
      each_step n i (i == n) refl b both.1 (λ less. each_ok n i both.0 less)

rows_ok : (inside small order : Bool) → unless {A = Unit {0}} {E = SearchError} ((not inside, CacheEntry) ∷ (not small, CacheNumber) ∷ (not order, CacheEntryOrder) ∷ []) tt ≡ Ok tt
    → (inside ≡ true) × (small ≡ true) × (order ≡ true)
rows_ok true true true e = (refl, refl, refl)
rows_ok true true false e = cc
rows_ok true false order e = cc
rows_ok false small order e = cc

entry_ok : (cache : Cache) (i : ℕ) → entry_check cache i ≡ Ok tt
    → (is_entry_inside cache i ≡ true) × (are_small (pieces (key_of cache i)) ≡ true) × (is_in_order cache i ≡ true)
unfolding entry_check
entry_ok cache i h = rows_ok _ _ _ h

-- entries without an error are good
pub checked_good : (cache : Cache) → first_error (entry_check cache) cache.count ≡ Ok tt → IsGood cache
checked_good cache h = record {
  inside = λ i b. (entry_ok cache i (each_ok (entry_check cache) cache.count i h b)).0;
  small = λ i b. (entry_ok cache i (each_ok (entry_check cache) cache.count i h b)).1;
  pairs = λ i b. let order : is_in_order cache (i + 1) ≡ true = (entry_ok cache (i + 1) (each_ok (entry_check cache) cache.count (i + 1) h b)).2 in
      rw add-one at order;
}

-- without an error before, a cache has that of its names of hwcaps
pub checked_after : (cache : Cache) (names : Result (Unit {0}) SearchError) → first_error (entry_check cache) cache.count ≡ Ok tt
    → is_none (words_of_header cache.bytes.now cache.start) ≡ false
    → MatchResult names (λ _. first_error (name_check cache) cache.name_count ≡ Ok tt) (λ error. first_error (name_check cache) cache.name_count ≡ Err error)
    → MatchResult names (λ _. cache_check cache ≡ Ok tt) (λ error. cache_check cache ≡ Err error)
checked_after cache (Ok u) entries extension h = rw (entries, extension) h
checked_after cache (Err error) entries extension h = rw (entries, extension) h

abbrev order_error : Bool → Result (Unit {0}) SearchError
order_error above = if above then Ok tt else Err HwcapsOrder

above_ok : (above : Bool) → order_error above ≡ Ok tt → above ≡ true
above_ok true e = refl
above_ok false e = cc

name_ok : (last name : Option (List ℕ)) → name_error last name ≡ Ok tt
    → (is_some name ≡ true) × ((text : List ℕ) → name ≡ Some text → is_above last text ≡ true)
name_ok last None e = cc
name_ok last (Some name) e = (refl, λ text is. subst (λ one. is_above last one ≡ true) (same_Some name text is) (above_ok (is_above last name) e))

names_good : (cache : Cache) → is_some (words_of_header cache.bytes.now cache.start) ≡ true
    → first_error (name_check cache) cache.name_count ≡ Ok tt → AreNamesGood cache
names_good cache extension h = record {
  extension = extension;
  inside = λ i b. (name_ok _ (hwcaps_name cache i) (each_ok (name_check cache) cache.name_count i h b)).0;
  rise = λ i name b second. let now : name_check cache (i + 1) ≡ Ok tt = each_ok (name_check cache) cache.name_count (i + 1) h b in
      (name_ok (hwcaps_name cache i) (hwcaps_name cache (suc i)) (rw add-one at now)).1 name (rw add-one at second);
}

-- names without an error are good
pub checked_names : (cache : Cache) (names : Result (Unit {0}) SearchError) → is_some (words_of_header cache.bytes.now cache.start) ≡ true
    → MatchResult names (λ _. first_error (name_check cache) cache.name_count ≡ Ok tt) (λ error. first_error (name_check cache) cache.name_count ≡ Err error)
    → IsOk names → AreNamesGood cache
checked_names cache (Ok u) extension h ok = names_good cache extension h
checked_names cache (Err error) extension h ok = cc
