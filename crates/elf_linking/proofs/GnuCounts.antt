-- The number of symbols of a GNU hash table, run by run.
use Rattle.std.proofs.Common.{◌≡◌, ◌≢◌, ◌+◌, ◌<◌, ◌≤◌, ℕ, ◌⊎◌, inl, inr, Result, Ok, Err, refl, sym, ap, ◌∙◌, subst, arith, below_more}
use Rattle.std.proofs.lemmas.Bool.{cases_lt, cases_order, le-ltb}
use Rattle.std.specs.Prelude.{IfOk, if◌then◌else◌, nat_lt, Bool, true, false, length}
use Rattle.elf_linking.specs.GnuCount.{CountStops, GoesTo, IsAboveRuns, IsGnuCount, IsLastRun, IsReachedByRun, counted, ended, no_run, failed, too_long}
use Rattle.elf_linking.specs.GnuHash.{EndsRun, HasChain, bucket_word, chain_of, chain_place, chain_word, first_symbol_of, gnu_data}
use Rattle.elf_linking.specs.declared.error.LinkError.{LinkError}
use Rattle.elf_linking.specs.declared.error.LinkError.TheVariants.{ChainData, ChainIndex}
use Rattle.elf_linking.specs.declared.gnu_hash.GnuHashTable.{GnuHashTable}

-- the greatest index at which the run of a bucket below n begins
pub record LastRunBelow (table : GnuHashTable) (n from : ℕ) : Type 0 where
  pub each : (k : ℕ) → k < n → bucket_word table k ≤ from
  pub begins : from ≢ 0 → (k : ℕ) × (k < n) × (bucket_word table k ≡ from)

-- if neither condition holds, there is no error
without_error : (a b : Bool) (word : ℕ) (error : LinkError) → a ≡ false → b ≡ false → (if a then Err ChainIndex else (if b then Err ChainData else Ok word)) ≡ Err error → ⊥
without_error false false word error e f g = cc
without_error true b word error e f g = cc
without_error false true word error e f g = cc

-- a chain word within the data has no error
there_failed : (table : GnuHashTable) (i : ℕ) (error : LinkError) → HasChain table i → chain_of table i ≡ Err error → ⊥
unfolding chain_of
there_failed table i error there =
    without_error (nat_lt i (first_symbol_of table)) (nat_lt (length (gnu_data table)) (chain_place table i + 4)) (chain_word table i) error
    (le-ltb i (first_symbol_of table) there.0) (le-ltb (length (gnu_data table)) (chain_place table i + 4) there.1)

module _ (table : GnuHashTable) where
  -- the greatest index so far, and after one more bucket
  pub last_first : LastRunBelow table 0 0
  last_first = record {
    each = λ k below. absurd (omega arith);
    begins = λ some. absurd (some refl);
  }

  pub last_same : (n from word : ℕ) → LastRunBelow table n from → word ≡ bucket_word table n → word ≤ from → LastRunBelow table (n + 1) from
  last_same n from word s is below = record {
    each = λ k under. below_more (λ k. bucket_word table k ≤ from) n (λ k inside. s.each k inside) (omega (arith, is, below)) k under;
    begins = λ some. (let (k, inside, at) = s.begins some in (k, omega (arith, inside), at));
  }

  pub last_new : (n from word : ℕ) → LastRunBelow table n from → word ≡ bucket_word table n → from < word → LastRunBelow table (n + 1) word
  last_new n from word s is above = record {
    each = λ k under. below_more (λ k. bucket_word table k ≤ word) n (λ k inside. (let h : bucket_word table k ≤ from = s.each k inside in omega (arith, h, above))) (omega (arith, is)) k under;
    begins = λ some. (n, omega arith, sym is);
  }

  -- a run has passed no index at its start, and then one more in each step
  pub goes_first : (from : ℕ) → GoesTo table from from
  goes_first from = record {
    ordered = omega arith;
    words = λ i above below. absurd (omega arith);
    goes_on = λ i above below. absurd (omega arith);
  }

  pub goes_more : (from i : ℕ) → GoesTo table from i → HasChain table i → (EndsRun table i → ⊥) → GoesTo table from (i + 1)
  goes_more from i goes there on =
      let There : ℕ → Type 0 = λ k. from ≤ k → HasChain table k in
      let On : ℕ → Type 0 = λ k. from ≤ k → EndsRun table k → ⊥ in
      let ordered : from ≤ i = goes.ordered in
      record {
        ordered = omega arith;
        words = λ k above below. below_more There i (λ j under over. goes.words j over under) (λ _. there) k below above;
        goes_on = λ k above below. below_more On i (λ j under over. goes.goes_on j over under) (λ _. on) k below above;
      }

  -- a count doesn't continue from where it stops
  stop_passed : (i last : ℕ) (answer : Result ℕ LinkError) → CountStops table i answer → i < last → HasChain table i → (EndsRun table i → ⊥) → (other : Result ℕ LinkError) → CountStops table last other → ⊥
  stop_passed i last _ (ended small word ends) before there on other stop = on ends
  stop_passed i last _ (failed error small is) before there on other stop = there_failed table i error there is
  stop_passed i last _ (too_long large) before there on _ (ended small word ends) = omega arith
  stop_passed i last _ (too_long large) before there on _ (failed error small is) = omega arith
  stop_passed i last _ (too_long large) before there on _ (too_long large') = omega arith

  -- a count has only one result where it stops
  stops_once : (i : ℕ) (one other : Result ℕ LinkError) → CountStops table i one → CountStops table i other → one ≡ other
  stops_once i _ _ (ended small word ends) (ended small' word' ends') = refl
  stops_once i _ _ (ended small word ends) (failed error small' is) = absurd (there_failed table i error word is)
  stops_once i _ _ (ended small word ends) (too_long large) = absurd (omega arith)
  stops_once i _ _ (failed error small is) (ended small' word ends) = absurd (there_failed table i error word is)
  stops_once i _ _ (failed error small is) (failed error' small' is') = ap (λ x. Err x) (let same : Err error ≡ Err error' = sym is ∙ is' in cc)
  stops_once i _ _ (failed error small is) (too_long large) = absurd (omega arith)
  stops_once i _ _ (too_long large) (ended small word ends) = absurd (omega arith)
  stops_once i _ _ (too_long large) (failed error small is) = absurd (omega arith)
  stops_once i _ _ (too_long large) (too_long large') = refl

  -- a count from an index on has only one result
  counts_once : (from i j : ℕ) (one other : Result ℕ LinkError) → GoesTo table from i → CountStops table i one → GoesTo table from j → CountStops table j other → one ≡ other
  counts_once from i j one other goes stop goes' stop' = go (cases_order i j)
    where
      go : (i ≡ j) ⊎ ((i < j) ⊎ (j < i)) → one ≡ other
      go (inl same) = stops_once j one other (subst (λ k. CountStops table k one) same stop) stop'
      go (inr (inl before)) = absurd (stop_passed i j one stop before (goes'.words i goes.ordered before) (goes'.goes_on i goes.ordered before) other stop')
      go (inr (inr behind)) = absurd (stop_passed j i other stop' behind (goes.words j goes'.ordered behind) (goes.goes_on j goes'.ordered behind) one stop)

  -- there is only one greatest start of a run
  begins_below : (one other : ℕ) → IsLastRun table one → IsLastRun table other → one ≤ other
  begins_below one other c d = go (cases_lt other one)
    where
      go : (other < one) ⊎ (one ≤ other) → one ≤ other
      go (inr fine) = fine
      go (inl above) =
          let (k, below, is) = c.begins (λ none. omega (arith, above, none)) in
          let h : bucket_word table k ≤ other = d.each k below in omega (arith, h, is)

  last_run_once : (one other : ℕ) → IsLastRun table one → IsLastRun table other → one ≡ other
  last_run_once one other c d =
      let h : one ≤ other = begins_below one other c d in
      let h' : other ≤ one = begins_below other one d c in omega arith

  -- the whole count has only one result
  pub count_once : (one other : Result ℕ LinkError) → IsGnuCount table one → IsGnuCount table other → one ≡ other
  count_once _ _ (no_run last) (no_run last') = refl
  count_once _ _ (no_run last) (counted from at answer above last' goes stop) = absurd (let same : 0 ≡ from = last_run_once 0 from last last' in omega arith)
  count_once _ _ (counted from at answer above last goes stop) (no_run last') = absurd (let same : from ≡ 0 = last_run_once from 0 last last' in omega arith)
  count_once _ _ (counted from at answer above last goes stop) (counted from' at' answer' above' last' goes' stop') =
      counts_once from' at at' answer answer' (subst (λ n. GoesTo table n at) (last_run_once from from' last last') goes) stop goes' stop'

  -- no run reaches an index after the end of the last
  none_begins : (i : ℕ) → IsLastRun table 0 → IsReachedByRun table i → ⊥
  none_begins i last reached =
      let h : bucket_word table reached.bucket ≤ 0 = last.each reached.bucket reached.below in
      reached.begins (omega (arith, h))

  behind_end : (from at count i : ℕ) → IsLastRun table from → GoesTo table from at → CountStops table at (Ok count) → IsReachedByRun table i → i < count
  behind_end from at count i last goes stop reached = go (Ok count) refl stop (cases_lt at i)
    where
      go : (answer : Result ℕ LinkError) → answer ≡ Ok count → CountStops table at answer → (at < i) ⊎ (i ≤ at) → i < count
      go _ is (ended small word ends) (inr fine) = let same : at + 1 ≡ count = cc in omega (arith, same, fine)
      go _ is (ended small word ends) (inl past) =
          let h : bucket_word table reached.bucket ≤ from = last.each reached.bucket reached.below in
          let h' : from ≤ at = goes.ordered in
          absurd (reached.goes.goes_on at (omega (arith, h, h')) past ends)
      go _ is (failed error small lacks) side = absurd (cc)
      go _ is (too_long large) side = absurd (cc)

  pub count_above : (answer : Result ℕ LinkError) → IsGnuCount table answer → IfOk answer (IsAboveRuns table)
  count_above _ (no_run last) = λ i reached. absurd (none_begins i last reached)
  count_above (Ok count) (counted from at _ above last goes stop) = λ i reached. behind_end from at count i last goes stop reached
  count_above (Err error) (counted from at _ above last goes stop) = tt
