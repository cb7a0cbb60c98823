-- The runs of a GNU hash table, index by index.
use Rattle.std.proofs.Common.{◌≡◌, ◌+◌, ◌-◌, ◌<◌, ◌≤◌, ℕ, ◌⊎◌, inl, inr, List, Option, Some, Result, Ok, Err, slice_get, length, refl, sym, ap, subst, arith, below_more}
use Rattle.std.proofs.lemmas.Bool.{cases_lt, cases_order}
use Rattle.elf_linking.specs.GnuHash.{ComeFrom, GnuEnds, EndsRun, IsCut, IsHit, IsThere, Lacks, GnuLooksFrom, NoHit, Run, GnuStops, chain_place, ended, first_symbol_of, found, gnu_data, no_symbol, no_word, failed, symbol_end}
use Rattle.elf_linking.specs.declared.error.LinkError.{LinkError}
use Rattle.elf_linking.specs.declared.error.LinkError.TheVariants.{SymbolIndex}
use Rattle.elf_linking.specs.declared.gnu_hash.GnuHashTable.{GnuHashTable}

module _ {E : Type 0} (table : GnuHashTable) (symbols : List E) where
  -- a run has passed no index at its start
  pub run_first : (from : ℕ) → Run table symbols from from
  run_first from = record {
    ordered = omega arith;
    there = λ i above below. absurd (omega arith);
    goes_on = λ i above below. absurd (omega arith);
  }

  -- a run passes one more index in a step
  pub run_next : (from i : ℕ) → Run table symbols from i → IsThere table symbols i → (EndsRun table i → ⊥) → Run table symbols from (i + 1)
  run_next from i run there on =
      let There : ℕ → Type 0 = λ k. from ≤ k → IsThere table symbols k in
      let On : ℕ → Type 0 = λ k. from ≤ k → EndsRun table k → ⊥ in
      let ordered : from ≤ i = run.ordered in
      record {
        ordered = omega arith;
        there = λ k above below. below_more There i (λ j under over. run.there j over under) (λ _. there) k below above;
        goes_on = λ k above below. below_more On i (λ j under over. run.goes_on j over under) (λ _. on) k below above;
      }

  -- a run that comes to an index comes to those before it
  pub run_part : (from i j : ℕ) → Run table symbols from j → from ≤ i → i ≤ j → Run table symbols from i
  run_part from i j run above below = record {
    ordered = above;
    there = λ k over under. run.there k over (omega arith);
    goes_on = λ k over under. run.goes_on k over (omega arith);
  }

  -- if there are a symbol and a chain word, neither is missing
  pub there_lacks : (i : ℕ) (error : LinkError) → IsThere table symbols i → Lacks table symbols i error → ⊥
  there_lacks i _ there (no_symbol past) = let h : i < symbol_end symbols = there.symbol in omega arith
  there_lacks i _ there (no_word below past) = let h : chain_place table i + 4 ≤ length (gnu_data table) = there.word.1 in omega arith

  -- only one of them is the error at an index
  pub lacks_once : (i : ℕ) (one other : LinkError) → Lacks table symbols i one → Lacks table symbols i other → one ≡ other
  lacks_once i _ _ (no_symbol past) (no_symbol past') = refl
  lacks_once i _ _ (no_symbol past) (no_word below past') = absurd (omega arith)
  lacks_once i _ _ (no_word below past) (no_symbol past') = absurd (omega arith)
  lacks_once i _ _ (no_word below past) (no_word below' past') = refl

  -- a run that ends is not cut off
  pub ends_cut : (from : ℕ) (error : LinkError) → GnuEnds table symbols from → IsCut table symbols from error → ⊥
  ends_cut from error e c = go (cases_order e.last c.last)
    where
      go : (e.last ≡ c.last) ⊎ ((e.last < c.last) ⊎ (c.last < e.last)) → ⊥
      go (inl same) = there_lacks c.last error (subst (λ i. IsThere table symbols i) same e.there) c.lacks
      go (inr (inl before)) = c.run.goes_on e.last e.run.ordered before e.ends
      go (inr (inr behind)) = there_lacks c.last error (e.run.there c.last c.run.ordered behind) c.lacks

  -- a run is cut off with only one error
  pub cut_once : (from : ℕ) (one other : LinkError) → IsCut table symbols from one → IsCut table symbols from other → one ≡ other
  cut_once from one other c d = go (cases_order c.last d.last)
    where
      go : (c.last ≡ d.last) ⊎ ((c.last < d.last) ⊎ (d.last < c.last)) → one ≡ other
      go (inl same) = lacks_once d.last one other (subst (λ i. Lacks table symbols i one) same c.lacks) d.lacks
      go (inr (inl before)) = absurd (there_lacks c.last one (d.run.there c.last c.run.ordered before) c.lacks)
      go (inr (inr behind)) = absurd (there_lacks d.last other (c.run.there d.last d.run.ordered behind) d.lacks)

  -- a run up to the end of the symbols and chain words, if none of its words ends it
  pub run_to : (from last : ℕ) → from ≤ last → ((i : ℕ) → from ≤ i → i < last → IsThere table symbols i) → ((i : ℕ) → from ≤ i → IsThere table symbols i → EndsRun table i → ⊥) → Run table symbols from last
  run_to from last ordered there endless = record {
    ordered = ordered;
    there = there;
    goes_on = λ i above below. endless i above (there i above below);
  }

  -- the runs that come to the first index of the pass begin there
  pub come_first : (from : ℕ) → ((i : ℕ) → 0 < i → first_symbol_of table ≤ i → from ≤ i) → ComeFrom table symbols from from
  come_first from least = record {
    ordered = omega arith;
    come = λ i above below. (let same : from ≡ i = omega arith in subst (λ k. Run table symbols i k) (sym same) (run_first i));
    only = λ i positive run. only i positive run (cases_lt i from);
  }
    where
      only : (i : ℕ) → 0 < i → Run table symbols i from → (i < from) ⊎ (from ≤ i) → from ≤ i
      only i positive run (inl before) = let there : IsThere table symbols i = run.there i (omega arith) before in least i positive there.word.0
      only i positive run (inr behind) = behind

  -- the runs that come to the next index come from this one, or begin there
  pub come_on : (from index : ℕ) → ComeFrom table symbols from index → IsThere table symbols index → (EndsRun table index → ⊥) → ComeFrom table symbols from (index + 1)
  come_on from index c there on =
      let ordered : from ≤ index = c.ordered in
      record {
        ordered = omega arith;
        come = λ i above below. come i above below (cases_lt index i);
        only = λ i positive run. only i positive run (cases_lt index i);
      }
    where
      come : (i : ℕ) → from ≤ i → i ≤ index + 1 → (index < i) ⊎ (i ≤ index) → Run table symbols i (index + 1)
      come i above below (inl behind) = let same : index + 1 ≡ i = omega arith in subst (λ k. Run table symbols i k) (sym same) (run_first i)
      come i above below (inr before) = run_next i index (c.come i above before) there on

      only : (i : ℕ) → 0 < i → Run table symbols i (index + 1) → (index < i) ⊎ (i ≤ index) → from ≤ i
      only i positive run (inl behind) = let ordered : from ≤ index = c.ordered in omega arith
      only i positive run (inr before) = c.only i positive (run_part i index (index + 1) run before (omega arith))

  -- if no run continues, the runs that come to the next index begin there
  pub come_stop : (index : ℕ) → (IsThere table symbols index → (EndsRun table index → ⊥) → ⊥) → ComeFrom table symbols (index + 1) (index + 1)
  come_stop index stops = record {
    ordered = omega arith;
    come = λ i above below. (let same : index + 1 ≡ i = omega arith in subst (λ k. Run table symbols i k) (sym same) (run_first i));
    only = λ i positive run. only i run (cases_lt index i);
  }
    where
      only : (i : ℕ) → Run table symbols i (index + 1) → (index < i) ⊎ (i ≤ index) → index + 1 ≤ i
      only i run (inl behind) = omega arith
      only i run (inr before) = absurd (stops (run.there index before (omega arith)) (run.goes_on index before (omega arith)))

  module _ (P : ℕ × E → Type 0) (h : ℕ) where
    -- if there are no more symbols, a look-up has an error
    pub looks_past : (from index n : ℕ) → Run table symbols from index → NoHit P h table symbols from index → symbol_end symbols ≤ index → (from ≤ symbol_end symbols → index ≤ symbol_end symbols) → n ≡ symbol_end symbols - from → GnuLooksFrom P h table symbols from (Err SymbolIndex) n
    looks_past from index n run missed past within counted = go (cases_lt (symbol_end symbols) from)
      where
        go : (symbol_end symbols < from) ⊎ (from ≤ symbol_end symbols) → GnuLooksFrom P h table symbols from (Err SymbolIndex) n
        go (inl out) = record {
          last = from;
          here = 0;
          run = run_first from;
          missed = λ i e above below hit. absurd (omega arith);
          stop = failed SymbolIndex (no_symbol (omega arith));
          counted = omega arith;
        }
        go (inr in_) =
            let below : index ≤ symbol_end symbols = within in_ in
            record {
              last = index;
              here = 0;
              run = run;
              missed = missed;
              stop = failed SymbolIndex (no_symbol past);
              counted = omega arith;
            }

    -- a look-up passes one more index without a hit
    pub missed_next : (from i : ℕ) → NoHit P h table symbols from i → ((e : E) → IsHit P h table symbols i e → ⊥) → NoHit P h table symbols from (i + 1)
    missed_next from i missed none k e above below hit =
        below_more (λ j. (d : E) → from ≤ j → IsHit P h table symbols j d → ⊥) i (λ j under d over. missed j d over under) (λ d _. none d) k below e above hit

    -- a look-up doesn't continue from where it stops
    pub stop_passed : (i n : ℕ) (a : Result (Option (ℕ × E)) LinkError) → GnuStops P h table symbols i a n → IsThere table symbols i → (EndsRun table i → ⊥) → ((e : E) → IsHit P h table symbols i e → ⊥) → ⊥
    stop_passed i _ _ (found e hit) there on no_hit = no_hit e hit
    stop_passed i _ _ (ended there ends none) there' on no_hit = on ends
    stop_passed i _ _ (failed error lacks) there on no_hit = there_lacks i error there lacks

    -- a look-up has only one result where it stops
    pub stops_once : (i n m : ℕ) (a b : Result (Option (ℕ × E)) LinkError) → GnuStops P h table symbols i a n → GnuStops P h table symbols i b m → (a ≡ b) × (n ≡ m)
    stops_once i _ _ _ _ (found e hit) (found d hit') =
        let one : slice_get symbols i ≡ Some e = hit.symbol in
        let other : slice_get symbols i ≡ Some d = hit'.symbol in
        let same : e ≡ d = cc in
        (ap (λ x. Ok (Some (i, x))) same, refl)
    stops_once i _ _ _ _ (found e hit) (ended there ends none) = absurd (none e hit)
    stops_once i _ _ _ _ (found e hit) (failed error lacks) = absurd (there_lacks i error hit.there lacks)
    stops_once i _ _ _ _ (ended there ends none) (found e hit) = absurd (none e hit)
    stops_once i _ _ _ _ (ended there ends none) (ended there' ends' none') = (refl, refl)
    stops_once i _ _ _ _ (ended there ends none) (failed error lacks) = absurd (there_lacks i error there lacks)
    stops_once i _ _ _ _ (failed error lacks) (found e hit) = absurd (there_lacks i error hit.there lacks)
    stops_once i _ _ _ _ (failed error lacks) (ended there ends none) = absurd (there_lacks i error there lacks)
    stops_once i _ _ _ _ (failed error lacks) (failed error' lacks') = (ap (λ x. Err x) (lacks_once i error error' lacks lacks'), refl)

    -- a look-up from an index on has only one result
    pub looks_from_once : (from n m : ℕ) (a b : Result (Option (ℕ × E)) LinkError) → GnuLooksFrom P h table symbols from a n → GnuLooksFrom P h table symbols from b m → (a ≡ b) × (n ≡ m)
    looks_from_once from n m a b l k = go (cases_order l.last k.last)
      where
        go : (l.last ≡ k.last) ⊎ ((l.last < k.last) ⊎ (k.last < l.last)) → (a ≡ b) × (n ≡ m)
        go (inl same) =
            let both : (a ≡ b) × (l.here ≡ k.here) = stops_once k.last l.here k.here a b (subst (λ i. GnuStops P h table symbols i a l.here) same l.stop) k.stop in
            let heres : l.here ≡ k.here = both.1 in
            let one : n ≡ l.last - from + l.here = l.counted in
            let other : m ≡ k.last - from + k.here = k.counted in
            (both.0, cc)
        go (inr (inl before)) = absurd (stop_passed l.last l.here a l.stop (k.run.there l.last l.run.ordered before) (k.run.goes_on l.last l.run.ordered before) (λ e. k.missed l.last e l.run.ordered before))
        go (inr (inr behind)) = absurd (stop_passed k.last k.here b k.stop (l.run.there k.last k.run.ordered behind) (l.run.goes_on k.last k.run.ordered behind) (λ e. l.missed k.last e k.run.ordered behind))
