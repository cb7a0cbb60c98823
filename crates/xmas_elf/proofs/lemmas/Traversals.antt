-- A look-up has the error HashCycle exactly if its traversal reaches no stop, since no bucket or chain has that
-- error; and look-ups for two properties that are true together have the same results.
use Rattle.std.proofs.Common.{◌≡◌, ℕ, Bool, true, false, List, [], ◌∷◌, Option, Some, None, Result, Err, if◌then◌else◌, refl, sym, subst}
use Rattle.std.specs.List.{AllByRecursion}
use Rattle.elf_base.specs.FirstError.{unless}
use Rattle.elf_base.specs.declared.error.ElfError.TheVariants.{BucketIndex, ChainIndex, ChainSum, HashCycle, HashData}
use Rattle.xmas_elf.specs.Prelude.{ElfError, HashTable}
use Rattle.xmas_elf.specs.HashTable.{Chains, IsEndless, LooksFrom, NoneBefore, Stops, at_end, bad_bucket, bucket_of, chain_of, chains_of, endless, found, no_bucket, past_chains, past_symbols, reaches, failed, start_of}

rows_no_cycle : (rows : List (Bool × ElfError)) (v : ℕ) → AllByRecursion (λ row. row.1 ≡ HashCycle → ⊥) rows → unless rows v ≡ Err HashCycle → ⊥
rows_no_cycle [] v others e = cc
rows_no_cycle ((true, error) ∷ rows) v (other, others) e = other (cc)
rows_no_cycle ((false, error) ∷ rows) v (other, others) e = rows_no_cycle rows v others e

bucket_no_cycle : (table : HashTable) (i : ℕ) → bucket_of table i ≡ Err HashCycle → ⊥
unfolding bucket_of
bucket_no_cycle table i e = rows_no_cycle ((_, BucketIndex) ∷ (_, HashData) ∷ []) _ ((λ h. cc), ((λ h. cc), tt)) e

chain_no_cycle : (table : HashTable) (i : ℕ) → chain_of table i ≡ Err HashCycle → ⊥
unfolding chain_of
chain_no_cycle table i e = rows_no_cycle ((_, ChainIndex) ∷ (_, ChainSum) ∷ (_, HashData) ∷ []) _ ((λ h. cc), ((λ h. cc), ((λ h. cc), tt))) e

start_if : (b : Bool) (table : HashTable) (k : ℕ) → (if b then None else Some (bucket_of table k)) ≡ Some (Err HashCycle) → ⊥
start_if true table k e = cc
start_if false table k e = let same : bucket_of table k ≡ Err HashCycle = cc in bucket_no_cycle table k same

start_no_cycle : (table : HashTable) (name : List ℕ) → start_of table name ≡ Some (Err HashCycle) → ⊥
unfolding start_of
start_no_cycle table name e = start_if _ table _ e

stop_no_cycle : {E : Type 0} (P : ℕ × E → Type 0) (table : HashTable) (symbols : List E) (i n : ℕ) (a : Result (Option (ℕ × E)) ElfError) → Stops P (chains_of table symbols) i a n → a ≡ Err HashCycle → ⊥
stop_no_cycle P table symbols _ _ _ at_end e = cc
stop_no_cycle P table symbols _ _ _ (past_chains i h k) e = cc
stop_no_cycle P table symbols _ _ _ (past_symbols i h k l) e = cc
stop_no_cycle P table symbols _ _ _ (found i d stands holds) e = cc
stop_no_cycle P table symbols _ _ _ (failed i d error stands misses fails) e =
    let same : error ≡ HashCycle = cc in
    let at : chain_of table i ≡ Err HashCycle = cc in
    chain_no_cycle table i at

cycle_from : {E : Type 0} (P : ℕ × E → Type 0) (table : HashTable) (symbols : List E) (name : List ℕ) (s : Option (Result ℕ ElfError)) (a : Result (Option (ℕ × E)) ElfError) (n : ℕ) → start_of table name ≡ s → LooksFrom P (chains_of table symbols) s a n → a ≡ Err HashCycle → IsEndless P (chains_of table symbols) (start_of table name)
cycle_from P table symbols name _ _ _ start no_bucket e = absurd (cc)
cycle_from P table symbols name _ _ _ start (bad_bucket error) e =
    let same : error ≡ HashCycle = cc in
    let at : start_of table name ≡ Some (Err HashCycle) = cc in
    absurd (start_no_cycle table name at)
cycle_from P table symbols name _ _ _ start (reaches first last n more a c before s) e = absurd (stop_no_cycle P table symbols last more a s e)
cycle_from P table symbols name _ _ _ start (endless first n none) e = (first, start, none)

pub cycle_is_endless : {E : Type 0} (P : ℕ × E → Type 0) (table : HashTable) (symbols : List E) (name : List ℕ) (a : Result (Option (ℕ × E)) ElfError) (n : ℕ) → LooksFrom P (chains_of table symbols) (start_of table name) a n → a ≡ Err HashCycle → IsEndless P (chains_of table symbols) (start_of table name)
cycle_is_endless P table symbols name a n looks e = cycle_from P table symbols name _ a n refl looks e

pub endless_looks : {E : Type 0} (P : ℕ × E → Type 0) (table : HashTable) (symbols : List E) (name : List ℕ) → IsEndless P (chains_of table symbols) (start_of table name) → LooksFrom P (chains_of table symbols) (start_of table name) (Err HashCycle) 0
endless_looks P table symbols name (first, start, none) =
    subst (λ s. LooksFrom P (chains_of table symbols) s (Err HashCycle) 0) (sym start) (endless first 0 none)

-- P and Q are true together, at each index and symbol
module _ {E : Type 0} (P Q : ℕ × E → Type 0) (chains : Chains E) (to : (at : ℕ × E) → P at → Q at) (back : (at : ℕ × E) → Q at → P at) where
  none_alike : (first n : ℕ) → NoneBefore P chains first n → NoneBefore Q chains first n
  none_alike first n none m below i e at stands has = none m below i e at stands (back (i, e) has)

  stops_alike : (i n : ℕ) (a : Result (Option (ℕ × E)) ElfError) → Stops P chains i a n → Stops Q chains i a n
  stops_alike _ _ _ at_end = at_end
  stops_alike _ _ _ (past_chains i above past) = past_chains i above past
  stops_alike _ _ _ (past_symbols i above within absent) = past_symbols i above within absent
  stops_alike _ _ _ (found i e stands holds) = found i e stands (to (i, e) holds)
  stops_alike _ _ _ (failed i e error stands misses fails) = failed i e error stands (λ has. misses (back (i, e) has)) fails

-- a look-up for one of two such properties is a look-up for the other
pub looks_alike : {E : Type 0} (P Q : ℕ × E → Type 0) (chains : Chains E) → ((at : ℕ × E) → P at → Q at) → ((at : ℕ × E) → Q at → P at) → (s : Option (Result ℕ ElfError)) (a : Result (Option (ℕ × E)) ElfError) (n : ℕ) → LooksFrom P chains s a n → LooksFrom Q chains s a n
looks_alike P Q chains to back _ _ _ no_bucket = no_bucket
looks_alike P Q chains to back _ _ _ (bad_bucket error) = bad_bucket error
looks_alike P Q chains to back _ _ _ (reaches first last n more a c none s) =
    reaches first last n more a c (none_alike P Q chains to back first n none) (stops_alike P Q chains to back last more a s)
looks_alike P Q chains to back _ _ _ (endless first n never) =
    endless first n (λ last m more a c none s. never last m more a c (none_alike Q P chains back to first m none) (stops_alike Q P chains back to last more a s))
