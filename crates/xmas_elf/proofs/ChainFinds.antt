-- In a good table a look-up has no error and finds what must be found.
use Rattle.std.proofs.lemmas.Bool.{cases_eq}
use Rattle.std.proofs.Common.{◌≡◌, ◌<◌, ◌%◌, ℕ, zero, suc, inl, inr, List, Option, Some, None, Result, Ok, Err, MatchResult, MatchOption, slice_get, refl, subst, arith, below_more}
use Rattle.elf_records.specs.HashNumber.{hash_number}
use Rattle.xmas_elf.specs.Prelude.{ElfError, HashTable}
use Rattle.xmas_elf.specs.HashTable.{Chains, Comes, Ends, EndsBelow, FindsAllWhere, IsAtFault, IsGood, Links, LooksFrom, MustBeFoundWhere, NoneBefore, Reaches, IsFoundAt, Stops, at_end, bucket_count_of, chains_of, endless, found, no_bucket, past_chains, past_symbols, reaches, failed, start_of}
use Rattle.xmas_elf.specs.Symbol.{Symbols}
use Rattle.xmas_elf.proofs.ChainPaths.{by_order, comes_in, comes_once, end_links, goes_on}
use Rattle.xmas_elf.proofs.ChainStarts.{start_none, start_some}

module _ {E : Type 0} (P : ℕ × E → Type 0) (chains : Chains E) where
  -- a traversal along a chain that ends comes to each other index before the end, and has a step from there
  pub goes : (first n v i : ℕ) → Comes chains first n 0 → Comes chains first v i → 0 < i → (v < n) × ((j : ℕ) × Links chains i j)
  goes first n v i end at above =
      by_order chains ((v < n) × ((j : ℕ) × Links chains i j)) v n
      (λ same. absurd (let zero_at : i ≡ 0 = comes_once chains first n i 0 (comes_in chains first v n i same at) end in omega arith))
      (λ earlier. (earlier, goes_on chains first n 0 v i end earlier at))
      (λ later. absurd (let (j, l) = goes_on chains first v i n 0 at later end in end_links chains 0 j refl l))

  -- if no stop is reached, no entry before has P
  none_all : (first : ℕ) → ((last m p : ℕ) (a : Result (Option (ℕ × E)) ElfError) → Comes chains first m last → NoneBefore P chains first m → Stops P chains last a p → ⊥) → (n : ℕ) → NoneBefore P chains first n
  none_all first never zero m below = absurd (omega arith)
  none_all first never (suc n) m below =
      below_more (λ k. (x : ℕ) (e : E) → Comes chains first k x → IsFoundAt chains x e → P (x, e) → ⊥) n (none_all first never n)
      (λ x e at stands holds. never x n 1 (Ok (Some (x, e))) at (none_all first never n) (found x e stands holds)) m (omega arith)

  -- a traversal along a chain that ends has no error: it finds an entry with P, or comes to the end
  ends_well : (N : Type 0) (first n : ℕ) (a : Result (Option (ℕ × E)) ElfError) → Reaches chains first 0 → ((m : ℕ) → Comes chains first m 0 → NoneBefore P chains first m → N) → LooksFrom P chains (Some (Ok first)) a n → MatchResult a (λ o. MatchOption o N (λ (p : ℕ × E). (0 < p.0) × (slice_get chains.symbols p.0 ≡ Some p.1) × P p)) (λ _. ⊥)
  ends_well N first _ _ end nothing (reaches _ _ n _ _ c none at_end) = nothing n c none
  ends_well N first _ _ (m, end) nothing (reaches _ _ n _ _ c none (past_chains i above past)) = let (before, (j, l)) = goes first m n i end c above in let h : i < chains.count = l.stands.below in absurd (omega arith)
  ends_well N first _ _ (m, end) nothing (reaches _ _ n _ _ c none (past_symbols i above within absent)) = let (before, (j, l)) = goes first m n i end c above in let h : slice_get chains.symbols i ≡ Some l.entry = l.stands.symbol in absurd (cc)
  ends_well N first _ _ end nothing (reaches _ _ n _ _ c none (found i e stands holds)) = (stands.not_end, stands.symbol, holds)
  ends_well N first _ _ (m, end) nothing (reaches _ _ n _ _ c none (failed i e error stands misses fails)) = let (before, (j, l)) = goes first m n i end c stands.not_end in let h : chains.chain i ≡ Ok j = l.next in absurd (cc)
  ends_well N first _ _ (n, end) nothing (endless _ _ never) = absurd (never 0 n 0 (Ok None) end (none_all first never n) at_end)

-- if the chains of all buckets end, the chain of a name ends
start_ends : {E : Type 0} (table : HashTable) (symbols : List E) (name : List ℕ) (b : Result ℕ ElfError) → EndsBelow table symbols (bucket_count_of table) → start_of table name ≡ Some b → (first : ℕ) × (b ≡ Ok first) × Reaches (chains_of table symbols) first 0
start_ends table symbols name b ends start = elim (cases_eq (bucket_count_of table) 0) [
  | inl none ↦ absurd (let e = start_none table name none in cc)
  | inr some ↦ (
      let at_bucket = start_some table name some in
      let (first, ok, end) = ends (hash_number name % bucket_count_of table) (omega arith) in
      (first, cc, end))
]

pub finds_all : {E : Type 0} (P : ℕ × E → Type 0) (table : HashTable) (symbols : Symbols E) (name : List ℕ) (s : Option (Result ℕ ElfError)) (a : Result (Option (ℕ × E)) ElfError) (n : ℕ) → start_of table name ≡ s → IsGood table symbols → LooksFrom P (chains_of table symbols.items) s a n → FindsAllWhere symbols name P a
finds_all P table symbols name _ _ _ start good no_bucket = λ (i, e, global, holds).
    let (first, start', r) = good.holds i e name global in cc
finds_all P table symbols name (Some b) a n start good looks =
    let (first, is, end) = start_ends table symbols.items name b good.ends start in
    ends_well P (chains_of table symbols.items) (¬ MustBeFoundWhere symbols name P) first n a end
    (λ m c none (i, e, global, holds).
    let (first', start', (v, at)) = good.holds i e name global in
    let same : first' ≡ first = cc in
    let here = subst (λ x. Comes (chains_of table symbols.items) x v i) same at in
    let (before, (j, l)) = goes P (chains_of table symbols.items) first m v i c here global.not_first in
    let entry : e ≡ l.entry = let there = global.stands in let symbol = l.stands.symbol in cc in
    none v before i l.entry here l.stands (subst (λ x. P (i, x)) entry holds))
    (rw is at looks)

pub not_at_fault : {E : Type 0} (table : HashTable) (symbols : List E) (k : ℕ) (error : ElfError) → Ends table symbols k → IsAtFault table symbols k error → ⊥
not_at_fault table symbols k error (first, is, end) (n, looks) =
    ends_well (λ _. ⊥) (chains_of table symbols) (Unit {0}) first n (Err error) end (λ m c none. tt) (rw is at looks)
