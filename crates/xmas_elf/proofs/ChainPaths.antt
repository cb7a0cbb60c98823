-- Traversals along the chains of a hash table: each step is determined, a traversal that reaches a stop passes no index
-- twice, and the result of the code's traversal is that of a look-up.
use Rattle.std.proofs.Common.{◌≡◌, ◌<◌, ◌≤◌, ◌↔◌, ℕ, zero, suc, ◌+◌, Option, Some, None, Result, Ok, Err, Bool, IsTrue, true, false, length, refl, sym, subst, arith, slice_get, ◌⊎◌, inl, inr, Contains}
use Rattle.std.proofs.lemmas.Bool.{cases_order}
use Rattle.std.proofs.lemmas.Option.{slice_get_within, get_or_from_slice_get}
use Rattle.std.proofs.lemmas.Map.Steps.{length-le_from_distinct_below}
use Rattle.std.specs.Int.{from_bool}
use Rattle.std.specs.Prelude.{IsOk}
use Rattle.elf_base.specs.declared.error.ElfError.TheVariants.{ChainIndex, SymbolIndex}
use Rattle.xmas_elf.specs.Prelude.{ElfError}
use Rattle.xmas_elf.specs.HashTable.{Chains, IsFoundAt, Stops, at_end, past_chains, past_symbols, found, failed, Links, Comes, starts, goes, NoneBefore, LooksFrom, Reaches, reaches, endless, Halts, no_chain, no_symbol, too_many, Followed, FollowsChain, ends, stops, halts, breaks}
use Rattle.xmas_elf.specs.Counted.{IsCount}
use Rattle.xmas_elf.proofs.SymbolCounts.{count_more, count_none, count_same}

-- the count with one number more, if it has the property
pub count_next : (Q R : ℕ → Type 0) (n x more : ℕ) (b : Bool) → more ≡ from_bool b → IsTrue b ↔ R x → (Q x → ⊥) → ((i : ℕ) → Q i → R i) → ((i : ℕ) → R i → (i ≡ x) ⊎ Q i) → IsCount Q n → IsCount R (n + more)
count_next Q R n x more true is said new to from count = rw is (count_more Q R n x new (said.0 refl) to from count)
count_next Q R n x more false is said new to from count =
    let same : n ≡ n + more = omega (arith, is) in
    subst (IsCount R) same (count_same Q R n to (λ i r. elim (from i r) [ inl here ↦ absurd (let yes = said.1 (subst R here r) in cc) | inr q ↦ q ]) count)

-- the number of numbers with a property is at most a bound of those numbers
count_bound : (Q : ℕ → Type 0) (n bound : ℕ) → ((i : ℕ) → Q i → i < bound) → IsCount Q n → n ≤ bound
count_bound Q n bound below count =
    let few : length count.list ≤ bound = length-le_from_distinct_below count.list bound count.once (λ q h. below q ((count.each q).0 h)) in
    omega (arith, count.many)

module _ {E : Type 0} (chains : Chains E) where
  link_once : (i j k : ℕ) → Links chains i j → Links chains i k → j ≡ k
  link_once i j k a b = cc

  -- only one entry is at an index
  stand_once : (i : ℕ) (d e : E) → IsFoundAt chains i d → IsFoundAt chains i e → d ≡ e
  stand_once i d e a b = cc

  -- the entry at an index is one of the symbols
  pub contains_at : (i : ℕ) (e : E) → IsFoundAt chains i e → Contains chains.symbols e
  contains_at i e stands =
      (i, slice_get_within chains.symbols i e stands.symbol, get_or_from_slice_get chains.symbols i e e stands.symbol)

  -- there is no step from the end
  pub end_links : (i j : ℕ) → i ≡ 0 → Links chains i j → ⊥
  end_links i j end l = let some : 0 < i = l.stands.not_end in omega arith

  -- a traversal comes to only one index in a number of steps
  pub comes_once : (first n i j : ℕ) → Comes chains first n i → Comes chains first n j → i ≡ j
  comes_once first _ _ _ starts starts = refl
  comes_once first _ _ _ (goes n i j c l) (goes _ i' j' c' l') =
      link_once i j j' l (subst (λ x. Links chains x j') (sym (comes_once first n i i' c c')) l')

  pub comes_in : (first n m i : ℕ) → n ≡ m → Comes chains first n i → Comes chains first m i
  comes_in first n m i same c = subst (λ k. Comes chains first k i) same c

  pub comes_next : (first n i j : ℕ) → Comes chains first n i → Links chains i j → Comes chains first (n + 1) j
  comes_next first n i j c l = comes_in first (suc n) (n + 1) j (omega arith) (goes n i j c l)

  -- a traversal comes to the same index in the same number of steps
  pub comes_same : (first n m i j : ℕ) → n ≡ m → Comes chains first n i → Comes chains first m j → i ≡ j
  comes_same first n m i j same c c' = comes_once first m i j (comes_in first n m i same c) c'

  -- the three cases of two numbers
  pub by_order : (R : Type 0) (n m : ℕ) → (n ≡ m → R) → (n < m → R) → (m < n → R) → R
  by_order R n m same below above = elim (cases_order n m) [ inl e ↦ same e | inr h ↦ elim h [ inl l ↦ below l | inr g ↦ above g ] ]

  -- there is a step from each index that a traversal passes
  pub goes_on : (first m last n i : ℕ) → Comes chains first m last → n < m → Comes chains first n i → (j : ℕ) × Links chains i j
  goes_on first _ _ n i starts below at = absurd (omega arith)
  goes_on first _ _ n i (goes m k j c l) below at =
      by_order ((x : ℕ) × Links chains i x) n m
      (λ same. (j, subst (λ x. Links chains x j) (sym (comes_same first n m i k same at c)) l))
      (λ earlier. goes_on first m k n i c earlier at)
      (λ later. absurd (omega arith))

  -- a traversal that comes to an index later comes to it from each index before
  goes_ahead : (first m last n x : ℕ) → Comes chains first m last → n ≤ m → Comes chains first n x → (t : ℕ) × (n + t ≡ m) × Comes chains x t last
  goes_ahead first _ _ n x starts below at =
      let none : n ≡ 0 = omega arith in
      (0, omega arith, subst (λ z. Comes chains z zero first) (sym (comes_same first n zero x first none at starts)) starts)
  goes_ahead first _ _ n x (goes m k j c l) below at =
      by_order ((t : ℕ) × (n + t ≡ suc m) × Comes chains x t j) n (suc m)
      (λ same. (0, omega arith, subst (λ z. Comes chains z zero j) (sym (comes_same first n (suc m) x j same at (goes m k j c l))) starts))
      (λ earlier. (let (t, sum, ahead) = goes_ahead first m k n x c (omega arith) at in (suc t, omega (arith, sum), goes t k j ahead l)))
      (λ later. absurd (omega arith))

  goes_along : (first n x t y : ℕ) → Comes chains first n x → Comes chains x t y → Comes chains first (n + t) y
  goes_along first n x _ _ at starts = comes_in first n (n + zero) x (omega arith) at
  goes_along first n x _ _ at (goes t k j c l) =
      comes_in first (suc (n + t)) (n + suc t) j (omega arith) (goes (n + t) k j (goes_along first n x t k at c) l)

  pub reaches_along : (i j k : ℕ) → Reaches chains i j → Reaches chains j k → Reaches chains i k
  reaches_along i j k (n, at) (m, on) = (n + m, goes_along i n j m k at on)

  -- a traversal that ends goes on from the next index to the end
  pub ends_next : (i j : ℕ) → 0 < i → chains.chain i ≡ Ok j → Reaches chains i 0 → Reaches chains j 0
  ends_next i j some next (zero, c) = absurd (let end : i ≡ 0 = comes_once i zero i 0 starts c in omega arith)
  ends_next i j some next (suc m, c) =
      let (k, l) = goes_on i (suc m) 0 zero i c (omega arith) starts in
      let (t, sum, ahead) = goes_ahead i (suc m) 0 (suc zero) k c (omega arith) (goes zero i k starts l) in
      let same : k ≡ j = cc in
      (t, subst (λ z. Comes chains z t 0) same ahead)

  pub first_ends : (i : ℕ) → i < 1 → Reaches chains i 0
  first_ends i below = let end : 0 ≡ i = omega arith in subst (λ x. Reaches chains x 0) end (zero, starts)

  -- no index before step n is passed twice
  abbrev pub Apart : ℕ → ℕ → Type 0
  Apart first n = (a b x : ℕ) → a < b → b < n → Comes chains first a x → Comes chains first b x → ⊥

  -- if a traversal comes to an index that it has not passed, it has passed none twice
  pub apart_before : (first m last n : ℕ) → Comes chains first m last → ((k : ℕ) → k < m → Comes chains first k last → ⊥) → n ≤ m + 1 → Apart first n
  apart_before first m last n c new within a b x earlier below at again =
      let (t, sum, ahead) = goes_ahead first m last b x c (omega arith) again in
      new (a + t) (omega (arith, sum)) (goes_along first a x t last at ahead)

module _ {E : Type 0} (chains : Chains E) (Q : ℕ → Type 0) where
  -- index x has Q, and a traversal passes it in n steps
  abbrev pub Passes : ℕ → ℕ → ℕ → Type 0
  Passes first n x = Q x × ((m : ℕ) × (m < n) × Comes chains first m x)

  -- the number of indices with Q that a traversal passes in n steps, if it passes none twice
  abbrev pub Picked : ℕ → ℕ → ℕ → Type 0
  Picked first n many = Apart chains first n → IsCount (Passes first n) many

  pub picked_first : (first : ℕ) → Picked first 0 0
  picked_first first = λ _. count_none (Passes first 0) (λ x (q, (m, below, at)). omega arith)

  pub picked_next : (first n i many more : ℕ) (b : Bool) → more ≡ from_bool b → IsTrue b ↔ Q i → Comes chains first n i → Picked first n many → Picked first (n + 1) (many + more)
  picked_next first n i many more b is said c p = λ apart.
      count_next (Passes first n) (Passes first (n + 1)) many i more b is
      (λ yes. (said.0 yes, (n, omega arith, c)), λ r. said.1 r.0)
      (λ (q, (m, below, at)). apart m n i below (omega arith) at c)
      (λ x (q, (m, below, at)). (q, (m, omega arith, at)))
      (λ x (q, (m, below, at)). by_order chains ((x ≡ i) ⊎ Passes first n x) m n (λ same. inl (comes_same chains first m n x i same at c)) (λ earlier. inr (q, (m, earlier, at))) (λ later. absurd (omega arith)))
      (p (λ a b x before below. apart a b x before (omega arith)))

-- a traversal passes as many indices as it takes steps
passes_all : {E : Type 0} (chains : Chains E) (first n i : ℕ) → Comes chains first n i → Picked chains (λ _. IsTrue true) first n n
passes_all chains first _ _ starts = picked_first chains (λ _. IsTrue true) first
passes_all chains first _ _ (goes n i j c l) =
    let one : n + 1 ≡ suc n = omega arith in
    subst (λ k. Picked chains (λ _. IsTrue true) first k k) one (picked_next chains (λ _. IsTrue true) first n i n 1 true refl (λ h. h, λ h. h) c (passes_all chains first n i c))

module _ {E : Type 0} (P : ℕ × E → Type 0) (chains : Chains E) where
  -- there is no step from an index where the traversal stops
  pub stop_or_link : (i j n : ℕ) (a : Result (Option (ℕ × E)) ElfError) → Stops P chains i a n → Links chains i j → ((e : E) → IsFoundAt chains i e → P (i, e) → ⊥) → ⊥
  stop_or_link _ j _ _ at_end l none = end_links chains 0 j refl l
  stop_or_link _ j _ _ (past_chains i above past) l none = let h : i < chains.count = l.stands.below in omega arith
  stop_or_link _ j _ _ (past_symbols i above within absent) l none = let h : slice_get chains.symbols i ≡ Some l.entry = l.stands.symbol in cc
  stop_or_link _ j _ _ (found i e stands holds) l none = none e stands holds
  stop_or_link _ j _ _ (failed i e error stands misses fails) l none = let h : chains.chain i ≡ Ok j = l.next in cc

  -- a traversal that has passed as many entries as there are, and is at another one, reaches no stop
  too_long : (bound first n i : ℕ) (e : E) (last m p : ℕ) (a : Result (Option (ℕ × E)) ElfError) → ((q : ℕ) (d : E) → IsFoundAt chains q d → q < bound) → Comes chains first n i → NoneBefore P chains first n → IsFoundAt chains i e → bound ≤ n → Comes chains first m last → NoneBefore P chains first m → Stops P chains last a p → ⊥
  too_long bound first n i e last m p a within c none stands long c' none' s =
      by_order chains ⊥ m n
      (λ same. ends (omega arith))
      (λ earlier. (let (j, l) = goes_on chains first n i m last c earlier c' in stop_or_link last j p a s l (λ d at. none m earlier last d c' at)))
      (λ later. ends (omega arith))
    where
      ends : n ≤ m → ⊥
      ends reached =
          let new : (k : ℕ) → k < m → Comes chains first k last → ⊥ = λ k below at. (let (j, l) = goes_on chains first m last k last c' below at in stop_or_link last j p a s l (λ d stands. none' k below last d at stands)) in
          let count = picked_next chains (λ _. IsTrue true) first n i n 1 true refl (λ h. h, λ h. h) c (passes_all chains first n i c) (apart_before chains first m last (n + 1) c' new (omega arith)) in
          let few : n + 1 ≤ bound = count_bound (Passes chains (λ _. IsTrue true) first (n + 1)) (n + 1) bound (λ x (_, (k, below, at)). by_order chains (x < bound) k n
          (λ same. subst (λ z. z < bound) (comes_same chains first n k i x (sym same) c at) (within i e stands))
          (λ earlier. (let (j, l) = goes_on chains first n i k x c earlier at in within x l.entry l.stands))
          (λ later. absurd (omega arith))) count in
          omega arith

  -- the result of a traversal that stops
  pub looks : (first i n m k : ℕ) (a : Result (Option (ℕ × E)) ElfError) → Comes chains first n i → NoneBefore P chains first n → Stops P chains i a m → n + m ≡ k → LooksFrom P chains (Some (Ok first)) a k
  looks first i n m k a c none s sum = subst (λ c. LooksFrom P chains (Some (Ok first)) a c) sum (reaches first i n m a c none s)

  pub looks_halted : (first i n : ℕ) (error : ElfError) → Comes chains first n i → NoneBefore P chains first n → 0 < i → Halts chains n i error → LooksFrom P chains (Some (Ok first)) (Err error) n
  looks_halted first i n _ c none above (no_chain past) = looks first i n 0 n (Err ChainIndex) c none (past_chains i above past) (omega arith)
  looks_halted first i n _ c none above (no_symbol within absent) = looks first i n 0 n (Err SymbolIndex) c none (past_symbols i above within absent) (omega arith)
  looks_halted first i n _ c none above (too_many e stands (inl many)) =
      endless first n (λ last m p a c' none' s. too_long chains.count first n i e last m p a (λ q d at. at.below) c none stands many c' none' s)
  looks_halted first i n _ c none above (too_many e stands (inr many)) =
      endless first n (λ last m p a c' none' s. too_long (length chains.symbols) first n i e last m p a (λ q d at. slice_get_within chains.symbols q d at.symbol) c none stands many c' none' s)

module _ {E : Type 0} (Over : ℕ × E → Type 0) (chains : Chains E) where
  pub followed_first : (first : ℕ) → Followed Over chains first 0 first
  followed_first first = record { comes = starts; over = λ m x e below. absurd (omega arith) }

  pub followed_next : (first n i j : ℕ) → Followed Over chains first n i → (l : Links chains i j) → Over (i, l.entry) → Followed Over chains first (n + 1) j
  followed_next first n i j w l passed = record {
    comes = comes_next chains first n i j w.comes l;
    over = λ m x e below at stands. by_order chains (Over (x, e)) m n
        (λ same. (
        let here : x ≡ i = comes_same chains first m n x i same at w.comes in
        let entry : e ≡ l.entry = stand_once chains i e l.entry (subst (λ z. IsFoundAt chains z e) here stands) l.stands in
        let pair : (i, l.entry) ≡ (x, e) = cc in
        subst Over pair passed))
        (λ earlier. w.over m x e earlier at stands)
        (λ later. absurd (omega arith));
  }

module _ {E : Type 0} (Stop Over : ℕ × E → Type 0) (chains : Chains E) (first : ℕ) where
  none_over : (P : ℕ × E → Type 0) (n i : ℕ) → ((i : ℕ) (e : E) → IsFoundAt chains i e → Over (i, e) → P (i, e) → ⊥) → Followed Over chains first n i → NoneBefore P chains first n
  none_over P n i lacks w m below x e at stands = lacks x e stands (w.over m x e below at stands)

  -- a traversal that stops at symbols with P, and passes others, has the result of a look-up for P
  pub chain_looks : (P : ℕ × E → Type 0) (n : ℕ) (a : Result (Option (ℕ × E)) ElfError) → FollowsChain Stop Over chains first a n → ((i : ℕ) (e : E) → a ≡ Ok (Some (i, e)) → Stop (i, e) → P (i, e)) → ((i : ℕ) (e : E) → IsFoundAt chains i e → Over (i, e) → P (i, e) → ⊥) → LooksFrom P chains (Some (Ok first)) a n
  chain_looks P _ _ (ends n w) has lacks = looks P chains first 0 n 0 n (Ok None) w.comes (none_over P n 0 lacks w) at_end (omega arith)
  chain_looks P _ _ (stops n i e w stands stop) has lacks = looks P chains first i n 1 (n + 1) (Ok (Some (i, e))) w.comes (none_over P n i lacks w) (found i e stands (has i e refl stop)) refl
  chain_looks P _ _ (halts n i error w above halt) has lacks = looks_halted P chains first i n error w.comes (none_over P n i lacks w) above halt
  chain_looks P _ _ (breaks n i e error w stands over fails) has lacks = looks P chains first i n 1 (n + 1) (Err error) w.comes (none_over P n i lacks w) (failed i e error stands (lacks i e stands over) fails) refl

  -- a traversal with an error has that error whatever it looks for
  pub chain_error : (n : ℕ) (error : ElfError) → FollowsChain Stop Over chains first (Err error) n → LooksFrom (λ _. ⊥) chains (Some (Ok first)) (Err error) n
  chain_error n error follow_chain = chain_looks (λ _. ⊥) n (Err error) follow_chain (λ i e is stop. cc) (λ i e stands over none. none)

  -- if a traversal has no error and stops only where a traversal ends, it ends
  pub chain_ends : (n : ℕ) (a : Result (Option (ℕ × E)) ElfError) → FollowsChain Stop Over chains first a n → IsOk a → ((i : ℕ) (e : E) → Stop (i, e) → Reaches chains i 0) → Reaches chains first 0
  chain_ends _ _ (ends n w) ok each = (n, w.comes)
  chain_ends _ _ (stops n i e w stands stop) ok each = reaches_along chains first i 0 (n, w.comes) (each i e stop)
  chain_ends _ _ (halts n i error w above halt) ok each = absurd (cc)
  chain_ends _ _ (breaks n i e error w stands over fails) ok each = absurd (cc)
