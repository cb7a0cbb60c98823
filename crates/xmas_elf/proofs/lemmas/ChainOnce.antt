-- A look-up has one result, and one number of compared symbols unless its chain never ends.
use Rattle.std.proofs.Common.{◌≡◌, ◌≢◌, ◌<◌, ◌≤◌, ℕ, Option, Some, None, Result, Ok, Err, slice_get, ◌⊎◌, inl, inr, refl, subst, arith}
use Rattle.elf_base.specs.declared.error.ElfError.TheVariants.{ChainIndex, HashCycle, SymbolIndex}
use Rattle.xmas_elf.specs.Prelude.{ElfError}
use Rattle.xmas_elf.specs.HashTable.{Chains, IsFoundAt, Stops, at_end, past_chains, past_symbols, found, failed, Comes, NoneBefore, LooksFrom, no_bucket, bad_bucket, reaches, endless}
use Rattle.xmas_elf.proofs.ChainPaths.{by_order, comes_in, comes_once, goes_on, stop_or_link}

module _ {E : Type 0} (P : ℕ × E → Type 0) (chains : Chains E) where
  -- two results are equal, and so are their numbers of compared symbols
  abbrev Both : Result (Option (ℕ × E)) ElfError → ℕ → Result (Option (ℕ × E)) ElfError → ℕ → Type 0
  Both a n b m = (a ≡ b) × (n ≡ m)

  -- a stop, by the symbol at its index
  abbrev Told : ℕ → Result (Option (ℕ × E)) ElfError → ℕ → Type 0
  Told i a n = ((i ≡ 0) × Both a n (Ok None) 0)
      ⊎ (((0 < i) × (chains.count ≤ i) × Both a n (Err ChainIndex) 0)
      ⊎ (((0 < i) × (i < chains.count) × (slice_get chains.symbols i ≡ None) × Both a n (Err SymbolIndex) 0)
      ⊎ (((e : E) × IsFoundAt chains i e × P (i, e) × Both a n (Ok (Some (i, e))) 1)
      ⊎ ((e : E) × (error : ElfError) × IsFoundAt chains i e × (P (i, e) → ⊥) × (chains.chain i ≡ Err error) × Both a n (Err error) 1))))

  told : (i n : ℕ) (a : Result (Option (ℕ × E)) ElfError) → Stops P chains i a n → Told i a n
  told _ _ _ at_end = inl (refl, (refl, refl))
  told _ _ _ (past_chains i above past) = inr (inl (above, past, (refl, refl)))
  told _ _ _ (past_symbols i above within absent) = inr (inr (inl (above, within, absent, (refl, refl))))
  told _ _ _ (found i e stands holds) = inr (inr (inr (inl (e, stands, holds, (refl, refl)))))
  told _ _ _ (failed i e error stands misses fails) = inr (inr (inr (inr (e, error, stands, misses, fails, (refl, refl)))))

  -- a stop at an index has only one result
  answer_once : (i n m : ℕ) (a b : Result (Option (ℕ × E)) ElfError) → Stops P chains i a n → Stops P chains i b m → Both a n b m
  answer_once i n m a b s t = let one = told i n a s in let other = told i m b t in grind arith

  -- the first stop is reached in one number of steps
  steps_once : (first n k p m l q : ℕ) (a b : Result (Option (ℕ × E)) ElfError) → Comes chains first n k → NoneBefore P chains first n → Stops P chains k a p → Comes chains first m l → NoneBefore P chains first m → Stops P chains l b q → n ≡ m
  steps_once first n k p m l q a b c none s c' none' s' =
      by_order chains (n ≡ m) n m
      (λ same. same)
      (λ earlier. absurd (let (j, link) = goes_on chains first m l n k c' earlier c in stop_or_link P chains k j p a s link (λ e stands. none' n earlier k e c stands)))
      (λ later. absurd (let (j, link) = goes_on chains first n k m l c later c' in stop_or_link P chains l j q b s' link (λ e stands. none m later l e c' stands)))

  pub looks_once : (s : Option (Result ℕ ElfError)) (a b : Result (Option (ℕ × E)) ElfError) (n m : ℕ) → LooksFrom P chains s a n → LooksFrom P chains s b m → (a ≡ b) × (a ≢ Err HashCycle → n ≡ m)
  looks_once _ _ _ _ _ no_bucket no_bucket = (refl, λ _. refl)
  looks_once _ _ _ _ _ (bad_bucket error) (bad_bucket _) = (refl, λ _. refl)
  looks_once _ _ _ _ _ (reaches first k n p a c none s) (reaches _ l m q b c' none' s') =
      let steps : n ≡ m = steps_once first n k p m l q a b c none s c' none' s' in
      let last : k ≡ l = comes_once chains first m k l (comes_in chains first n m k steps c) c' in
      let both : Both a p b q = answer_once l p q a b (subst (λ x. Stops P chains x a p) last s) s' in
      (both.0, λ _. (let more : p ≡ q = both.1 in omega arith))
  looks_once _ _ _ _ _ (reaches first k n p a c none s) (endless _ m never) = absurd (never k n p a c none s)
  looks_once _ _ _ _ _ (endless first n never) (reaches _ l m q b c none s) = absurd (never l m q b c none s)
  looks_once _ _ _ _ _ (endless first n never) (endless _ m never') = (refl, λ other. absurd (other refl))
