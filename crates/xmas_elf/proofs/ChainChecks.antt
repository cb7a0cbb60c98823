-- Which hash tables pass their check.
use Rattle.std.proofs.Common.{◌≡◌, ◌<◌, ◌%◌, ◌↔◌, ℕ, ◌⊎◌, inl, inr, List, Some, Result, Ok, Err, slice_get, refl, sym, ap, subst, arith}
use Rattle.std.proofs.lemmas.Bool.{cases_order}
use Rattle.std.specs.Prelude.{◌≢◌, IsOk, IsTrue, Option, is_some}
use Rattle.elf_records.specs.HashNumber.{hash_number}
use Rattle.elf_base.specs.declared.error.ElfError.TheVariants.{HashMissing}
use Rattle.xmas_elf.specs.Prelude.{ElfError, HashTable}
use Rattle.xmas_elf.specs.HashTable.{Comes, EndsBelow, Held, IsAtFault, IsCheck, IsGood, IsReached, LooksFrom, Reaches, FollowsChain, bad_bucket, bucket_count_of, bucket_of, chains_of, ends, faulty, good, missing, start_of, stops}
use Rattle.xmas_elf.specs.Symbol.{IsGlobal, Symbols}
use Rattle.xmas_elf.proofs.ChainFinds.{goes, not_at_fault}
use Rattle.xmas_elf.proofs.lemmas.ChainOnce.{looks_once}
use Rattle.xmas_elf.proofs.ChainStarts.{start_at}

module _ {E : Type 0} (table : HashTable) (symbols : List E) where
  -- whether a traversal from the bucket of a name finds an index is whether the index is in the chain of the name
  pub chain_reaches : (Stop Over : ℕ × E → Type 0) (name : List ℕ) (i first n : ℕ) (o : Option (ℕ × E)) → FollowsChain Stop Over (chains_of table symbols) first (Ok o) n → ((x : ℕ) (e : E) → Stop (x, e) → x ≡ i) → ((x : ℕ) (e : E) → Over (x, e) → x ≢ i) → 0 < i → start_of table name ≡ Some (Ok first) → IsTrue (is_some o) ↔ IsReached table symbols name i
  chain_reaches Stop Over name i first _ _ (stops n x e w stands stop) is other above start =
      (λ _. (first, start, subst (λ z. Reaches (chains_of table symbols) first z) (is x e stop) (n, w.comes)), λ _. refl)
  chain_reaches Stop Over name i first _ _ (ends n w) is other above start = (
    λ yes. absurd (cc),
    λ (first', start', (m, on)). absurd (
        let chains = chains_of table symbols in
        let same : first' ≡ first = cc in
        let at : Comes chains first m i = subst (λ z. Comes chains z m i) same on in
        let (before, (j, l)) = goes (λ _. ⊥) chains first n m i w.comes at above in
        other i l.entry (w.over m i l.entry before at l.stands) refl),
  )

  -- if all chains end, a traversal along the chain of a name has no error
  pub without_error : (name : List ℕ) (first n : ℕ) (error : ElfError) → EndsBelow table symbols (bucket_count_of table) → start_of table name ≡ Some (Ok first) → LooksFrom (λ (at : ℕ × E). ⊥) (chains_of table symbols) (Some (Ok first)) (Err error) n → ⊥
  without_error name first n error each start looks =
      let (some, at) = start_at table name (Ok first) start in
      not_at_fault table symbols _ error (each (hash_number name % bucket_count_of table) (omega arith)) (n, rw at looks)

  pub bad_at_fault : (k : ℕ) (error : ElfError) → bucket_of table k ≡ Err error → IsAtFault table symbols k error
  bad_at_fault k error at = (0, rw at (bad_bucket error))

module _ {E : Type 0} (table : HashTable) (symbols : Symbols E) where
  pub held_first : (i : ℕ) → i < 1 → Held table symbols i
  held_first i below e name global = absurd (let above : 0 < i = global.not_first in omega arith)

  -- a symbol has one name
  pub named_once : (i : ℕ) (d e : E) (name other : List ℕ) → IsGlobal symbols i d name → IsGlobal symbols i e other → name ≡ other
  named_once i d e name other a b =
      let there : slice_get symbols.items i ≡ Some d = a.stands in
      let there' : slice_get symbols.items i ≡ Some e = b.stands in
      let named : symbols.text d ≡ Some name = a.named in
      let named' : symbols.text e ≡ Some other = b.named in
      let same : d ≡ e = cc in
      cc

  pub held_named : (i : ℕ) (d : E) (name : List ℕ) → IsGlobal symbols i d name → IsReached table symbols.items name i → Held table symbols i
  held_named i d name global reached e other global' = subst (λ n. IsReached table symbols.items n i) (named_once i d e name other global global') reached

  good_is : (r : Result (Unit {0}) ElfError) → IsCheck table symbols r → IsGood table symbols → Ok tt ≡ r
  good_is _ (good h) sound = refl
  good_is _ (faulty k error below before fault) sound = absurd (not_at_fault table symbols.items k error (sound.ends k below) fault)
  good_is _ (missing i d name all global lost) sound = absurd (lost (sound.holds i d name global))

  -- the result of the check is Ok exactly for a good table
  pub ok_is_good : (r : Result (Unit {0}) ElfError) → IsCheck table symbols r → IsOk r ↔ IsGood table symbols
  ok_is_good _ (good h) = (λ _. h, λ _. refl)
  ok_is_good _ (faulty k error below before fault) = (λ ok. absurd (cc), λ h. absurd (let same = good_is _ (faulty k error below before fault) h in cc))
  ok_is_good _ (missing i d name all global lost) = (λ ok. absurd (cc), λ h. absurd (let same = good_is _ (missing i d name all global lost) h in cc))

  -- a bucket has only one error
  fault_once : (k : ℕ) (error error' : ElfError) → IsAtFault table symbols.items k error → IsAtFault table symbols.items k error' → error ≡ error'
  fault_once k error error' (n, looks) (m, looks') =
      let both : Err error ≡ Err error' = (looks_once _ (chains_of table symbols.items) _ (Err error) (Err error') n m looks looks').0 in cc

  -- the check has only one result
  pub check_once : (a b : Result (Unit {0}) ElfError) → IsCheck table symbols a → IsCheck table symbols b → a ≡ b
  check_once _ b (good h) other = good_is b other h
  check_once _ _ (faulty k error below before fault) (good h) = sym (good_is (Err error) (faulty k error below before fault) h)
  check_once _ _ (faulty k error below before fault) (missing i d name all global lost) = absurd (not_at_fault table symbols.items k error (all k below) fault)
  check_once _ _ (faulty k error below before fault) (faulty k' error' below' before' fault') = ap (λ x. Err x) (least (cases_order k k'))
    where
      least : (k ≡ k') ⊎ ((k < k') ⊎ (k' < k)) → error ≡ error'
      least (inl same) = fault_once k' error error' (subst (λ x. IsAtFault table symbols.items x error) same fault) fault'
      least (inr (inl earlier)) = absurd (not_at_fault table symbols.items k error (before' k earlier) fault)
      least (inr (inr later)) = absurd (not_at_fault table symbols.items k' error' (before k' later) fault')
  check_once _ _ (missing i d name all global lost) (good h) = sym (good_is (Err HashMissing) (missing i d name all global lost) h)
  check_once _ _ (missing i d name all global lost) (faulty k error below before fault) = absurd (not_at_fault table symbols.items k error (all k below) fault)
  check_once _ _ (missing i d name all global lost) (missing i' d' name' all' global' lost') = refl
