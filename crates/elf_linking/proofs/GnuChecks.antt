-- Which GNU hash tables pass their check.
use Rattle.std.proofs.Common.{◌≡◌, ◌≢◌, ◌<◌, ◌/◌, ℕ, ◌⊎◌, inl, inr, List, Some, None, Result, Err, slice_get, refl, ap, subst, arith}
use Rattle.std.proofs.lemmas.Bool.{cases_order}
use Rattle.std.specs.Prelude.{IsOk}
use Rattle.elf_linking.specs.GnuHash.{IsAtFault, IsBucketGood, IsCheck, IsExported, IsGnuGood, IsHeld, before_first, bucket_word, cut, faulty, good, missing}
use Rattle.elf_linking.specs.declared.error.LinkError.{LinkError}
use Rattle.elf_linking.specs.declared.gnu_hash.GnuHashTable.{GnuHashTable}
use Rattle.elf_linking.proofs.Runs.{cut_once, ends_cut}
use Rattle.xmas_elf.specs.Symbol.{Symbols}

module _ {E : Type 0} (table : GnuHashTable) (symbols : List E) where
  -- a good bucket is not at fault
  pub not_at_fault : (k : ℕ) (error : LinkError) → IsBucketGood table symbols k → IsAtFault table symbols k error → ⊥
  not_at_fault k _ (inl none) (before_first above early) = omega arith
  not_at_fault k _ (inl none) (cut error above begins c) = omega arith
  not_at_fault k _ (inr (begins, ends)) (before_first above early) = omega arith
  not_at_fault k _ (inr (begins, ends)) (cut error above begins' c) = ends_cut table symbols (bucket_word table k) error ends c

  -- a bucket has only one error
  pub fault_once : (k : ℕ) (one other : LinkError) → IsAtFault table symbols k one → IsAtFault table symbols k other → one ≡ other
  fault_once k _ _ (before_first above early) (before_first above' early') = refl
  fault_once k _ _ (before_first above early) (cut error above' begins c) = absurd (omega arith)
  fault_once k _ _ (cut error above begins c) (before_first above' early) = absurd (omega arith)
  fault_once k _ _ (cut one above begins c) (cut other above' begins' d) = cut_once table symbols (bucket_word table k) one other c d

module _ {E : Type 0} (table : GnuHashTable) (symbols : Symbols E) where
  -- the symbol at i is found, if it is exported
  abbrev pub Held : ℕ → Type 0
  Held i = (e : E) (name : List ℕ) → IsExported table symbols i e name → IsHeld table symbols.items name i

  pub held_absent : (i : ℕ) → slice_get symbols.items i ≡ None → Held i
  held_absent i absent e name exported = let there : slice_get symbols.items i ≡ Some e = exported.global.stands in absurd (cc)

  pub held_entry : (i : ℕ) (d : E) → slice_get symbols.items i ≡ Some d → ((name : List ℕ) → (symbols.fields d).info / 16 ≢ 0 → (symbols.fields d).shndx ≢ 0 → symbols.text d ≡ Some name → IsHeld table symbols.items name i) → Held i
  held_entry i d at reached e name exported =
      let there : slice_get symbols.items i ≡ Some e = exported.global.stands in
      let same : e ≡ d = cc in
      reached name (subst (λ x. (symbols.fields x).info / 16 ≢ 0) same exported.global.binding) (subst (λ x. (symbols.fields x).shndx ≢ 0) same exported.defined) (subst (λ x. symbols.text x ≡ Some name) same exported.global.named)

  -- the result of the check is Ok exactly for a good table
  pub ok_is_good : (r : Result (Unit {0}) LinkError) → IsCheck table symbols r → IsOk r → IsGnuGood table symbols
  ok_is_good _ (good h) ok = h
  ok_is_good _ (faulty k error below before fault) ok = absurd (cc)
  ok_is_good _ (missing i d name all exported lost) ok = absurd (cc)

  pub good_is_ok : (r : Result (Unit {0}) LinkError) → IsCheck table symbols r → IsGnuGood table symbols → IsOk r
  good_is_ok _ (good h) sound = refl
  good_is_ok _ (faulty k error below before fault) sound = absurd (not_at_fault table symbols.items k error (sound.buckets k below) fault)
  good_is_ok _ (missing i d name all exported lost) sound = absurd (lost (sound.holds i d name exported))

  -- the check has only one result
  pub check_once : (a b : Result (Unit {0}) LinkError) → IsCheck table symbols a → IsCheck table symbols b → a ≡ b
  check_once _ _ (good h) (good h') = refl
  check_once _ _ (good h) (faulty k error below before fault) = absurd (not_at_fault table symbols.items k error (h.buckets k below) fault)
  check_once _ _ (good h) (missing i d name all exported lost) = absurd (lost (h.holds i d name exported))
  check_once _ _ (faulty k error below before fault) (good h) = absurd (not_at_fault table symbols.items k error (h.buckets k below) fault)
  check_once _ _ (faulty k error below before fault) (missing i d name all exported lost) = absurd (not_at_fault table symbols.items k error (all k below) fault)
  check_once _ _ (faulty k error below before fault) (faulty k' error' below' before' fault') = ap (λ x. Err x) (least (cases_order k k'))
    where
      least : (k ≡ k') ⊎ ((k < k') ⊎ (k' < k)) → error ≡ error'
      least (inl same) = fault_once table symbols.items k' error error' (subst (λ x. IsAtFault table symbols.items x error) same fault) fault'
      least (inr (inl earlier)) = absurd (not_at_fault table symbols.items k error (before' k earlier) fault)
      least (inr (inr later)) = absurd (not_at_fault table symbols.items k' error' (before k' later) fault')
  check_once _ _ (missing i d name all exported lost) (good h) = absurd (lost (h.holds i d name exported))
  check_once _ _ (missing i d name all exported lost) (faulty k error below before fault) = absurd (not_at_fault table symbols.items k error (all k below) fault)
  check_once _ _ (missing i d name all exported lost) (missing i' d' name' all' exported' lost') = refl
