-- A file has only one report: the verdict on its hash table is unique.
use mathlib.Core.Path.{fun_ext}
use Rattle.std.proofs.Common.{◌≡◌, ◌<◌, ◌⊎◌, inl, inr, Some, None, Result, Ok, Err, refl, sym, ap, ◌∙◌, subst, arith}
use Rattle.std.proofs.lemmas.Bool.{cases_order}
use Rattle.xmas_elf.specs.Prelude.{ElfError, ElfFile, HashTable, SectionHeader}
use Rattle.xmas_elf.specs.Content.{Content, table_of, symbols_32, symbols_64, dyn_symbols_32, dyn_symbols_64}
use Rattle.xmas_elf.specs.HashTable.{IsCheck, bucket_of, chain_of, faulty, good, hash_data, hash_order, missing, start_of}
use Rattle.xmas_elf.specs.ReportHash.{FindsHash, IsHashVerdict, IsLinkedVerdict, IsVerdictOf, content_at, linked, none, failed}
use Rattle.xmas_elf.specs.SectionHeader.{section_fields, section_type}
use Rattle.xmas_elf.specs.Symbol.{Symbols}
use Rattle.xmas_elf.specs.Symbols.{dyn_symbols_in_32, dyn_symbols_in_64, symbols_in_32, symbols_in_64}
use Rattle.xmas_elf.specs.declared.report.hash.HashVerdict.{HashVerdict}
use Rattle.xmas_elf.specs.declared.report.hash.HashVerdict.TheVariants.{Checked}
use Rattle.xmas_elf.proofs.ChainChecks.{check_once}

first_once : (file : ElfFile) (a b : SectionHeader) → FindsHash file (Some a) → FindsHash file (Some b) → a ≡ b
first_once file a b (ta, (i, lowi, hi, ni)) (tb, (j, lowj, hj, nj)) = go (cases_order i j)
  where
    go : (i ≡ j) ⊎ ((i < j) ⊎ (j < i)) → a ≡ b
    go (inl same) = let x = hi a in let y = hj a in cc
    go (inr (inl earlier)) = absurd (nj i a (omega arith) earlier (ap section_type (hi a) ∙ ta))
    go (inr (inr later)) = absurd (ni j b (omega arith) later (ap section_type (hj b) ∙ tb))

no_first : (file : ElfFile) (a : SectionHeader) → FindsHash file None → FindsHash file (Some a) → ⊥
no_first file a n (ta, (i, low, h, _)) = n i a (omega arith) low (ap section_type (h a) ∙ ta)

-- the check of a hash table depends only on its byte order and its bytes
module _ (one other : HashTable) (order : hash_order one ≡ hash_order other) (bytes : hash_data one ≡ hash_data other) where
  same_chain : chain_of one ≡ chain_of other
  unfolding chain_of
  same_chain = fun_ext (λ i. rw (order, bytes))

  check_on : {E : Type 0} (symbols : Symbols E) (a : Result (Unit {0}) ElfError) → IsCheck one symbols a → IsCheck other symbols a
  unfolding bucket_of start_of
  check_on symbols _ (good h) = good (record { ends = rw (same_chain, order, bytes) at h.ends; holds = rw (same_chain, order, bytes) at h.holds })
  check_on symbols _ (faulty k error low before fault) = faulty k error (rw (order, bytes) at low) (rw (same_chain, order, bytes) at before) (rw (same_chain, order, bytes) at fault)
  check_on symbols _ (missing i e name all global lost) = missing i e name (rw (same_chain, order, bytes) at all) global (rw (same_chain, order, bytes) at lost)

  of_once : {E : Type 0} (symbols : Symbols E) (v w : HashVerdict) → IsVerdictOf one symbols v → IsVerdictOf other symbols w → v ≡ w
  of_once symbols v w (a, is, c) (a', is', c') =
      let same : a ≡ a' = check_once other symbols a a' (check_on symbols a c) c' in cc

  linked_once : (file : ElfFile) (c : Result Content ElfError) (v w : HashVerdict) → IsLinkedVerdict file one c v → IsLinkedVerdict file other c w → v ≡ w
  linked_once file (Ok (table_of symbols_32 o b)) v w l m = of_once (symbols_in_32 file o b) v w l m
  linked_once file (Ok (table_of symbols_64 o b)) v w l m = of_once (symbols_in_64 file o b) v w l m
  linked_once file (Ok (table_of dyn_symbols_32 o b)) v w l m = of_once (dyn_symbols_in_32 file o b) v w l m
  linked_once file (Ok (table_of dyn_symbols_64 o b)) v w l m = of_once (dyn_symbols_in_64 file o b) v w l m
  linked_once file _ v w l m = l ∙ sym m

pub verdict_once : (file : ElfFile) (v w : HashVerdict) → IsHashVerdict file v → IsHashVerdict file w → v ≡ w
verdict_once file _ _ (none n) (none m) = refl
verdict_once file _ _ (none n) (failed s e f c) = absurd (no_first file s n f)
verdict_once file _ _ (none n) (linked s t w f c l) = absurd (no_first file s n f)
verdict_once file _ _ (failed s e f c) (none n) = absurd (no_first file s n f)
verdict_once file _ _ (failed s e f c) (failed s' e' f' c') = let same = first_once file s s' f f' in let is : e ≡ e' = cc in ap (λ x. Checked (Err x)) is
verdict_once file _ _ (failed s e f c) (linked s' t w f' c' l) = let same = first_once file s s' f f' in absurd (cc)
verdict_once file _ _ (linked s t v f c l) (none n) = absurd (no_first file s n f)
verdict_once file _ _ (linked s t v f c l) (failed s' e f' c') = let same = first_once file s s' f f' in absurd (cc)
verdict_once file _ _ (linked s t v f c l) (linked s' t' w f' c' l') =
    let same : s ≡ s' = first_once file s s' f f' in
    linked_once t t' (cc) (cc) file (content_at file (section_fields s').link) v w (subst (λ x. IsLinkedVerdict file t (content_at file (section_fields x).link) v) same l) l'
