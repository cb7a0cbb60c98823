-- The number of symbols of a dynamic segment has only one result: GNU hash tables with the same bytes count the
-- same.
use Rattle.std.proofs.Common.{◌≡◌, ◌+◌, ◌*◌, ◌%◌, ◌<◌, ◌≤◌, ℕ, List, length, Result, Ok, Err, sym, ap, ◌∙◌, subst}
use Rattle.std.specs.Prelude.{ok_or}
use Rattle.elf_base.specs.FirstError.{and_then}
use Rattle.elf_linking.specs.GnuCount.{CountStops, GoesTo, IsGnuCount, IsLastRun, counted, ended, no_run, failed, too_long}
use Rattle.elf_linking.specs.DynamicView.{AreSymbols, IsSymbolCount, by_gnu, by_hash, gnu_hash_table_of, no_table, number_with}
use Rattle.elf_linking.specs.GnuHash.{EndsRun, HasChain, gnu_bucket_count, bucket_word, chain_of, chain_place, chain_word, first_symbol_of, gnu_class, gnu_data, gnu_order}
use Rattle.elf_linking.specs.Loaded.{bytes_at_of}
use Rattle.elf_linking.specs.declared.error.LinkError.{LinkError}
use Rattle.elf_linking.specs.declared.error.LinkError.TheVariants.{NoEntry}
use Rattle.elf_linking.specs.declared.gnu_hash.GnuHashTable.{GnuHashTable}
use Rattle.elf_records.specs.declared.dynamic.Dynamic.{Dynamic}
use Rattle.elf_linking.specs.declared.view.tags.TheConstants.{DT_SYMTAB}
use Rattle.elf_linking.proofs.GnuCounts.{count_once}
use Rattle.xmas_elf.specs.declared.ElfFile.{ElfFile}

module _ (one other : GnuHashTable) (bytes : gnu_data one ≡ gnu_data other) (class : gnu_class one ≡ gnu_class other) (order : gnu_order one ≡ gnu_order other) where
  same_first : first_symbol_of one ≡ first_symbol_of other
  same_first = cc

  same_buckets : gnu_bucket_count one ≡ gnu_bucket_count other
  same_buckets = cc

  same_bucket : (k : ℕ) → bucket_word one k ≡ bucket_word other k
  unfolding bucket_word
  same_bucket k = cc

  same_place : (i : ℕ) → chain_place one i ≡ chain_place other i
  unfolding chain_place
  same_place i = cc

  same_word : (i : ℕ) → chain_word one i ≡ chain_word other i
  unfolding chain_word
  same_word i = let place = same_place i in cc

  same_chain : (i : ℕ) → chain_of one i ≡ chain_of other i
  unfolding chain_of
  same_chain i = let place = same_place i in let word = same_word i in let first = same_first in cc

  has_chain : (i : ℕ) → HasChain one i → HasChain other i
  has_chain i has = let place = same_place i in let long : length (gnu_data one) ≡ length (gnu_data other) = ap length bytes in
      (subst (λ n. n ≤ i) same_first has.0, subst (λ n. n ≤ length (gnu_data other)) (ap (λ n. n + 4) place) (subst (λ n. chain_place one i + 4 ≤ n) long has.1))

  ends_run : (i : ℕ) → EndsRun other i → EndsRun one i
  ends_run i ends = ap (λ w. w % 2) (same_word i) ∙ ends

  goes_to : (from last : ℕ) → GoesTo one from last → GoesTo other from last
  goes_to from last goes = record {
    ordered = goes.ordered;
    words = λ i above below. has_chain i (goes.words i above below);
    goes_on = λ i above below ends. goes.goes_on i above below (ends_run i ends);
  }

  stops : (i : ℕ) (answer : Result ℕ LinkError) → CountStops one i answer → CountStops other i answer
  stops i _ (ended small word ends) = ended small (has_chain i word) (ap (λ w. w % 2) (sym (same_word i)) ∙ ends)
  stops i _ (failed error small is) = failed error small (sym (same_chain i) ∙ is)
  stops i _ (too_long large) = too_long large

  last_run : (from : ℕ) → IsLastRun one from → IsLastRun other from
  last_run from last = record {
    each = λ k below. subst (λ w. w ≤ from) (same_bucket k) (last.each k (subst (λ n. k < n) (sym same_buckets) below));
    begins = λ some. (let (k, below, is) = last.begins some in (k, subst (λ n. k < n) same_buckets below, sym (same_bucket k) ∙ is));
  }

  -- the count of one table is that of the other
  count_of : (answer : Result ℕ LinkError) → IsGnuCount one answer → IsGnuCount other answer
  count_of _ (no_run last) = subst (λ n. IsGnuCount other (Ok n)) (sym same_first) (no_run (last_run 0 last))
  count_of answer (counted from at _ above last goes stop) = counted from at answer above (last_run from last) (goes_to from at goes) (stops at answer stop)

-- equal results have equal bytes
same_bytes : (found : Result (List ℕ) LinkError) (one other : List ℕ) → found ≡ Ok one → found ≡ Ok other → one ≡ other
same_bytes found one other is is' = let same = sym is ∙ is' in cc

same_errors : (found : Result (List ℕ) LinkError) (one other : LinkError) → found ≡ Err one → found ≡ Err other → one ≡ other
same_errors found one other is is' = let same = sym is ∙ is' in cc

module _ (file : ElfFile) (entries : List (Dynamic ℕ)) where
  pub symbol_count_once : (one other : Result ℕ LinkError) → IsSymbolCount file entries one → IsSymbolCount file entries other → one ≡ other
  symbol_count_once _ _ (by_hash a one is answer) (by_hash b other is' answer') = answer ∙ sym answer'
  symbol_count_once _ _ (by_hash a one is answer) (by_gnu table other none gnu count) = absurd (cc)
  symbol_count_once _ _ (by_hash a one is answer) (no_table error none gnu) = absurd (cc)
  symbol_count_once _ _ (by_gnu table one none gnu count) (by_hash b other is' answer') = absurd (cc)
  symbol_count_once _ _ (by_gnu table one none gnu count) (by_gnu table' other none' gnu' count') =
      let bytes = same_bytes (gnu_hash_table_of file entries) (gnu_data table) (gnu_data table') gnu.bytes_are gnu'.bytes_are in
      count_once table' one other (count_of table table' bytes (gnu.class_is ∙ sym gnu'.class_is) (gnu.order_is ∙ sym gnu'.order_is) one count) count'
  symbol_count_once _ _ (by_gnu table one none gnu count) (no_table error none' gnu') = let is = gnu.bytes_are in absurd (cc)
  symbol_count_once _ _ (no_table error none gnu) (by_hash b other is' answer') = absurd (cc)
  symbol_count_once _ _ (no_table error none gnu) (by_gnu table other none' gnu' count) = let is = gnu'.bytes_are in absurd (cc)
  symbol_count_once _ _ (no_table error none gnu) (no_table error' none' gnu') = ap (λ e. Err e) (same_errors (gnu_hash_table_of file entries) error error' gnu gnu')

  -- the bytes of the symbols are only one
  pub symbols_once : (size : ℕ) (one other : Result (List ℕ) LinkError) → AreSymbols file entries size one → AreSymbols file entries size other → one ≡ other
  symbols_once size one other are are' =
      are.bytes_are ∙ ap (λ count. and_then count (λ many. and_then (ok_or (number_with DT_SYMTAB entries) NoEntry) (λ address. bytes_at_of file address (many * size)))) (symbol_count_once are.count are'.count are.counted are'.counted) ∙ sym are'.bytes_are
