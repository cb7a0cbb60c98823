-- The exports of a file are its symbols, and those that look-ups must find are among them.
use Rattle.std.proofs.Common.{◌≡◌, ℕ, zero, suc, ◌+◌, ◌%◌, ◌<◌, Bool, true, false, List, [], ◌∷◌, length, Option, Some, None, Ok, refl, sym, subst, ◌∙◌, arith, slice_get, cond, All, Contains}
use Rattle.std.proofs.Math.Dec.{eqb}
use Rattle.std.proofs.lemmas.Bool.{eq-eqb}
use Rattle.std.proofs.lemmas.List.Elements.{All-append, All-cons, All-filter, All-nil, Contains-append_left, Contains-append_right, Contains-push}
use Rattle.std.specs.List.{cons_option}
use Rattle.std.specs.Prelude.{◌&&◌, filter, find, filter_map, option_map}
use Rattle.elf_linking.specs.AnyTable.{IsFor, IsGoodBy}
use Rattle.elf_linking.specs.Checked.{is_name}
use Rattle.elf_linking.specs.Exports.{AreExports, HashChains, IsSymbolOf, SymbolParts, chain_from, exports_below, exports_of, hash_chains, is_held, symbol_parts, symbols_of}
use Rattle.elf_linking.specs.Find.{DynamicSymbols, Seeks, dynamic_symbols}
use Rattle.elf_linking.specs.GnuHash as gnu
use Rattle.elf_linking.specs.Layouts.{gnu_hash_number}
use Rattle.elf_linking.specs.VersionList.{VersionList}
use Rattle.elf_linking.specs.declared.any_table.AnyTable.{AnyTable}
use Rattle.elf_linking.specs.declared.any_table.AnyTable.TheVariants.{Gnu, Sysv}
use Rattle.elf_linking.specs.declared.gnu_hash.GnuHashTable.{GnuHashTable}
use Rattle.elf_linking.proofs.ExportChains.{IsTestOf, get_symbol, seeks_first}
use Rattle.elf_linking.proofs.ExportFinds.{is_name_some, some_is_name}
use Rattle.elf_linking.proofs.ExportSearch.{and_true, both_true, eqb_true}
use Rattle.elf_linking.proofs.Looks.{start_ends}
use Rattle.elf_records.specs.HashNumber.{hash_number}
use Rattle.xmas_elf.proofs.ChainPaths.{apart_before, by_order, comes_same, end_links, goes_on}
use Rattle.xmas_elf.proofs.ChainStarts as starts_at
use Rattle.xmas_elf.specs.HashTable as gabi
use Rattle.xmas_elf.specs.HashTable.{Chains, Comes, IsFoundAt}
use Rattle.xmas_elf.specs.Symbol.{IsGlobal, Symbols}
use Rattle.xmas_elf.specs.Types.{HashTable}

-- what a search finds is in the list
found_step : {A : Type 0} (y x : A) (ys : List A) (b : Bool) (rest : Option A) → (rest ≡ Some x → Contains ys x) → cond b (Some y) rest ≡ Some x → Contains (y ∷ ys) x
found_step y x ys true rest later is = let same : y ≡ x = cc in subst (λ z. Contains (y ∷ ys) z) same (Contains-append_left (y ∷ []) ys y (Contains-push [] y))
found_step y x ys false rest later is = Contains-append_right (y ∷ []) ys x (later is)

find_contains : {A : Type 0} (p : A → Bool) (xs : List A) (x : A) → find p xs ≡ Some x → Contains xs x
find_contains p [] x is = absurd (cc)
find_contains p (y ∷ ys) x is = found_step y x ys (p y) (find p ys) (find_contains p ys x) is

module _ {E : Type 0} (file : DynamicSymbols E) where
  symbol_of : (i : ℕ) (at : Option E) (s : SymbolParts) → slice_get file.symbols.items i ≡ at → option_map (symbol_parts file i) at ≡ Some s → IsSymbolOf file s
  symbol_of i None s at is = absurd (cc)
  symbol_of i (Some e) s at is =
      let same : symbol_parts file i e ≡ s = cc in
      subst (IsSymbolOf file) same (record { entry = e; at = at; parts = refl })

  option_all : (i : ℕ) (s : Option SymbolParts) (rest : List SymbolParts) → slice_get (symbols_of file) i ≡ s → All (IsSymbolOf file) rest → All (IsSymbolOf file) (cons_option s rest)
  option_all i None rest is all = all
  option_all i (Some s) rest is all = All-cons (IsSymbolOf file) s rest (symbol_of i (slice_get file.symbols.items i) s refl (sym (get_symbol file i) ∙ is)) all

  chain_all : (indices : List ℕ) → All (IsSymbolOf file) (filter_map (slice_get (symbols_of file)) indices)
  chain_all [] = All-nil (IsSymbolOf file)
  chain_all (i ∷ indices) = option_all i (slice_get (symbols_of file) i) (filter_map (slice_get (symbols_of file)) indices) refl (chain_all indices)

  below_all : (chains : HashChains) (n : ℕ) → All (IsSymbolOf file) (exports_below chains (symbols_of file) n)
  below_all chains zero = All-nil (IsSymbolOf file)
  below_all chains (suc k) =
      let indices : List ℕ = chain_from chains.next (length (symbols_of file)) (chains.first k) in
      All-append (IsSymbolOf file) (exports_below chains (symbols_of file) k) (filter (is_held chains k) (filter_map (slice_get (symbols_of file)) indices)) (below_all chains k)
      (All-filter (is_held chains k) (IsSymbolOf file) (filter_map (slice_get (symbols_of file)) indices) (chain_all indices))

-- a look-up for a name and an index
module _ {E : Type 0} (i : ℕ) (e : E) (name : List ℕ) where
  abbrev IsAt : Symbols E → ℕ × E → Type 0
  IsAt symbols at = (symbols.text at.1 ≡ Some name) × (at.0 ≡ i)

  abbrev is_at : SymbolParts → Bool
  is_at s = is_name name s.name && eqb s.index i

  at_test : (file : DynamicSymbols E) → IsTestOf file name (IsAt file.symbols) is_at
  at_test file = record {
    named = λ s is. is_name_some name s.name (both_true (is_name name s.name) (eqb s.index i) is).0;
    tells = λ j d at holds. and_true (is_name name (file.symbols.text d)) (eqb j i) (some_is_name name (file.symbols.text d) holds.0) (eq-eqb j i holds.1);
    told = λ j d at is. (let (named, same) = both_true (is_name name (file.symbols.text d)) (eqb j i) is in
        (is_name_some name (file.symbols.text d) named, eqb_true j i same));
  }

  seeks_gnu : (table : GnuHashTable) (symbols : Symbols E) (versions : VersionList) → gnu.IsGnuGood table symbols → gnu.IsExported table symbols i e name → Seeks (IsAt symbols) (dynamic_symbols (Gnu table) symbols versions) name (Ok (Some (i, e)))
  seeks_gnu table symbols versions good exported =
      let held : gnu.IsHeld table symbols.items name i = good.holds i e name exported in
      let (above, begins, ends) = start_ends table symbols.items (gnu_hash_number name) held.from good.buckets held.starts in (
        _,
        gnu.goes held.from _ (Ok (Some (i, e))) held.starts begins (record {
          last = i;
          here = 1;
          run = held.run;
          missed = λ j d over under hit. (let same : j ≡ i = hit.holds.1 in omega arith);
          stop = gnu.found e (record { there = held.there; symbol = exported.global.stands; agrees = held.agrees; holds = (exported.global.named, refl) });
          counted = refl;
        }),
      )

  module _ (table : HashTable) (symbols : Symbols E) (versions : VersionList) (good : gabi.IsGood table symbols) (global : IsGlobal symbols i e name) where
    abbrev links : Chains E
    links = gabi.chains_of table symbols.items

    seeks_along : (first n m : ℕ) → gabi.start_of table name ≡ Some (Ok first) → Comes links first n i → Comes links first m 0 → Seeks (IsAt symbols) (dynamic_symbols (Sysv table) symbols versions) name (Ok (Some (i, e)))
    seeks_along first n m begun comes ends =
        let before : n < m = by_order links (n < m) n m
        (λ same. absurd (let zero_index : i ≡ 0 = comes_same links first n m i 0 same comes ends in let above = global.not_first in omega arith))
        (λ earlier. earlier)
        (λ later. absurd (let (j, link) = goes_on links first n i m 0 comes later ends in end_links links 0 j refl link)) in
        let (j, link) = goes_on links first m 0 n i ends before comes in
        let new : (k : ℕ) → k < m → Comes links first k 0 → ⊥ = λ k under at. (let (x, further) = goes_on links first m 0 k 0 ends under at in end_links links 0 x refl further) in
        let apart = apart_before links first m 0 (m + 1) ends new (omega arith) in
        let stands : IsFoundAt links i e = record { not_end = global.not_first; below = link.stands.below; symbol = global.stands } in (
          n + 1,
          (
            Ok (Some (i, e)),
            subst (λ s. gabi.LooksFrom (IsAt symbols) links s (Ok (Some (i, e))) (n + 1)) (sym begun)
                (gabi.reaches first i n 1 (Ok (Some (i, e))) comes
                (λ k under x d at stood holds. (let same : x ≡ i = holds.1 in apart k n i under (omega arith) (subst (λ z. Comes links first k z) same at) comes))
                (gabi.found i e stands (global.named, refl))),
            refl,
          ),
        )

    seeks_sysv : Seeks (IsAt symbols) (dynamic_symbols (Sysv table) symbols versions) name (Ok (Some (i, e)))
    seeks_sysv =
        let (first, begun, (n, comes)) = good.holds i e name global in
        let (some, bucket) = starts_at.start_at table name (Ok first) begun in
        let below : hash_number name % gabi.bucket_count_of table < gabi.bucket_count_of table = omega arith in
        let (other, starts_other, (m, ends)) = good.ends (hash_number name % gabi.bucket_count_of table) below in
        let same : other ≡ first = cc in
        seeks_along first n m begun comes (subst (λ x. Comes links x m 0) same ends)

  seeks_for : (table : AnyTable) (symbols : Symbols E) (versions : VersionList) → IsGoodBy table symbols → IsFor table symbols i e name → Seeks (IsAt symbols) (dynamic_symbols table symbols versions) name (Ok (Some (i, e)))
  seeks_for (Sysv table) symbols versions good global = seeks_sysv table symbols versions good global
  seeks_for (Gnu table) symbols versions good exported = seeks_gnu table symbols versions good exported

-- the exports of a file whose hash table passed its check
pub are_exports : {E : Type 0} (file : DynamicSymbols E) → IsGoodBy file.table file.symbols → AreExports file (exports_of file)
are_exports file good = record {
  each = below_all file (hash_chains file.table) (hash_chains file.table).buckets;
  all = λ i e name must. find_contains (is_at i e name) (exports_of file) (symbol_parts file i e)
      (seeks_first file.symbols file.versions name (IsAt i e name file.symbols) (is_at i e name) file.table (at_test i e name file) (Some (i, e)) (seeks_for i e name file.table file.symbols file.versions good must));
}
