-- What a look-up by a hash table finds is the first of the exports of its file that passes a test.
use Rattle.std.proofs.Common.{◌≡◌, ◌≢◌, ℕ, zero, suc, ◌+◌, ◌-◌, ◌/◌, ◌%◌, ◌<◌, ◌≤◌, Bool, true, false, List, [], ◌∷◌, length, Option, Some, None, Result, Ok, Err, refl, sym, ap, subst, ◌∙◌, ◌⊎◌, inl, inr, arith, slice_get, if◌then◌else◌}
use Rattle.std.proofs.Math.Dec.{eqb}
use Rattle.std.proofs.lemmas.Bool.{cases_eq, cases_lt, eq-eqb}
use Rattle.std.proofs.lemmas.List.Folds.{find-append}
use Rattle.std.proofs.lemmas.Option.{slice_get_cases}
use Rattle.std.specs.Option.{option_or}
use Rattle.std.specs.Prelude.{◌&&◌, ◌||◌, not, filter, find, filter_map, option_map}
use Rattle.elf_base.specs.declared.error.ElfError.{ElfError}
use Rattle.elf_base.specs.declared.error.ElfError.TheVariants.{BucketIndex, ChainIndex, ChainSum, HashCycle, HashData}
use Rattle.elf_base.specs.FirstError.{unless}
use Rattle.elf_linking.specs.DynamicView.{as_link_error}
use Rattle.elf_linking.specs.Exports.{HashChains, SymbolParts, chain_from, exports_below, exports_of, hash_chains, is_held, is_held_as, symbol_parts, symbols_from, symbols_of}
use Rattle.elf_linking.specs.Find.{DynamicSymbols, Seeks, dynamic_symbols}
use Rattle.elf_linking.specs.GnuHash.{EndsRun, IsHit, IsThere, GnuLooksWhere, NoHit, Run, GnuStops, gnu_bucket_count, bucket_word, chain_word, ended, found, goes, may_hold, no_run, failed, start_at, gnu_start_of, symbol_end, too_early}
use Rattle.elf_linking.specs.Layouts.{gnu_hash_number}
use Rattle.elf_linking.specs.VersionList.{VersionList}
use Rattle.elf_linking.specs.declared.any_table.AnyTable.{AnyTable}
use Rattle.elf_linking.specs.declared.any_table.AnyTable.TheVariants.{Gnu, Sysv}
use Rattle.elf_linking.specs.declared.error.LinkError.{LinkError}
use Rattle.elf_linking.specs.declared.gnu_hash.GnuHashTable.{GnuHashTable}
use Rattle.elf_linking.proofs.ExportSearch.{Passes, and_true, both_true, eqb_other, eqb_same, eqb_true, find-filter, find_never, here, not_true, searched, searched_behind, searched_end, searched_hit, searched_past, step}
use Rattle.elf_linking.proofs.Looks.{start_bucket}
use Rattle.elf_records.specs.HashNumber.{hash_number}
use Rattle.xmas_elf.proofs.ChainPaths.{looks_halted}
use Rattle.xmas_elf.proofs.ChainStarts as starts_at
use Rattle.xmas_elf.proofs.lemmas.ChainOnce as gabi_once
use Rattle.xmas_elf.specs.HashTable as gabi
use Rattle.xmas_elf.specs.HashTable.{Comes, NoneBefore, IsFoundAt, at_end, bad_bucket, endless, no_bucket, past_chains, past_symbols, reaches, starts, too_many}
use Rattle.xmas_elf.specs.Symbol.{Symbols}
use Rattle.xmas_elf.specs.Types.{HashTable}

-- The symbols of a file by their indices.

module _ {E : Type 0} (file : DynamicSymbols E) where
  length_from : (base : ℕ) (items : List E) → length (symbols_from file base items) ≡ length items
  length_from base [] = refl
  length_from base (e ∷ items) = omega (arith, length_from (base + 1) items)

  get_from : (base : ℕ) (items : List E) (k : ℕ) → slice_get (symbols_from file base items) k ≡ option_map (symbol_parts file (base + k)) (slice_get items k)
  get_from base [] k = refl
  get_from base (e ∷ items) zero = ap (λ i. Some (symbol_parts file i e)) (omega arith)
  get_from base (e ∷ items) (suc k) = get_from (base + 1) items k ∙ ap (λ i. option_map (symbol_parts file i) (slice_get items k)) (omega arith)

  pub length_of : length (symbols_of file) ≡ length file.symbols.items
  length_of = length_from 0 file.symbols.items

  pub get_symbol : (i : ℕ) → slice_get (symbols_of file) i ≡ option_map (symbol_parts file i) (slice_get file.symbols.items i)
  get_symbol i = get_from 0 file.symbols.items i ∙ ap (λ k. option_map (symbol_parts file k) (slice_get file.symbols.items i)) (omega arith)

  symbol_at : (i : ℕ) (e : E) → slice_get file.symbols.items i ≡ Some e → slice_get (symbols_of file) i ≡ Some (symbol_parts file i e)
  symbol_at i e at = get_symbol i ∙ ap (option_map (symbol_parts file i)) at

-- a test tells whether a symbol has a property, which only symbols with the name have
pub record IsTestOf {E : Type 0} (file : DynamicSymbols E) (name : List ℕ) (P : ℕ × E → Type 0) (t : SymbolParts → Bool) : Type 0 where
  pub named : (s : SymbolParts) → t s ≡ true → s.name ≡ Some name
  pub tells : (i : ℕ) (e : E) → slice_get file.symbols.items i ≡ Some e → P (i, e) → t (symbol_parts file i e) ≡ true
  pub told : (i : ℕ) (e : E) → slice_get file.symbols.items i ≡ Some e → t (symbol_parts file i e) ≡ true → P (i, e)

-- The exports of the bucket of a name.

module _ (chains : HashChains) (symbols : List SymbolParts) (name : List ℕ) (t : SymbolParts → Bool) where
  abbrev bucket : ℕ
  bucket = chains.hash name % chains.buckets

  abbrev in_bucket : ℕ → List SymbolParts
  in_bucket k = filter_map (slice_get symbols) (chain_from chains.next (length symbols) (chains.first k))

  -- the table has a symbol in the bucket of the name, and it passes the test
  abbrev pub held : SymbolParts → Bool
  held s = is_held chains bucket s && t s

  or_none : {A : Type 0} (o : Option A) → option_or o None ≡ o
  or_none None = refl
  or_none (Some x) = refl

  module _ (named : (s : SymbolParts) → t s ≡ true → s.name ≡ Some name) where
    -- the table has the name for a symbol that passes, in a bucket
    pub held_name : (k : ℕ) (s : SymbolParts) → (is_held chains k s && t s) ≡ true → (bucket ≡ k) × (chains.has name s.index ≡ true)
    held_name k s is =
        let (has, passes) = both_true (is_held chains k s) (t s) is in
        let has_name : is_held_as chains k s.index (Some name) ≡ true = subst (λ n. is_held_as chains k s.index n ≡ true) (named s passes) has in
        let (same, there) = both_true (eqb bucket k) (chains.has name s.index) has_name in
        (eqb_true bucket k same, there)

    other_bucket : (k : ℕ) → bucket ≢ k → find t (filter (is_held chains k) (in_bucket k)) ≡ None
    other_bucket k differs = find-filter t (is_held chains k) (in_bucket k) ∙ find_never (λ s. is_held chains k s && t s) (in_bucket k) (λ s. not_true (is_held chains k s && t s) (λ is. differs (held_name k s is).0))

    own_bucket : (k : ℕ) → bucket ≡ k → find t (filter (is_held chains k) (in_bucket k)) ≡ find held (in_bucket bucket)
    own_bucket k same = find-filter t (is_held chains k) (in_bucket k) ∙ ap (λ j. find (λ s. is_held chains j s && t s) (in_bucket j)) (sym same)

    none_below : (n : ℕ) → n ≤ bucket → find t (exports_below chains symbols n) ≡ None
    none_below zero under = refl
    none_below (suc k) under = find-append t (exports_below chains symbols k) (filter (is_held chains k) (in_bucket k)) ∙ rw (none_below k (omega arith), other_bucket k (λ same. omega arith)) refl

    found_with : (k : ℕ) → bucket < suc k → (bucket < k → find t (exports_below chains symbols k) ≡ find held (in_bucket bucket)) → (bucket ≡ k) ⊎ (bucket ≡ k → ⊥) → option_or (find t (exports_below chains symbols k)) (find t (filter (is_held chains k) (in_bucket k))) ≡ find held (in_bucket bucket)
    found_with k under earlier (inl same) = rw (none_below k (omega arith)) (own_bucket k same)
    found_with k under earlier (inr differs) = rw (other_bucket k differs, earlier (omega arith)) (or_none (find held (in_bucket bucket)))

    found_below : (n : ℕ) → bucket < n → find t (exports_below chains symbols n) ≡ find held (in_bucket bucket)
    found_below zero under = absurd (omega arith)
    found_below (suc k) under = find-append t (exports_below chains symbols k) (filter (is_held chains k) (in_bucket k)) ∙ found_with k under (found_below k) (cases_eq bucket k)

    -- a search of all exports is one of the bucket of the name
    pub found_bucket : chains.buckets ≢ 0 → find t (exports_below chains symbols chains.buckets) ≡ searched chains.next symbols held (length symbols) (chains.first bucket)
    found_bucket some = let below : bucket < chains.buckets = omega arith in found_below chains.buckets below

-- GNU's table.

none_of : (a b z : Bool) (word : ℕ) → (if a || not b then None else (if z then None else Some word)) ≡ None → (a ≡ true) ⊎ ((b ≡ false) ⊎ (z ≡ true))
none_of true b z word is = inl refl
none_of false false z word is = inr (inl refl)
none_of false true true word is = inr (inr refl)
none_of false true false word is = absurd (cc)

some_of : (a b z : Bool) (word from : ℕ) → (if a || not b then None else (if z then None else Some word)) ≡ Some from → b ≡ true
some_of true b z word from is = absurd (cc)
some_of false true z word from is = refl
some_of false false z word from is = absurd (cc)

start_none : (table : GnuHashTable) (h : ℕ) → start_at table h ≡ None → (gnu_bucket_count table ≡ 0) ⊎ ((may_hold table h ≡ false) ⊎ (bucket_word table (h % gnu_bucket_count table) ≡ 0))
unfolding start_at
start_none table h none =
    let word : ℕ = bucket_word table (h % gnu_bucket_count table) in
    elim (none_of (eqb (gnu_bucket_count table) 0) (may_hold table h) (eqb word 0) word none) [
      | inl is ↦ inl (eqb_true (gnu_bucket_count table) 0 is)
      | inr other ↦ inr (elim other [ inl is ↦ inl is | inr is ↦ inr (eqb_true word 0 is) ])
    ]

start_may : (table : GnuHashTable) (h from : ℕ) → start_at table h ≡ Some from → may_hold table h ≡ true
unfolding start_at
start_may table h from begun =
    let word : ℕ = bucket_word table (h % gnu_bucket_count table) in
    some_of (eqb (gnu_bucket_count table) 0) (may_hold table h) (eqb word 0) word from begun

module _ {E : Type 0} (table : GnuHashTable) (symbols : Symbols E) (versions : VersionList) (name : List ℕ) (P : ℕ × E → Type 0) (t : SymbolParts → Bool) (test : IsTestOf (dynamic_symbols (Gnu table) symbols versions) name P t) where
  abbrev file : DynamicSymbols E
  file = dynamic_symbols (Gnu table) symbols versions

  abbrev all : List SymbolParts
  all = symbols_of file

  abbrev chains : HashChains
  chains = hash_chains (Gnu table)

  abbrev passes : SymbolParts → Bool
  passes = held chains all name t

  abbrev part : ℕ × E → SymbolParts
  part at = symbol_parts file at.0 at.1

  hit_passes : (i : ℕ) (e : E) → may_hold table (gnu_hash_number name) ≡ true → IsHit P (gnu_hash_number name) table symbols.items i e → passes (part (i, e)) ≡ true
  hit_passes i e may hit =
      let passed : t (part (i, e)) ≡ true = test.tells i e hit.symbol hit.holds in
      let text : symbols.text e ≡ Some name = test.named (part (i, e)) passed in
      let b : ℕ = gnu_hash_number name % gnu_bucket_count table in
      let held_by : is_held_as chains b i (Some name) ≡ true = and_true (eqb b b) (may_hold table (gnu_hash_number name) && eqb (chain_word table i / 2) (gnu_hash_number name / 2)) (eqb_same b) (and_true _ _ may (eq-eqb _ _ hit.agrees)) in
      and_true (is_held chains b (part (i, e))) (t (part (i, e))) (subst (λ n. is_held_as chains b i n ≡ true) (sym text) held_by) passed

  passes_hit : (i : ℕ) (e : E) → slice_get symbols.items i ≡ Some e → IsThere table symbols.items i → passes (part (i, e)) ≡ true → IsHit P (gnu_hash_number name) table symbols.items i e
  passes_hit i e at there is =
      let (_, has) = held_name chains all name t test.named (gnu_hash_number name % gnu_bucket_count table) (part (i, e)) is in
      let (may, agrees) = both_true (may_hold table (gnu_hash_number name)) (eqb (chain_word table i / 2) (gnu_hash_number name / 2)) has in
      let (held_by, passed) = both_true (is_held chains (gnu_hash_number name % gnu_bucket_count table) (part (i, e))) (t (part (i, e))) is in
      record { there = there; symbol = at; agrees = eqb_true _ _ agrees; holds = test.told i e at passed }

  -- a symbol where there is one
  entry_at : (i : ℕ) → i < length symbols.items → (e : E) × (slice_get symbols.items i ≡ Some e)
  entry_at i below = elim (slice_get_cases symbols.items i).1 [ inl is ↦ (is.0, is.2) | inr past ↦ absurd (let beyond = past.0 in omega arith) ]

  within : (i : ℕ) → IsThere table symbols.items i → i < length symbols.items
  within i there = let below : i < symbol_end symbols.items = there.symbol in omega arith

  next_index : (i : ℕ) → (EndsRun table i → ⊥) → chains.next i ≡ i + 1
  next_index i on = rw (eqb_other (chain_word table i % 2) 1 on) refl

  last_index : (i : ℕ) → EndsRun table i → chains.next i ≡ 0
  last_index i ends = rw (eq-eqb (chain_word table i % 2) 1 ends) refl

  no_run_finds : gnu_start_of table name ≡ None → find t (exports_of file) ≡ None
  no_run_finds none = go (cases_eq (gnu_bucket_count table) 0) (start_none table (gnu_hash_number name) none)
    where
      empty : gnu_bucket_count table ≡ 0 → find t (exports_of file) ≡ None
      empty is = ap (λ n. find t (exports_below chains all n)) is

      go : (gnu_bucket_count table ≡ 0) ⊎ (gnu_bucket_count table ≡ 0 → ⊥) → (gnu_bucket_count table ≡ 0) ⊎ ((may_hold table (gnu_hash_number name) ≡ false) ⊎ (bucket_word table (gnu_hash_number name % gnu_bucket_count table) ≡ 0)) → find t (exports_of file) ≡ None
      go (inl is) _ = empty is
      go (inr some) (inl is) = empty is
      go (inr some) (inr (inl not_held)) = found_bucket chains all name t test.named some ∙ find_never passes (filter_map (slice_get all) (chain_from chains.next (length all) (chains.first (gnu_hash_number name % gnu_bucket_count table)))) (λ s. not_true (passes s) (λ is. (
          let (_, has) = held_name chains all name t test.named (gnu_hash_number name % gnu_bucket_count table) s is in
          let may = (both_true (may_hold table (gnu_hash_number name)) (eqb (chain_word table s.index / 2) (gnu_hash_number name / 2)) has).0 in
          cc)))
      go (inr some) (inr (inr no_word)) = found_bucket chains all name t test.named some ∙ ap (searched chains.next all passes (length all)) no_word ∙ searched_end chains.next all passes (length all)

  module _ (from last : ℕ) (above : 0 < from) (run : Run table symbols.items from last) (missed : NoHit P (gnu_hash_number name) table symbols.items from last) where
    passes_to : (d : ℕ) → from + d ≤ last → Passes chains.next all passes from d (from + d)
    passes_to zero below = subst (λ k. Passes chains.next all passes from zero k) (let e : from ≡ from + zero = omega arith in e) here
    passes_to (suc d) below =
        let i : ℕ = from + d in
        let there : IsThere table symbols.items i = run.there i (omega arith) (omega arith) in
        let (e, at) = entry_at i (within i there) in
        let next : chains.next i ≡ from + suc d = next_index i (run.goes_on i (omega arith) (omega arith)) ∙ omega arith in
        step d i (from + suc d) (part (i, e)) (passes_to d (omega arith)) (omega arith) (symbol_at file i e at) (not_true (passes (part (i, e))) (λ is. missed i e (omega arith) (omega arith) (passes_hit i e at there is))) next

    stop_first : may_hold table (gnu_hash_number name) ≡ true → (n : ℕ) (answer : Result (Option (ℕ × E)) LinkError) → GnuStops P (gnu_hash_number name) table symbols.items last answer n → (o : Option (ℕ × E)) → answer ≡ Ok o → searched chains.next all passes (length all) from ≡ option_map part o
    stop_first may _ _ (failed error lacks) o is = absurd (cc)
    stop_first may _ _ (found e hit) o is = by (length all - (last - from) - 1) (omega (arith, length_of file, within last hit.there)) ∙ same
      where
        by : (m : ℕ) → length all ≡ (last - from) + suc m → searched chains.next all passes (length all) from ≡ Some (part (last, e))
        by m fuel =
            let ordered : from ≤ last = run.ordered in
            let comes : from + (last - from) ≡ last = omega arith in
            ap (λ k. searched chains.next all passes k from) fuel ∙ searched_behind chains.next all passes from (last - from) (from + (last - from)) (suc m) (passes_to (last - from) (omega arith))
            ∙ ap (searched chains.next all passes (suc m)) comes ∙ searched_hit chains.next all passes m last (part (last, e)) (omega arith) (symbol_at file last e hit.symbol) (hit_passes last e may hit)

        same : Some (part (last, e)) ≡ option_map part o
        same = let one : Some (last, e) ≡ o = cc in ap (option_map part) one
    stop_first may _ _ (ended there ends none) o is = by (length all - (last - from) - 1) (omega (arith, length_of file, within last there)) ∙ same
      where
        by : (m : ℕ) → length all ≡ (last - from) + suc m → searched chains.next all passes (length all) from ≡ None
        by m fuel =
            let ordered : from ≤ last = run.ordered in
            let comes : from + (last - from) ≡ last = omega arith in
            let (e, at) = entry_at last (within last there) in
            ap (λ k. searched chains.next all passes k from) fuel ∙ searched_behind chains.next all passes from (last - from) (from + (last - from)) (suc m) (passes_to (last - from) (omega arith))
            ∙ ap (searched chains.next all passes (suc m)) comes ∙ searched_past chains.next all passes m last (part (last, e)) (omega arith) (symbol_at file last e at) (not_true (passes (part (last, e))) (λ is. none e (passes_hit last e at there is)))
            ∙ ap (searched chains.next all passes m) (last_index last ends) ∙ searched_end chains.next all passes m

        same : None ≡ option_map part o
        same = let one : None ≡ o = cc in ap (option_map part) one

  gnu_first : (n : ℕ) (answer : Result (Option (ℕ × E)) LinkError) → GnuLooksWhere P table symbols.items name answer n → (o : Option (ℕ × E)) → answer ≡ Ok o → find t (exports_of file) ≡ option_map part o
  gnu_first _ _ (no_run none) o is = let one : None ≡ o = cc in no_run_finds none ∙ ap (option_map part) one
  gnu_first _ _ (too_early from begun early) o is = absurd (cc)
  gnu_first _ _ (goes from n answer begun begins looks) o is =
      let (some, word, above) = start_bucket table (gnu_hash_number name) from begun in
      found_bucket chains all name t test.named some ∙ ap (searched chains.next all passes (length all)) word
      ∙ stop_first from looks.last above looks.run looks.missed (start_may table (gnu_hash_number name) from begun) looks.here answer looks.stop o is

-- The standard's table.

value_of : {A : Type 0} (a b : Bool) (x y : ElfError) (value out : A) → unless ((a, x) ∷ (b, y) ∷ []) value ≡ Ok out → value ≡ out
value_of true b x y value out is = absurd (cc)
value_of false true x y value out is = absurd (cc)
value_of false false x y value out is = cc

value_of_three : {A : Type 0} (a b c : Bool) (x y z : ElfError) (value out : A) → unless ((a, x) ∷ (b, y) ∷ (c, z) ∷ []) value ≡ Ok out → value ≡ out
value_of_three true b c x y z value out is = absurd (cc)
value_of_three false b c x y z value out is = value_of b c y z value out is

bucket_value : (table : HashTable) (k first : ℕ) → gabi.bucket_of table k ≡ Ok first → gabi.hash_word table (2 + k) ≡ first
unfolding gabi.bucket_of
bucket_value table k first is = value_of _ _ BucketIndex HashData (gabi.hash_word table (2 + k)) first is

chain_value : (table : HashTable) (i j : ℕ) → gabi.chain_of table i ≡ Ok j → gabi.hash_word table (2 + gabi.bucket_count_of table + i) ≡ j
unfolding gabi.chain_of
chain_value table i j is = value_of_three _ _ _ ChainIndex ChainSum HashData (gabi.hash_word table (2 + gabi.bucket_count_of table + i)) j is

module _ {E : Type 0} (table : HashTable) (symbols : Symbols E) (versions : VersionList) (name : List ℕ) (P : ℕ × E → Type 0) (t : SymbolParts → Bool) (test : IsTestOf (dynamic_symbols (Sysv table) symbols versions) name P t) where
  abbrev file' : DynamicSymbols E
  file' = dynamic_symbols (Sysv table) symbols versions

  abbrev all' : List SymbolParts
  all' = symbols_of file'

  abbrev chains' : HashChains
  chains' = hash_chains (Sysv table)

  abbrev passes' : SymbolParts → Bool
  passes' = held chains' all' name t

  abbrev part' : ℕ × E → SymbolParts
  part' at = symbol_parts file' at.0 at.1

  abbrev links : gabi.Chains E
  links = gabi.chains_of table symbols.items

  stands_passes : (i : ℕ) (e : E) → slice_get symbols.items i ≡ Some e → P (i, e) → passes' (part' (i, e)) ≡ true
  stands_passes i e at holds =
      let passed : t (part' (i, e)) ≡ true = test.tells i e at holds in
      let text : symbols.text e ≡ Some name = test.named (part' (i, e)) passed in
      let b : ℕ = hash_number name % gabi.bucket_count_of table in
      let held_by : is_held_as chains' b i (Some name) ≡ true = and_true (eqb b b) true (eqb_same b) refl in
      and_true (is_held chains' b (part' (i, e))) (t (part' (i, e))) (subst (λ n. is_held_as chains' b i n ≡ true) (sym text) held_by) passed

  passes_holds : (i : ℕ) (e : E) → slice_get symbols.items i ≡ Some e → passes' (part' (i, e)) ≡ true → P (i, e)
  passes_holds i e at is = test.told i e at (both_true (is_held chains' (hash_number name % gabi.bucket_count_of table) (part' (i, e))) (t (part' (i, e))) is).1

  module _ (first : ℕ) where
    links_pass : (n i : ℕ) → Comes links first n i → NoneBefore P links first n → Passes chains'.next all' passes' first n i
    links_pass _ _ starts none = here
    links_pass _ _ (gabi.goes n i j c l) none =
        step n i j (part' (i, l.entry)) (links_pass n i c (λ m below. none m (omega arith))) l.stands.not_end (symbol_at file' i l.entry l.stands.symbol)
        (not_true (passes' (part' (i, l.entry))) (λ is. none n (omega arith) i l.entry c l.stands (passes_holds i l.entry l.stands.symbol is)))
        (chain_value table i j l.next)

    -- a look-up that ends has passed fewer symbols than there are
    few : (o : Option (ℕ × E)) (k : ℕ) → gabi.LooksFrom P links (Some (Ok first)) (Ok o) k → (n i : ℕ) (e : E) → Comes links first n i → NoneBefore P links first n → IsFoundAt links i e → n < length symbols.items
    few o k looks n i e c none stands = elim (cases_lt n (length symbols.items)) [
      | inl below ↦ below
      | inr past ↦ absurd (
          let never = looks_halted P links first i n HashCycle c none stands.not_end (too_many e stands (inr (omega arith))) in
          let same : Ok o ≡ Err HashCycle = (gabi_once.looks_once P links (Some (Ok first)) (Ok o) (Err HashCycle) k n looks never).0 in cc)
    ]

    few_steps : (o : Option (ℕ × E)) (k : ℕ) → gabi.LooksFrom P links (Some (Ok first)) (Ok o) k → (n i : ℕ) → Comes links first n i → NoneBefore P links first n → n ≤ length symbols.items
    few_steps o k looks _ _ starts none = omega arith
    few_steps o k looks _ _ (gabi.goes n i j c l) none = let below : n < length symbols.items = few o k looks n i l.entry c (λ m under. none m (omega arith)) l.stands in omega arith

    searched_to : (n i m : ℕ) → Comes links first n i → NoneBefore P links first n → length all' ≡ n + m → searched chains'.next all' passes' (length all') first ≡ searched chains'.next all' passes' m i
    searched_to n i m c none fuel = ap (λ k. searched chains'.next all' passes' k first) fuel ∙ searched_behind chains'.next all' passes' first n i m (links_pass n i c none)

    stop_first' : (n last more : ℕ) (answer : Result (Option (ℕ × E)) ElfError) → Comes links first n last → NoneBefore P links first n → gabi.Stops P links last answer more → (o : Option (ℕ × E)) → answer ≡ Ok o → searched chains'.next all' passes' (length all') first ≡ option_map part' o
    stop_first' n _ _ _ c none at_end o is =
        let looks : gabi.LooksFrom P links (Some (Ok first)) (Ok None) (n + 0) = reaches first 0 n 0 (Ok None) c none at_end in
        let below : n ≤ length symbols.items = few_steps None (n + 0) looks n 0 c none in
        let one : None ≡ o = cc in
        searched_to n 0 (length all' - n) c none (omega (arith, length_of file')) ∙ searched_end chains'.next all' passes' (length all' - n) ∙ ap (option_map part') one
    stop_first' n _ _ _ c none (gabi.found i e stands holds) o is =
        let looks : gabi.LooksFrom P links (Some (Ok first)) (Ok (Some (i, e))) (n + 1) = reaches first i n 1 (Ok (Some (i, e))) c none (gabi.found i e stands holds) in
        let below : n < length symbols.items = few (Some (i, e)) (n + 1) looks n i e c none stands in
        let one : Some (i, e) ≡ o = cc in
        searched_to n i (suc (length all' - n - 1)) c none (omega (arith, length_of file')) ∙ searched_hit chains'.next all' passes' (length all' - n - 1) i (part' (i, e)) stands.not_end (symbol_at file' i e stands.symbol) (stands_passes i e stands.symbol holds) ∙ ap (option_map part') one
    stop_first' n _ _ _ c none (past_chains i above past) o is = absurd (cc)
    stop_first' n _ _ _ c none (past_symbols i above below absent) o is = absurd (cc)
    stop_first' n _ _ _ c none (gabi.failed i e error stands misses fails) o is = absurd (cc)

  sysv_first : (start : Option (Result ℕ ElfError)) → gabi.start_of table name ≡ start → (n : ℕ) (answer : Result (Option (ℕ × E)) ElfError) → gabi.LooksFrom P links start answer n → (o : Option (ℕ × E)) → answer ≡ Ok o → find t (exports_of file') ≡ option_map part' o
  sysv_first _ begun _ _ no_bucket o is = go (cases_eq (gabi.bucket_count_of table) 0) ∙ ap (option_map part') (let one : None ≡ o = cc in one)
    where
      go : (gabi.bucket_count_of table ≡ 0) ⊎ (gabi.bucket_count_of table ≡ 0 → ⊥) → find t (exports_of file') ≡ None
      go (inl empty) = ap (λ n. find t (exports_below chains' all' n)) empty
      go (inr some) = absurd (let other = starts_at.start_some table name some in cc)
  sysv_first _ begun _ _ (bad_bucket error) o is = absurd (cc)
  sysv_first _ begun _ _ (reaches first last n more answer c none stop) o is =
      let (some, bucket) = starts_at.start_at table name (Ok first) begun in
      found_bucket chains' all' name t test.named some ∙ ap (searched chains'.next all' passes' (length all')) (bucket_value table (hash_number name % gabi.bucket_count_of table) first bucket)
      ∙ stop_first' first n last more answer c none stop o is
  sysv_first _ begun _ _ (endless first n never) o is = absurd (cc)

-- a look-up of either table
module _ {E : Type 0} (symbols : Symbols E) (versions : VersionList) (name : List ℕ) (P : ℕ × E → Type 0) (t : SymbolParts → Bool) where
  link_ok : (answer : Result (Option (ℕ × E)) ElfError) (o : Option (ℕ × E)) → Ok o ≡ as_link_error answer → answer ≡ Ok o
  link_ok (Ok other) o is = cc
  link_ok (Err error) o is = absurd (cc)

  pub seeks_first : (table : AnyTable) → IsTestOf (dynamic_symbols table symbols versions) name P t → (o : Option (ℕ × E)) → Seeks P (dynamic_symbols table symbols versions) name (Ok o) → find t (exports_of (dynamic_symbols table symbols versions)) ≡ option_map (λ at. symbol_parts (dynamic_symbols table symbols versions) at.0 at.1) o
  seeks_first (Sysv table) test o (n, (answer, looks, is)) = sysv_first table symbols versions name P t test (gabi.start_of table name) refl n answer looks o (link_ok answer o is)
  seeks_first (Gnu table) test o (n, looks) = gnu_first table symbols versions name P t test n (Ok o) looks o refl
