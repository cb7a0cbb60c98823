-- For callers of look-ups with a test that every symbol passes; look-ups for two properties that are true
-- together; and a test of a symbol as one of its index too.
use Rattle.std.proofs.Common.{◌≡◌, ℕ, List, Option, None, Result, Ok, Bool, true, refl, subst}
use Rattle.std.specs.Borrow.{Bor}
use Rattle.std.specs.Fn.{Shared, FnReturnsAt}
use Rattle.elf_linking.specs.GnuHash.{FindsAll, IsExported, IsHit, Looks, GnuLooksFrom, GnuLooksWhere, GnuStops, ended, found, goes, no_run, failed, too_early}
use Rattle.elf_linking.specs.Layouts.{gnu_hash_number}
use Rattle.elf_linking.specs.declared.error.LinkError.{LinkError}
use Rattle.elf_linking.specs.declared.gnu_hash.GnuHashTable.{GnuHashTable}
use Rattle.xmas_elf.specs.Symbol.{Symbols}
use Rattle.xmas_elf.specs.Symbols.{Decides, DecidesWhere, IsMatch, IsMatchWhere}
use Rattle.xmas_elf.proofs.lemmas.HashTables.{decides_where, match_where}

module _ {F E : Type 0} (test : Shared F (Bor E × Unit {0}) Bool) (f : F) (passes : (e : Bor E) → test.post f (e, tt) true) where
  -- if a good table finds nothing, it exports no symbol with the name
  pub none_exported : (table : GnuHashTable) (symbols : Symbols E) (name : List ℕ) (answer : Result (Option (ℕ × E)) LinkError) → answer ≡ Ok None → FindsAll table symbols name (IsMatch symbols test f name) answer → (i : ℕ) (e : E) → ¬ IsExported table symbols i e name
  none_exported table symbols name answer is_none finds i e exported =
      let none : FindsAll table symbols name (IsMatch symbols test f name) (Ok None) = subst (FindsAll table symbols name (IsMatch symbols test f name)) is_none finds in
      let passed : FnReturnsAt test f e true = record { shown = record { ref_ptr = (0, 0); now = e }; shows = refl; says = record { met = passes (record { ref_ptr = (0, 0); now = e }) } } in
      none (i, e, exported, (exported.global.named, passed))

-- with a test that passes each symbol with P: if a good table finds nothing, no exported symbol with the name
-- has P
module _ {F E : Type 0} (test : Shared F (Bor E × Unit {0}) Bool) (f : F) (P : E → Type 0) (passes : (e : Bor E) → P e.now → test.post f (e, tt) true) where
  pub none_with : (table : GnuHashTable) (symbols : Symbols E) (name : List ℕ) (answer : Result (Option (ℕ × E)) LinkError) → answer ≡ Ok None → FindsAll table symbols name (IsMatch symbols test f name) answer → (i : ℕ) (e : E) → IsExported table symbols i e name → ¬ P e
  none_with table symbols name answer is_none finds i e exported has =
      let none : FindsAll table symbols name (IsMatch symbols test f name) (Ok None) = subst (FindsAll table symbols name (IsMatch symbols test f name)) is_none finds in
      let passed : FnReturnsAt test f e true = record { shown = record { ref_ptr = (0, 0); now = e }; shows = refl; says = record { met = passes (record { ref_ptr = (0, 0); now = e }) has } } in
      none (i, e, exported, (exported.global.named, passed))

module _ {E : Type 0} (h : ℕ) (table : GnuHashTable) (symbols : List E) (P Q : ℕ × E → Type 0) where
  pub hit_so : ((at : ℕ × E) → P at → Q at) → (i : ℕ) (e : E) → IsHit P h table symbols i e → IsHit Q h table symbols i e
  hit_so to i e hit = record { there = hit.there; symbol = hit.symbol; agrees = hit.agrees; holds = to (i, e) hit.holds }

module _ {E : Type 0} (h : ℕ) (table : GnuHashTable) (symbols : List E) (P Q : ℕ × E → Type 0) (to : (at : ℕ × E) → P at → Q at) (back : (at : ℕ × E) → Q at → P at) where
  stops_so : (i n : ℕ) (a : Result (Option (ℕ × E)) LinkError) → GnuStops P h table symbols i a n → GnuStops Q h table symbols i a n
  stops_so i _ _ (found e hit) = found e (hit_so h table symbols P Q to i e hit)
  stops_so i _ _ (ended there ends none) = ended there ends (λ e hit. none e (hit_so h table symbols Q P back i e hit))
  stops_so i _ _ (failed error lacks) = failed error lacks

  from_so : (from n : ℕ) (a : Result (Option (ℕ × E)) LinkError) → GnuLooksFrom P h table symbols from a n → GnuLooksFrom Q h table symbols from a n
  from_so from n a looks = record {
    last = looks.last;
    here = looks.here;
    run = looks.run;
    missed = λ i e above below hit. looks.missed i e above below (hit_so h table symbols Q P back i e hit);
    stop = stops_so looks.last looks.here a looks.stop;
    counted = looks.counted;
  }

-- a look-up for one of two properties that are true together is a look-up for the other
pub looks_alike : {E : Type 0} (P Q : ℕ × E → Type 0) → ((at : ℕ × E) → P at → Q at) → ((at : ℕ × E) → Q at → P at) → (table : GnuHashTable) (symbols : List E) (name : List ℕ) (a : Result (Option (ℕ × E)) LinkError) (n : ℕ) → GnuLooksWhere P table symbols name a n → GnuLooksWhere Q table symbols name a n
looks_alike P Q to back table symbols name _ _ (no_run none) = no_run none
looks_alike P Q to back table symbols name _ _ (too_early from starts early) = too_early from starts early
looks_alike P Q to back table symbols name _ _ (goes from n a starts begins looks) =
    goes from n a starts begins (from_so (gnu_hash_number name) table symbols P Q to back from n a looks)

-- a look-up by a test of an index and a symbol that has the results of a test of the symbol is one by the latter
pub looks_by_symbol : {F G E : Type 0} (test : Shared F (Bor E × Unit {0}) Bool) (f : F) (wrapped : Shared G (ℕ × (Bor E × Unit {0})) Bool) (g : G) (table : GnuHashTable) (symbols : Symbols E) (name : List ℕ) (a : Result (Option (ℕ × E)) LinkError) (n : ℕ) → (DecidesWhere symbols wrapped g → GnuLooksWhere (IsMatchWhere symbols wrapped g name) table symbols.items name a n) → ((i : ℕ) (e : Bor E) (r : Bool) → wrapped.post g (i, (e, tt)) r → FnReturnsAt test f e.now r) → ((i : ℕ) (e : Bor E) (r : Bool) → FnReturnsAt test f e.now r → wrapped.post g (i, (e, tt)) r) → Decides symbols test f → Looks (IsMatch symbols test f name) table symbols.items name a n
looks_by_symbol test f wrapped g table symbols name a n looks from to d =
    looks_alike (IsMatchWhere symbols wrapped g name) (λ at. IsMatch symbols test f name at.1)
    (λ at. (match_where test f wrapped g from to symbols name at).0)
    (λ at. (match_where test f wrapped g from to symbols name at).1)
    table symbols.items name a n (looks (decides_where test f wrapped g from to symbols d))
