-- For callers of look-ups with their own test: what follows if nothing is found; and a test of a symbol as one of
-- its index too.
use Rattle.std.proofs.Common.{◌≡◌, ℕ, ◌↔◌, List, Option, None, Result, Ok, Bool, true, false, refl, subst}
use Rattle.std.proofs.lemmas.Option.{slice_get_within, get_or_from_slice_get}
use Rattle.std.specs.Borrow.{Bor}
use Rattle.std.specs.Fn.{Shared, FnReturnsAt}
use Rattle.xmas_elf.specs.Prelude.{ElfError, HashTable}
use Rattle.xmas_elf.specs.HashTable.{FindsAll, Looks, LooksWhere}
use Rattle.xmas_elf.specs.Symbol.{IsGlobal, Symbols}
use Rattle.xmas_elf.proofs.lemmas.Traversals.{looks_alike}
use Rattle.xmas_elf.specs.Symbols.{Decides, DecidesWhere, IsMatch, IsMatchWhere, ReturnsWhere}
-- the check of a table has only one result
pub use Rattle.xmas_elf.proofs.ChainChecks.{check_once}

-- a test that passes each symbol with P
module _ {F E : Type 0} (test : Shared F (Bor E × Unit {0}) Bool) (f : F) (P : E → Type 0) (passes : (e : Bor E) → P e.now → test.post f (e, tt) true) where
  pub passes_at : (e : E) → P e → FnReturnsAt test f e true
  passes_at e has = record { shown = record { ref_ptr = (0, 0); now = e }; shows = refl; says = record { met = passes (record { ref_ptr = (0, 0); now = e }) has } }

  -- if nothing is found in a good table, no symbol with the name that isn't local has P
  pub none_with : (symbols : Symbols E) (name : List ℕ) (answer : Result (Option (ℕ × E)) ElfError) → answer ≡ Ok None → FindsAll symbols name (IsMatch symbols test f name) answer → (i : ℕ) (e : E) → IsGlobal symbols i e name → ¬ P e
  none_with symbols name answer is_none finds i e global has =
      let none : FindsAll symbols name (IsMatch symbols test f name) (Ok None) = subst (FindsAll symbols name (IsMatch symbols test f name)) is_none finds in
      none (i, e, global, (global.named, passes_at e has))

-- a test that passes every symbol: no symbol with the name isn't local
module _ {F E : Type 0} (test : Shared F (Bor E × Unit {0}) Bool) (f : F) (passes : (e : Bor E) → test.post f (e, tt) true) where
  pub none_global : (symbols : Symbols E) (name : List ℕ) (answer : Result (Option (ℕ × E)) ElfError) → answer ≡ Ok None → FindsAll symbols name (IsMatch symbols test f name) answer → (i : ℕ) (e : E) → ¬ IsGlobal symbols i e name
  none_global symbols name answer is_none finds i e global =
      none_with test f (λ _. Unit {0}) (λ other _. passes other) symbols name answer is_none finds i e global tt

-- a test of an index and a symbol that has the results of a test of the symbol
module _ {F G E : Type 0} (test : Shared F (Bor E × Unit {0}) Bool) (f : F) (wrapped : Shared G (ℕ × (Bor E × Unit {0})) Bool) (g : G) (from : (i : ℕ) (e : Bor E) (r : Bool) → wrapped.post g (i, (e, tt)) r → FnReturnsAt test f e.now r) (to : (i : ℕ) (e : Bor E) (r : Bool) → FnReturnsAt test f e.now r → wrapped.post g (i, (e, tt)) r) where
  returns_from : (at : ℕ × E) (r : Bool) → ReturnsWhere wrapped g at r → FnReturnsAt test f at.1 r
  returns_from at r w = subst (λ x. FnReturnsAt test f x r) w.shows (from at.0 w.shown r w.says.met)

  returns_to : (at : ℕ × E) (r : Bool) → FnReturnsAt test f at.1 r → ReturnsWhere wrapped g at r
  returns_to at r w = record { shown = w.shown; shows = w.shows; says = record { met = to at.0 w.shown r (record { shown = w.shown; shows = refl; says = w.says }) } }

  -- if the test of the symbol has one result for each symbol, so has the other
  pub decides_where : (symbols : Symbols E) → Decides symbols test f → DecidesWhere symbols wrapped g
  decides_where symbols d i e fits at passed failed = d e (i, slice_get_within symbols.items i e at, get_or_from_slice_get symbols.items i e e at) (returns_from (i, e) true passed) (returns_from (i, e) false failed)

  -- the same symbols match
  pub match_where : (symbols : Symbols E) (name : List ℕ) (at : ℕ × E) → IsMatchWhere symbols wrapped g name at ↔ IsMatch symbols test f name at.1
  match_where symbols name at = (λ m. (m.0, returns_from at true m.1), λ m. (m.0, returns_to at true m.1))

-- a look-up by a test of an index and a symbol that has the results of a test of the symbol is one by the latter
pub looks_by_symbol : {F G E : Type 0} (test : Shared F (Bor E × Unit {0}) Bool) (f : F) (wrapped : Shared G (ℕ × (Bor E × Unit {0})) Bool) (g : G) (table : HashTable) (symbols : Symbols E) (name : List ℕ) (a : Result (Option (ℕ × E)) ElfError) (n : ℕ) → (DecidesWhere symbols wrapped g → LooksWhere (IsMatchWhere symbols wrapped g name) table symbols.items name a n) → ((i : ℕ) (e : Bor E) (r : Bool) → wrapped.post g (i, (e, tt)) r → FnReturnsAt test f e.now r) → ((i : ℕ) (e : Bor E) (r : Bool) → FnReturnsAt test f e.now r → wrapped.post g (i, (e, tt)) r) → Decides symbols test f → Looks (IsMatch symbols test f name) table symbols.items name a n
looks_by_symbol test f wrapped g table symbols name a n looks from to d =
    looks_alike (IsMatchWhere symbols wrapped g name) (λ at. IsMatch symbols test f name at.1) _
    (λ at. (match_where test f wrapped g from to symbols name at).0)
    (λ at. (match_where test f wrapped g from to symbols name at).1)
    _ a n (looks (decides_where test f wrapped g from to symbols d))
