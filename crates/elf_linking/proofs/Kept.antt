-- A search in one pass: what it has kept of the symbols before a place, and what it finds there.
use Rattle.std.proofs.Common.{◌≡◌, ◌≢◌, ℕ, ◌⊎◌, inl, inr, Bool, true, false, List, Option, Some, None, Ok, refl, subst, slice_get, if◌then◌else◌}
use Rattle.std.proofs.Math.Dec.{eqb}
use Rattle.std.proofs.lemmas.Bool.Decides.{eqb_tells}
use Rattle.elf_linking.specs.Find.{DynamicSymbols, IsAsked, IsFound, IsShown, Seeks, none_shown, one_shown, otherwise, two_shown}
use Rattle.elf_linking.specs.Kept.{GoesOn, keeps, kept_alone, kept_with, passed}
use Rattle.elf_linking.specs.declared.find.Use as uses
use Rattle.elf_linking.specs.declared.find.Wanted.{Wanted}
use Rattle.elf_linking.specs.declared.find.kept.Kept.{Kept}
use Rattle.elf_linking.specs.declared.find.kept.Kept.TheVariants.{Nothing, One, Several}

-- what was kept of the symbols before a place; Past P is that a look-up for P has found none of them
pub data IsKept {E : Type 0} (file : DynamicSymbols E) (name : List ℕ) (wanted : Wanted) (purpose : uses.Use) (Past : (ℕ × E → Type 0) → Type 0) : Kept E → Type 0 where
  nothing : ((but : Option ℕ) → Past (IsShown file name wanted purpose but)) → IsKept file name wanted purpose Past Nothing
  one : (i : ℕ) (e : E) → Seeks (IsShown file name wanted purpose None) file name (Ok (Some (i, e)))
      → Past (IsShown file name wanted purpose (Some i)) → IsKept file name wanted purpose Past (One i e)
  several : (at other : ℕ × E) → Seeks (IsShown file name wanted purpose None) file name (Ok (Some at))
      → Seeks (IsShown file name wanted purpose (Some at.0)) file name (Ok (Some other))
      → IsKept file name wanted purpose Past Several

-- a search comes to a place with what it has kept: no symbol before ended it
pub record Comes {E : Type 0} (file : DynamicSymbols E) (name : List ℕ) (wanted : Wanted) (purpose : uses.Use) (Past : (ℕ × E → Type 0) → Type 0) (kept : Kept E) : Type 0 where
  pub asked : Past (IsAsked file name wanted purpose)
  pub kept_so : IsKept file name wanted purpose Past kept

module _ {E : Type 0} (file : DynamicSymbols E) (name : List ℕ) (wanted : Wanted) (purpose : uses.Use) where
  abbrev Shown : Option ℕ → ℕ × E → Type 0
  Shown but = IsShown file name wanted purpose but

  pub comes_first : (Past : (ℕ × E → Type 0) → Type 0) → ((P : ℕ × E → Type 0) → Past P) → Comes file name wanted purpose Past Nothing
  comes_first Past all = record { asked = all (IsAsked file name wanted purpose); kept_so = nothing (λ but. all (Shown but)) }

  -- a search that finds nothing whatever it looks for
  pub found_none : ((P : ℕ × E → Type 0) → Seeks P file name (Ok None)) → IsFound file name wanted purpose (Ok None)
  found_none ends = otherwise None (ends (IsAsked file name wanted purpose)) (none_shown (ends (Shown None)))

  -- at the end of the chain the result is the one that was kept, if there is one
  pub found_end : (Past : (ℕ × E → Type 0) → Type 0) (kept : Kept E) → ((P : ℕ × E → Type 0) → Past P → Seeks P file name (Ok None)) → Comes file name wanted purpose Past kept → IsFound file name wanted purpose (Ok (kept_alone kept))
  found_end Past kept ends comes = go kept comes.kept_so
    where
      at_end : Seeks (IsAsked file name wanted purpose) file name (Ok None)
      at_end = ends (IsAsked file name wanted purpose) comes.asked

      go : (kept : Kept E) → IsKept file name wanted purpose Past kept → IsFound file name wanted purpose (Ok (kept_alone kept))
      go _ (nothing past) = otherwise None at_end (none_shown (ends (Shown None) (past None)))
      go _ (one i e seeks past) = otherwise (Some (i, e)) at_end (one_shown (i, e) seeks (ends (Shown (Some i)) past))
      go _ (several at other seeks second) = otherwise None at_end (two_shown at other seeks second)

  over : (Past Next : (ℕ × E → Type 0) → Type 0) (kept : Kept E) → ((but : Option ℕ) → Past (Shown but) → Next (Shown but)) → IsKept file name wanted purpose Past kept → IsKept file name wanted purpose Next kept
  over Past Next _ on (nothing past) = nothing (λ but. on but (past but))
  over Past Next _ on (one i e seeks past) = one i e seeks (on (Some i) past)
  over Past Next _ on (several at other seeks second) = several at other seeks second

  -- a place further on, up to which no look-up finds more
  pub comes_over : (Past Next : (ℕ × E → Type 0) → Type 0) (kept : Kept E) → ((P : ℕ × E → Type 0) → Past P → Next P) → Comes file name wanted purpose Past kept → Comes file name wanted purpose Next kept
  comes_over Past Next kept on comes = record { asked = on (IsAsked file name wanted purpose) comes.asked; kept_so = over Past Next kept (λ but. on (Shown but)) comes.kept_so }

  -- the place behind the symbol at index i, where a look-up for P stops if the symbol has P
  module _ (Past Next : (ℕ × E → Type 0) → Type 0) (i : ℕ) (miss : (P : ℕ × E → Type 0) → ((e : E) → slice_get file.symbols.items i ≡ Some e → P (i, e) → ⊥) → Past P → Next P) (hit : (P : ℕ × E → Type 0) (e : E) → slice_get file.symbols.items i ≡ Some e → P (i, e) → Past P → Seeks P file name (Ok (Some (i, e)))) where
    at_any : (but : Option ℕ) (at : ℕ × E) → Shown but at → Shown None at
    at_any but at shown = (shown.0, (shown.1.0, (shown.1.1.0, λ same. cc)))

    -- it is kept
    with_one : (kept : Kept E) (e : E) → slice_get file.symbols.items i ≡ Some e → Shown None (i, e) → IsKept file name wanted purpose Past kept → IsKept file name wanted purpose Next (kept_with i e kept)
    with_one _ e at shown (nothing past) =
        one i e (hit (Shown None) e at shown (past None)) (miss (Shown (Some i)) (λ d at' other. other.1.1.1 refl) (past (Some i)))
    with_one _ e at shown (one j d seeks past) = go (eqb j i) (eqb_tells j i)
      where
        go : (b : Bool) → ((b ≡ true) × (j ≡ i)) ⊎ ((b ≡ false) × (j ≢ i)) → IsKept file name wanted purpose Next (if b then One j d else Several)
        go true (inl (is, same)) = one j d seeks (miss (Shown (Some j)) (λ d' at' other. other.1.1.1 (cc)) past)
        go true (inr (is, differs)) = absurd (cc)
        go false (inl (is, same)) = absurd (cc)
        go false (inr (is, differs)) =
            several (j, d) (i, e) seeks (hit (Shown (Some j)) e at (shown.0, (shown.1.0, (shown.1.1.0, λ same. differs (cc)))) past)
    with_one _ e at shown (several one' other seeks second) = several one' other seeks second

    pub comes_next : (kept next : Kept E) → GoesOn file name wanted purpose kept i next → Comes file name wanted purpose Past kept → Comes file name wanted purpose Next next
    comes_next kept _ (passed none) comes = record {
      asked = miss (IsAsked file name wanted purpose) (λ e at asked. (none e at).0 asked) comes.asked;
      kept_so = over Past Next kept (λ but. miss (Shown but) (λ e at shown. (none e at).1 (at_any but (i, e) shown))) comes.kept_so;
    }
    comes_next kept _ (keeps e at failed shown) comes = record {
      asked = miss (IsAsked file name wanted purpose) (λ d at' asked. (let same : d ≡ e = cc in failed (subst (λ x. IsAsked file name wanted purpose (i, x)) same asked))) comes.asked;
      kept_so = with_one kept e at shown comes.kept_so;
    }
