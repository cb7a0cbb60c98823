-- What a search for the symbol that a reference gets keeps of the symbols that it passes, and where it ends.
use Rattle.std.specs.Prelude.{◌≡◌, ◌==◌, ℕ, List, slice_get, Option, Some, None, Result, if◌then◌else◌}
use Rattle.elf_linking.specs.Find.{DynamicSymbols, IsAsked, IsShown, accepted}
use Rattle.elf_linking.specs.VersionTables.{result_map}
use Rattle.elf_linking.specs.declared.error.LinkError.{LinkError}
use Rattle.elf_linking.specs.declared.find.Use as uses
use Rattle.elf_linking.specs.declared.find.Wanted.{Wanted}
use Rattle.elf_linking.specs.declared.find.kept.Kept.{Kept}
use Rattle.elf_linking.specs.declared.find.kept.Kept.TheVariants.{Nothing, One, Several}
use Rattle.elf_linking.specs.declared.find.kept.Step.{Step}
use Rattle.elf_linking.specs.declared.find.kept.Step.TheVariants.{End, On}

-- what is kept with one more candidate that the reference may fall back on
abbrev pub kept_with : {E : Type 0} → ℕ → E → Kept E → Kept E
kept_with i e Nothing = One i e
kept_with i e (One j d) = if j == i then One j d else Several
kept_with i e Several = Several

-- the one that was kept, if there is exactly one
abbrev pub kept_alone : {E : Type 0} → Kept E → Option (ℕ × E)
kept_alone (One i e) = Some (i, e)
kept_alone _ = None

-- a search goes on after index i: its symbol isn't asked, and is kept if the reference may fall back on it
pub data GoesOn {E : Type 0} (file : DynamicSymbols E) (name : List ℕ) (wanted : Wanted) (purpose : uses.Use) (kept : Kept E) (i : ℕ) : Kept E → Type 0 where
  passed : ((e : E) → slice_get file.symbols.items i ≡ Some e
      → ¬ IsAsked file name wanted purpose (i, e) × ¬ IsShown file name wanted purpose None (i, e))
      → GoesOn file name wanted purpose kept i kept
  keeps : (e : E) → slice_get file.symbols.items i ≡ Some e → ¬ IsAsked file name wanted purpose (i, e)
      → IsShown file name wanted purpose None (i, e)
      → GoesOn file name wanted purpose kept i (kept_with i e kept)

-- a search ends with a result at index i, whose symbol is asked
pub record EndsAt {E : Type 0} (file : DynamicSymbols E) (name : List ℕ) (wanted : Wanted) (purpose : uses.Use) (i : ℕ) (answer : Result (Option (ℕ × E)) LinkError) : Type 0 where
  pub entry : E
  pub symbol : slice_get file.symbols.items i ≡ Some entry
  pub asked : IsAsked file name wanted purpose (i, entry)
  pub is_answer : answer ≡ result_map (λ _. Some (i, entry)) (accepted file.versions wanted i)

-- one of these two, after index i
abbrev pub IsStep : {E : Type 0} → DynamicSymbols E → List ℕ → Wanted → uses.Use → Kept E → ℕ → Step E → Type 0
IsStep file name wanted purpose kept i (On next) = GoesOn file name wanted purpose kept i next
IsStep file name wanted purpose kept i (End answer) = EndsAt file name wanted purpose i answer
