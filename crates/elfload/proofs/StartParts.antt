-- The functions of a step, and the text of what runs.
use Rattle.std.proofs.Common.{◌≡◌, ◌<◌, ◌≤◌, ◌+◌, ◌++◌, ◌∷◌, [], ℕ, List, Option, Some, None, Result, Ok, Err, length, get_or, take, refl, ap, sym, subst, ◌∙◌, arith}
use Rattle.std.proofs.KnownBytes.{Appends-trans}
use Rattle.std.specs.Borrow.{Bor}
use Rattle.std.specs.Io.KnownBytes.{Appends}
use Rattle.std.specs.List.{flat_map}
use Rattle.std.specs.Prelude.{MatchResult, slice_get, ⊤}
use Rattle.std.proofs.lemmas.List.{take_more}
use Rattle.std.proofs.lemmas.Option.{slice_get_within}
use Rattle.elf_loading.specs.ImageWords.{MatchBoth}
use Rattle.elfload.proofs.WordLines.{flat_map_more}
use Rattle.elfload.specs.Starts.{IsGroup, IsPartError, IsPartOf, IsStepFailed}
use Rattle.elfload.specs.Types.{DynamicObject, Input, LoadError, Stop}
use Rattle.elfload.specs.declared.starts.Start.{Start}
use Rattle.elfload.specs.declared.steps.Step.{Step}
use Rattle.linking_programs.specs.declared.Failed as reasons
use Rattle.program_ends.proofs.Ends.{stop_so}
use Rattle.program_ends.specs.Appended.{AppendsSome}
use Rattle.program_ends.specs.Stops.{IsStop}
use Rattle.program_ends.specs.declared.Stop.TheVariants.{Memory}
use Rattle.xmas_elf.specs.Symbol.{SymbolFields}

-- a step by the object and the file at its index
module _ {E : Type 0} {r : _} (fields : E → SymbolFields) (inputs : List Input) (objects : List (DynamicObject E r)) (of_step : Step) where
  pub of_part : {V : Type 0} (items : V → List Start) (object : DynamicObject E r) (input : Input) (path : Bor (List ℕ)) (result : Result V (Stop (reasons.Failed LoadError))) → slice_get objects of_step.of ≡ Some object → slice_get inputs of_step.of ≡ Some input → path ≡ input.path
      → MatchResult result (λ starts. IsPartOf fields objects object path of_step of_step.part (items starts)) (IsStop (λ failed. (failed.path ≡ path) × IsPartError fields objects of_step.of object of_step.part failed.error) ⊥ ⊤)
      → MatchResult result (λ starts. IsGroup fields inputs objects of_step (items starts)) (IsStop (IsStepFailed fields inputs objects of_step) ⊥ ⊤)
  of_part items object input path (Ok starts) there given named is =
      rw (there, given) (subst (λ (p : Bor (List ℕ)). IsPartOf fields objects object p of_step of_step.part (items starts)) named is)
  of_part items object input path (Err stop) there given named why =
      stop_so _ _ _ _ _ _ stop (λ failed told. rw (there, given) (subst (λ (p : Bor (List ℕ)). failed.path ≡ p) named told.0, told.1)) (λ never. never) (λ short. short) why

  pub no_object : (starts : List Start) → length objects ≤ of_step.of → starts ≡ [] → IsGroup fields inputs objects of_step starts
  no_object starts beyond none = go (slice_get objects of_step.of) refl
    where
      go : (found : Option (DynamicObject E r)) → slice_get objects of_step.of ≡ found → MatchBoth found (slice_get inputs of_step.of) (starts ≡ []) (λ object input. IsPartOf fields objects object input.path of_step of_step.part starts)
      go None is = none
      go (Some object) is = let below : of_step.of < length objects = slice_get_within objects of_step.of object is in absurd (omega (arith, below, beyond))

-- a value, or memory was short
pub memory_only : {A F : Type 0} (Was Is : A → Type 0) (Fails : F → Type 0) (result : Result A (Stop F)) → ((value : A) → Was value → Is value) → MatchResult result Was (λ stop. stop ≡ Memory) → MatchResult result Is (IsStop Fails ⊥ ⊤)
memory_only Was Is Fails (Ok value) so is = so value is
memory_only Was Is Fails (Err stop) so is = subst (IsStop Fails ⊥ ⊤) (sym is) tt

-- a text with one property was written, where that implies another
pub written_so : {A F : Type 0} (contents : A → Option (List ℕ)) (old : Option (List ℕ)) (Was Is : List ℕ → Type 0) (WasFailed IsFailed : F → Type 0) (Begun : Type 0) (result : Result A (Stop F)) → ((text : List ℕ) → Was text → Is text) → ((failed : F) → WasFailed failed → IsFailed failed)
    → MatchResult result (λ back. AppendsSome Was old (contents back)) (IsStop WasFailed Begun ⊤) → MatchResult result (λ back. AppendsSome Is old (contents back)) (IsStop IsFailed ⊤ ⊤)
written_so contents old Was Is WasFailed IsFailed Begun (Ok back) so failed (text, was, grown) = (text, so text was, grown)
written_so contents old Was Is WasFailed IsFailed Begun (Err stop) so failed why = stop_so _ _ _ _ _ _ stop failed (λ begun. tt) (λ short. short) why

-- the texts of some items and one more
pub one_text : {A : Type 0} (text_of : A → List ℕ) (items : List A) (index : ℕ) (other : A) (old mid new : Option (List ℕ)) → index < length items → Appends old mid (flat_map text_of (take index items)) → Appends mid new (text_of (get_or items index other))
    → Appends old new (flat_map text_of (take (index + 1) items))
one_text text_of items index other old mid new below before more = subst (Appends old new)
    (sym (flat_map_more text_of (take index items) (get_or items index other)) ∙ ap (flat_map text_of) (sym (take_more items index other below)))
    (Appends-trans old mid new (flat_map text_of (take index items)) (text_of (get_or items index other)) before more)
