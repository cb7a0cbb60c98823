-- The steps of a start so far.
use Rattle.std.proofs.Common.{◌≡◌, ◌<◌, ◌+◌, ◌++◌, ◌∷◌, [], ℕ, List, drop, length, get_or, take, ap, sym, ◌∙◌, append_assoc, append-nil}
use Rattle.std.proofs.lemmas.List.{take_more}
use Rattle.elfload.proofs.WordLines.{flat_map_more}
use Rattle.elfload.specs.Starts.{library_steps, own_steps, place_in, start_steps, step}
use Rattle.elfload.specs.declared.steps.Part.TheVariants.{Entry, Preinit}
use Rattle.elfload.specs.declared.steps.Step.{Step}

module _ (list : List ℕ) where
  -- the steps before, and those of the libraries with these numbers
  pub record AreStepsOf (before : List Step) (numbers : List ℕ) (steps : List Step) : Type 0 where
    pub are : steps ≡ before ++ library_steps list numbers

  pub steps_none : (before : List Step) → AreStepsOf before [] before
  steps_none before = record { are = sym (append-nil before) }

  pub steps_more : (before : List Step) (numbers : List ℕ) (index place : ℕ) (steps more : List Step) → AreStepsOf before (take index numbers) steps → index < length numbers
      → place ≡ place_in list (get_or numbers index 0) → more ≡ steps ++ own_steps place → AreStepsOf before (take (index + 1) numbers) more
  steps_more before numbers index place steps more so_far below place_is grown = record {
    are = grown ∙ ap (λ those. those ++ own_steps place) so_far.are
        ∙ ap (λ p. (before ++ library_steps list (take index numbers)) ++ own_steps p) place_is
        ∙ append_assoc before (library_steps list (take index numbers)) (own_steps (place_in list (get_or numbers index 0)))
        ∙ ap (λ rest. before ++ rest) (sym (flat_map_more (λ number. own_steps (place_in list number)) (take index numbers) (get_or numbers index 0)))
        ∙ ap (λ those. before ++ library_steps list those) (sym (take_more numbers index 0 below));
  }

  pub steps_all : (starts first others : List ℕ) (early : ℕ) (none begun entered led started whole : List Step) → none ≡ [] → begun ≡ none ++ library_steps list first → entered ≡ begun ++ (step Preinit 0 ∷ [])
      → led ≡ entered ++ library_steps list others → started ≡ led ++ (step Entry 0 ∷ []) → whole ≡ started ++ own_steps 0
      → first ≡ take early starts → others ≡ drop early starts → whole ≡ start_steps list starts early
  steps_all starts first others early none begun entered led started whole none_is begun_is entered_is led_is started_is whole_is first_is others_is =
      whole_is ∙ ap (λ those. those ++ own_steps 0) (started_is ∙ ap (λ those. those ++ (step Entry 0 ∷ [])) (led_is
      ∙ ap (λ those. those ++ library_steps list others) (entered_is ∙ ap (λ those. those ++ (step Preinit 0 ∷ [])) (begun_is ∙ ap (λ those. those ++ library_steps list first) none_is))))
      ∙ append_assoc ((library_steps list first ++ (step Preinit 0 ∷ [])) ++ library_steps list others) (step Entry 0 ∷ []) (own_steps 0)
      ∙ append_assoc (library_steps list first ++ (step Preinit 0 ∷ [])) (library_steps list others) (step Entry 0 ∷ own_steps 0)
      ∙ append_assoc (library_steps list first) (step Preinit 0 ∷ []) (library_steps list others ++ (step Entry 0 ∷ own_steps 0))
      ∙ ap (λ those. library_steps list those ++ (step Preinit 0 ∷ (library_steps list others ++ (step Entry 0 ∷ own_steps 0)))) first_is
      ∙ ap (λ those. library_steps list (take early starts) ++ (step Preinit 0 ∷ (library_steps list those ++ (step Entry 0 ∷ own_steps 0)))) others_is
