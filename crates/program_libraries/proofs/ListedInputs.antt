-- The inputs of the numbers so far.
use Rattle.std.proofs.Common.{◌≡◌, ◌<◌, ◌≤◌, ◌+◌, ◌++◌, ◌∷◌, [], ℕ, List, Option, length, get_or, take, ap, sym, ◌∙◌, refl}
use Rattle.std.proofs.lemmas.List.{take_all, take_more}
use Rattle.std.proofs.lemmas.List.Elements.{filter_map-append}
use Rattle.std.specs.List.{cons_option, filter_map}
use Rattle.std.specs.Prelude.{map}
use Rattle.linking_programs.specs.declared.Input.{Input}
use Rattle.program_libraries.specs.Listed.{AreListed, input_parts, listed_file}
use Rattle.program_libraries.specs.declared.objects.Object.{Object}
use Rattle.program_libraries.specs.declared.store.StoredFile.{StoredFile}
use Rattle.program_libraries.specs.declared.trees.Tree.{Tree}

module _ (files : List StoredFile) (objects : List Object) where
  -- the inputs are the files of some numbers
  pub record AreListedOf (numbers : List ℕ) (inputs : List Input) : Type 0 where
    pub are : map input_parts inputs ≡ filter_map (listed_file files objects) numbers

  pub listed_none : AreListedOf [] []
  listed_none = record { are = refl }

  pub listed_more : (numbers : List ℕ) (index number : ℕ) (inputs more : List Input) (found : Option (List ℕ × List ℕ)) → AreListedOf (take index numbers) inputs → index < length numbers → number ≡ get_or numbers index 0
      → found ≡ listed_file files objects number → map input_parts more ≡ map input_parts inputs ++ cons_option found [] → AreListedOf (take (index + 1) numbers) more
  listed_more numbers index number inputs more found before below is found_is grown = record {
    are = grown ∙ ap (λ those. those ++ cons_option found []) before.are
        ∙ ap (λ one. filter_map (listed_file files objects) (take index numbers) ++ cons_option one []) found_is
        ∙ sym (filter_map-append (listed_file files objects) (take index numbers) (number ∷ []))
        ∙ ap (λ one. filter_map (listed_file files objects) (take index numbers ++ (one ∷ []))) is
        ∙ ap (filter_map (listed_file files objects)) (sym (take_more numbers index 0 below));
  }

pub listed_all : (files : List StoredFile) (tree : Tree) (index : ℕ) (inputs : List Input) → AreListedOf files tree.objects.items (take index tree.list.items) inputs → length tree.list.items ≤ index → AreListed files tree inputs
listed_all files tree index inputs so_far enough = so_far.are ∙ ap (filter_map (listed_file files tree.objects.items)) (take_all index tree.list.items enough)
