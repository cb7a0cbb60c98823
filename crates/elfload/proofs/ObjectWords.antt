-- What is written of an object: its heading, and its words.
use Rattle.std.proofs.Common.{◌≡◌, ℕ, ◌++◌, List, Option, Some, None, Result, Ok, Err, refl, sym, subst}
use Rattle.std.specs.Borrow.{Bor}
use Rattle.std.specs.Io.KnownBytes.{Appends}
use Rattle.std.specs.Prelude.{IsSomeAnd, MatchResult, slice_get, ⊤}
use Rattle.std.proofs.KnownBytes.{Appends-trans}
use Rattle.elf_linking.specs.DynamicObject.{object_file}
use Rattle.elf_linking.specs.References.{file_machine}
use Rattle.elfload.specs.Types.{Binding, DynamicObject, Input, LoadError, Stop, Words}
use Rattle.elf_loading.specs.WordsLeft.{AreWordsOf, relocations_left, own_relocations}
use Rattle.linking_programs.specs.Files.{IsOfInput}
use Rattle.elfload.specs.Words.{IsItemsText, IsObjectText, IsTextError, IsWordError, by_word, heading_text, place_of}
use Rattle.linking_programs.specs.declared.Failed as reasons
use Rattle.program_ends.proofs.Ends.{stop_so}
use Rattle.program_ends.specs.Appended.{AppendsSome}
use Rattle.program_ends.specs.Stops.{IsStop}
use Rattle.program_ends.specs.declared.json.Form.{Form}
use Rattle.xmas_elf.specs.Symbol.{SymbolFields}

-- a property of what is there, where another holds
pub some_so : {A : Type 0} (found : Option A) (P Q : A → Type 0) → ((item : A) → P item → Q item) → IsSomeAnd found P → IsSomeAnd found Q
some_so None P Q so never = never
some_so (Some item) P Q so is = so item is

module _ {E : Type 0} {r : _} (fields : E → SymbolFields) (form : Form) (when : Binding) (inputs : List Input) (objects : List (DynamicObject E r)) (lent : Bor (List (DynamicObject E r))) (same : lent.now ≡ objects) (of machine : ℕ) (object : DynamicObject E r) (words : Words E r) (path : Bor (List ℕ)) (old begun : Option (List ℕ)) (there : slice_get objects of ≡ Some object) (by : machine ≡ file_machine (object_file object)) (are : AreWordsOf lent of when words) (left : own_relocations (slice_get objects of) ≡ Ok (relocations_left words)) (named : IsSomeAnd (slice_get inputs of) (λ input. path ≡ input.path)) (heading : Appends old begun (heading_text form path.now)) where
  pub object_ends : (new : Option (List ℕ)) (result : Result (Unit {0}) (Stop (reasons.Failed LoadError))) → MatchResult result (λ done. AppendsSome (IsItemsText fields (place_of form path machine of) words) begun new) (IsStop (λ failed. (failed.path ≡ path) × IsWordError fields words failed.error) ⊤ ⊥)
      → MatchResult result (λ done. IsSomeAnd (slice_get objects of) (λ one. AppendsSome (IsObjectText fields form when inputs objects of one) old new)) (IsStop (λ failed. IsOfInput inputs of failed × IsTextError fields when objects of failed.error) ⊤ ⊥)
  object_ends new (Ok done) (text, items, grown) = subst (λ found. IsSomeAnd found (λ one. AppendsSome (IsObjectText fields form when inputs objects of one) old new)) (sym there) (
    heading_text form path.now ++ text,
    record {
      lent = lent;
      lent_is = same;
      words = words;
      words_are = are;
      left = subst (λ found. own_relocations found ≡ Ok (relocations_left words)) there left;
      items = text;
      text_is = some_so (slice_get inputs of) (λ (input : Input). path ≡ input.path)
          (λ (input : Input). IsItemsText fields (place_of form input.path (file_machine (object_file object)) of) words text × (heading_text form path.now ++ text ≡ heading_text form input.path.now ++ text))
          (λ (input : Input) is. (
            subst (λ (p : Bor (List ℕ)). IsItemsText fields (place_of form p (file_machine (object_file object)) of) words text) is (subst (λ m. IsItemsText fields (place_of form path m of) words text) by items),
            subst (λ (p : Bor (List ℕ)). heading_text form path.now ++ text ≡ heading_text form p.now ++ text) is refl,
          )) named;
    },
    Appends-trans _ _ _ _ _ heading grown,
  )
  object_ends new (Err stop) why = stop_so _ _ _ _ _ _ stop (λ failed told. (
    some_so (slice_get inputs of) (λ (input : Input). path ≡ input.path) (λ (input : Input). failed.path ≡ input.path) (λ (input : Input) is. subst (λ (p : Bor (List ℕ)). failed.path ≡ p) is told.0) named,
    by_word lent words failed.error same are told.1,
  )) (λ written. written) (λ never. never) why

  -- the same with the binding that is asked for
  pub object_ends_asked : (asked : Binding) → when ≡ asked → (new : Option (List ℕ)) (result : Result (Unit {0}) (Stop (reasons.Failed LoadError))) → MatchResult result (λ done. AppendsSome (IsItemsText fields (place_of form path machine of) words) begun new) (IsStop (λ failed. (failed.path ≡ path) × IsWordError fields words failed.error) ⊤ ⊥)
      → MatchResult result (λ done. IsSomeAnd (slice_get objects of) (λ one. AppendsSome (IsObjectText fields form asked inputs objects of one) old new)) (IsStop (λ failed. IsOfInput inputs of failed × IsTextError fields asked objects of failed.error) ⊤ ⊥)
  object_ends_asked asked asked_is new result is =
      subst (λ (w : Binding). MatchResult result (λ done. IsSomeAnd (slice_get objects of) (λ one. AppendsSome (IsObjectText fields form w inputs objects of one) old new)) (IsStop (λ failed. IsOfInput inputs of failed × IsTextError fields w objects of failed.error) ⊤ ⊥))
      asked_is (object_ends new result is)
