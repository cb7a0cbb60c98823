-- The lines of the relocations of an object so far.
use Rattle.std.proofs.lemmas.List.{map-append}
use Rattle.std.proofs.Common.{◌≡◌, ℕ, List, [], ◌∷◌, ◌++◌, map, All, Option, Err, refl, sym, ap, ◌∙◌, subst, append_assoc, append-nil}
use Rattle.std.specs.Prelude.{IsOk}
use Rattle.std.specs.Io.KnownBytes.{Appends}
use Rattle.std.specs.List.{flat_map}
use Rattle.std.proofs.KnownBytes.{Appends-nil, Appends-trans}
use Rattle.std.proofs.lemmas.List.Elements.{All-nil, All-push}
use Rattle.elf_loading.proofs.ImageChecks.{has_word_of}
use Rattle.elf_loading.specs.WordsLeft.{HasWordOf, IsSame, relocation_of, relocations_left}
use Rattle.elfload.specs.Types.{LoadError, Relocated, Relocation, Words}
use Rattle.elfload.specs.Words.{HasKnownWord, IsItemsText, IsWordError, item_text}
use Rattle.elfload.specs.declared.words.Place.{Place}
use Rattle.program_ends.specs.Appended.{AppendsSome}
use Rattle.xmas_elf.specs.Symbol.{SymbolFields}

-- no bytes more
pub nothing_more : (old : Option (List ℕ)) → Appends old old []
nothing_more old = Appends-nil old

pub flat_map_more : {A B : Type 0} (f : A → List B) (xs : List A) (x : A) → flat_map f (xs ++ (x ∷ [])) ≡ flat_map f xs ++ f x
flat_map_more f [] x = append-nil (f x)
flat_map_more f (y ∷ ys) x = ap (λ rest. f y ++ rest) (flat_map_more f ys x) ∙ sym (append_assoc (f y) (flat_map f ys) (f x))

module _ {E : Type 0} {r : _} (fields : E → SymbolFields) where
  pub same_then : (one other next : Words E r) → IsSame one other → IsSame other next → IsSame one next
  same_then one other next (objects, file, own, index, lazy) (objects2, file2, own2, index2, lazy2) =
      (objects2 ∙ objects, file2 ∙ file, own2 ∙ own, index2 ∙ index, lazy2 ∙ lazy)

  module _ (place : Place) (words : Words E r) where
    -- with these relocations left, the text is that of those before them
    pub record IsTextSoFar (left : List Relocation) (text : List ℕ) : Type 0 where
      pub items : List (Relocated E)
      pub are : relocations_left words ≡ map relocation_of items ++ left
      pub have_words : All (HasWordOf fields words) items
      pub known : All HasKnownWord items
      pub text_is : text ≡ flat_map (item_text place) items

    -- the same of an iterator that has come this far
    pub record AreLinesSoFar (now : Words E r) (old new : Option (List ℕ)) : Type 0 where
      pub same : IsSame words now
      pub written : AppendsSome (IsTextSoFar (relocations_left now)) old new

    pub lines_begin : (now : Words E r) (old : Option (List ℕ)) → now ≡ words → AreLinesSoFar now old old
    lines_begin now old same = subst (λ w. AreLinesSoFar w old old) (sym same) (record {
      same = (refl, refl, refl, refl, refl);
      written = ([], record { items = []; are = refl; have_words = All-nil (HasWordOf fields words); known = All-nil HasKnownWord; text_is = refl }, Appends-nil old);
    })

    module _ (now next : Words E r) (item : Relocated E) (old before : Option (List ℕ)) (so_far : AreLinesSoFar now old before) (first : relocations_left now ≡ relocation_of item ∷ relocations_left next) (is : HasWordOf fields now item) where
      pub lines_more : (after : Option (List ℕ)) → IsSame now next → IsOk item.word → AppendsSome (λ text. text ≡ item_text place item) before after → AreLinesSoFar next old after
      lines_more after same known (line, line_is, more) =
          let (text, done, grown) = so_far.written in
          record {
            same = same_then words now next so_far.same same;
            written = (
              text ++ line,
              record {
                items = done.items ++ (item ∷ []);
                are = done.are ∙ ap (λ left. map relocation_of done.items ++ left) first
                    ∙ sym (append_assoc (map relocation_of done.items) (relocation_of item ∷ []) (relocations_left next))
                    ∙ ap (λ front. front ++ relocations_left next) (sym (map-append relocation_of done.items (item ∷ [])));
                have_words = All-push (HasWordOf fields words) done.items item done.have_words (has_word_of fields words now item so_far.same is);
                known = All-push HasKnownWord done.items item done.known known;
                text_is = ap (λ front. front ++ line) done.text_is ∙ ap (λ last. flat_map (item_text place) done.items ++ last) line_is
                    ∙ sym (flat_map_more (item_text place) done.items item);
              },
              Appends-trans _ _ _ _ _ grown more,
            );
          }

      pub lines_stop : (error : LoadError) → item.word ≡ Err error → IsWordError fields words error
      lines_stop error word =
          let (text, done, grown) = so_far.written in
          record {
            earlier = done.items;
            item = item;
            later = relocations_left next;
            are = done.are ∙ ap (λ left. map relocation_of done.items ++ left) first;
            known = done.known;
            has_word = has_word_of fields words now item so_far.same is;
            word_is = word;
          }

    pub lines_end : (now : Words E r) (old new : Option (List ℕ)) → relocations_left now ≡ [] → AreLinesSoFar now old new → AppendsSome (IsItemsText fields place words) old new
    lines_end now old new end so_far =
        let (text, done, grown) = so_far.written in (
          text,
          record {
            items = done.items;
            items_are = record {
              are = sym (done.are ∙ ap (λ left. map relocation_of done.items ++ left) end ∙ append-nil (map relocation_of done.items));
              have_words = done.have_words;
              known = done.known;
            };
            text_is = done.text_is;
          },
          grown,
        )
