-- The lines of the items of a scope's bindings so far.
use Rattle.std.proofs.Common.{◌≡◌, ◌+◌, ◌++◌, ◌∷◌, [], ◌||◌, ℕ, zero, suc, Bool, false, List, Option, Some, None, refl, sym, ap, ◌∙◌, subst, arith, append-nil, slice_get}
use Rattle.std.specs.Prelude.{IsSome, IsSomeAnd, map}
use Rattle.elf_linking.specs.CheckedBindings.{all_bindings, bindings_at, bindings_from}
use Rattle.elf_linking.specs.CheckedScope.{bound_in}
use Rattle.elf_linking.specs.Exports.{ObjectParts, object_parts}
use Rattle.elf_linking.specs.declared.error.LinkError.{LinkError}
use Rattle.elf_linking.specs.declared.object.DynamicObject.{DynamicObject}
use Rattle.elf_linking.specs.declared.references.Reference.{Reference}
use Rattle.elf_linking.specs.declared.scope.Bound.{Bound}
use Rattle.elfbind.specs.declared.bindings.Style.{Style}
use Rattle.elfbind.specs.Bindings.{AreBindingsBegun, AreBindingsFailed, AreBindingsWritten, IsAtItem, IsErrorOf, IsItemOf, IsLine, line_of}
use Rattle.elfbind.specs.Files.{AreWritten}
use Rattle.linking_programs.specs.declared.Input.{Input}
use Rattle.linking_programs.specs.declared.Failed as reasons
use Rattle.elfbind.proofs.Steps.{AreWrittenSoFar, next_more, none_so_far}
use Rattle.program_ends.proofs.Ends.{stop_so}
use Rattle.program_ends.specs.Appended.{AppendsSome}
use Rattle.program_ends.specs.Stops.{IsStop}
use Rattle.program_ends.specs.declared.Stop.{Stop}
use Rattle.xmas_elf.specs.Symbol.{SymbolFields}

-- an item of `CheckedScope::bindings`
abbrev pub Item : Type 0
Item = ℕ × Option (Reference × Option (Bound SymbolFields))

none_only : {A P : Type 0} (item : A) → Some item ≡ None → P
none_only item never = absurd (cc)

module _ (objects : List ObjectParts) where
  -- all items are of these objects
  abbrev pub AreItems : List Item → Type 0
  AreItems [] = Unit {0}
  AreItems (item ∷ rest) = IsItemOf objects item × AreItems rest

  both_items : (some others : List Item) → AreItems some → AreItems others → AreItems (some ++ others)
  both_items [] others items more = more
  both_items (item ∷ some) others items more = (items.0, both_items some others items.1 more)

  here : (item : Item) (object : ObjectParts) → slice_get objects item.0 ≡ Some object → (item.1 ≡ None → object.references ≡ None) → IsItemOf objects item
  here item object at is = subst (λ found. IsSomeAnd found (λ one. item.1 ≡ None → one.references ≡ None)) (sym at) is

  each_item : (from : ℕ) (object : ObjectParts) → slice_get objects from ≡ Some object → (references : List Reference)
      → AreItems (map (λ reference. (from, Some (reference, bound_in objects from reference))) references)
  each_item from object at [] = tt
  each_item from object at (reference ∷ rest) = (here (from, Some (reference, bound_in objects from reference)) object at (none_only (reference, bound_in objects from reference)), each_item from object at rest)

  at_items : (from : ℕ) (object : ObjectParts) → slice_get objects from ≡ Some object → (references : Option (List Reference)) → object.references ≡ references
      → AreItems (bindings_at objects from references)
  at_items from object at None is = (here (from, None) object at (λ _. is), tt)
  at_items from object at (Some references) is = each_item from object at references

  from_items : (rest : List ObjectParts) (from : ℕ) → ((i : ℕ) (object : ObjectParts) → slice_get rest i ≡ Some object → slice_get objects (from + i) ≡ Some object)
      → AreItems (bindings_from objects from rest)
  from_items [] from are = tt
  from_items (object ∷ rest) from are =
      both_items _ _ (at_items from object (subst (λ i. slice_get objects i ≡ Some object) (omega arith) (are zero object refl)) object.references refl)
      (from_items rest (from + 1) (λ i one at. subst (λ k. slice_get objects k ≡ Some one) (omega arith) (are (suc i) one at)))

  pub all_items : AreItems (all_bindings objects)
  all_items = from_items objects 0 (λ i object at. subst (λ k. slice_get objects k ≡ Some object) (omega arith) at)

module _ (inputs : List Input) (objects : List ObjectParts) (style : Style) where
  -- with `left` still left of the items, the lines of those before them are written
  pub record AreLinesSoFar (left : List Item) (missing : Bool) (old new : Option (List ℕ)) : Type 0 where
    pub items : AreItems objects left
    pub lines : AppendsSome (AreWrittenSoFar (IsLine inputs objects style) (all_bindings objects) left missing) old new

  pub lines_begin : (left : List Item) (old : Option (List ℕ)) → left ≡ all_bindings objects → AreLinesSoFar left false old old
  lines_begin left old is = record {
    items = subst (AreItems objects) (sym is) (all_items objects);
    lines = none_so_far (IsLine inputs objects style) (all_bindings objects) left old is;
  }

  module _ (left later : List Item) (item : Item) (missing : Bool) (old before : Option (List ℕ)) (so_far : AreLinesSoFar left missing old before) (first : left ≡ item ∷ later) where
    pub item_is : IsItemOf objects item
    item_is = (subst (AreItems objects) first so_far.items).0

    pub lines_more : (own : Bool) (after : Option (List ℕ)) → AppendsSome (λ text. line_of inputs objects style item ≡ Some (own, text)) before after
        → AreLinesSoFar later (missing || own) old after
    lines_more own after line = record {
      items = (subst (AreItems objects) first so_far.items).1;
      lines = next_more (IsLine inputs objects style) (all_bindings objects) left later item missing own old before after first so_far.lines (λ index. line);
    }

    pub at_item : (P : Item → Type 0) → P item → IsAtItem inputs objects style P
    at_item P holds =
        let (text, earlier, grown) = so_far.lines in
        record {
          earlier = earlier.earlier;
          item = item;
          later = later;
          items_are = sym earlier.split ∙ ap (λ rest. earlier.earlier ++ rest) first;
          missing = missing;
          text = text;
          lines = earlier.so_far;
          here = holds;
        }

  pub lines_end : (left : List Item) (missing : Bool) (old new : Option (List ℕ)) → left ≡ [] → AreLinesSoFar left missing old new → AppendsSome (AreBindingsWritten inputs objects style missing) old new
  lines_end left missing old new end so_far =
      let (text, earlier, grown) = so_far.lines in
      let all : earlier.earlier ≡ all_bindings objects = sym (append-nil earlier.earlier) ∙ ap (λ rest. earlier.earlier ++ rest) (sym end) ∙ earlier.split in
      (text, subst (λ (items : List Item). AreWritten (IsLine inputs objects style) items missing text) all earlier.so_far, grown)

module _ {E : Type 0} {r : _} (fields : E → SymbolFields) (inputs : List Input) (objects : List (DynamicObject E r)) (style : Style) where
  -- why an item stops the lines
  pub lines_stop : (left later : List Item) (item : Item) (missing : Bool) (old before : Option (List ℕ)) → AreLinesSoFar inputs (map (object_parts fields) objects) style left missing old before → left ≡ item ∷ later
      → (stop : Stop (reasons.Failed LinkError)) → IsStop (IsErrorOf fields inputs objects item) (IsSome (line_of inputs (map (object_parts fields) objects) style item)) ⊥ stop
      → IsStop (AreBindingsFailed fields inputs objects style) (AreBindingsBegun inputs (map (object_parts fields) objects) style) ⊥ stop
  lines_stop left later item missing old before so_far first stop why =
      let here = at_item inputs (map (object_parts fields) objects) style left later item missing old before so_far first in
      stop_so _ _ _ _ _ _ stop (λ failed error. here (λ one. IsErrorOf fields inputs objects one failed) error)
      (λ some. here (λ one. IsSome (line_of inputs (map (object_parts fields) objects) style one)) some) (λ never. never) why
