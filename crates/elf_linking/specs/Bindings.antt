-- The references of all objects of a scope, and what each gets (gABI, "Relocation" and "Dynamic Section"). They come in
-- the order of the scope; this order is the project's own.
use Rattle.std.specs.Prelude.{◌≡◌, ℕ, ◌+◌, List, [], ◌∷◌, ◌++◌, drop, map, slice_get, Option, None, Some, Result, Ok, Err, MatchOption, ⊤}
use Rattle.elf_linking.specs.DynamicObject.{object_file, object_view}
use Rattle.elf_linking.specs.DynamicView.{view_entries}
use Rattle.elf_linking.specs.References.{references_left, references_of}
use Rattle.elf_linking.specs.Scope.{AreGood, BindsReference, HasNamedSymbol, IsReferenceBound, asked_of, asked_parts, scope_objects}
use Rattle.elf_linking.specs.VersionTables.{result_map}
use Rattle.elf_linking.specs.declared.error.LinkError.{LinkError}
use Rattle.elf_linking.specs.declared.error.LinkError.TheVariants.{ObjectIndex}
use Rattle.elf_linking.specs.declared.object.DynamicObject.{DynamicObject}
use Rattle.elf_linking.specs.declared.references.Reference.{Reference}
use Rattle.elf_linking.specs.declared.references.References.{References}
use Rattle.elf_linking.specs.declared.scope.Bound.{Bound}
use Rattle.elf_linking.specs.declared.scope.asking.Asked.{Asked}
use Rattle.elf_linking.specs.declared.scope.bindings.Binding.{Binding}
use Rattle.elf_linking.specs.declared.scope.bindings.Bindings.{Bindings}
use Rattle.xmas_elf.specs.Symbol.{SymbolFields}

-- what a reference of the object at index `from` asks for, or the error
abbrev pub IsAskedAt : {E : Type 0} → {r : _} → (E → SymbolFields) → List (DynamicObject E r) → ℕ → Reference → Result (Asked E) LinkError → Type 0
IsAskedAt fields objects from reference asked = MatchOption (slice_get objects from) (asked ≡ Err ObjectIndex)
    (λ asking. result_map asked_parts asked ≡ asked_of fields asking reference)

-- in objects whose look-ups find what they must, a reference with a symbol whose name can be read gets the symbol that
-- the lists of symbols say, and no error
pub record IsBoundRight {E : Type 0} {r : _} (fields : E → SymbolFields) (objects : List (DynamicObject E r)) (from : ℕ) (reference : Reference) (bound : Result (Option (Bound E)) LinkError) : Type 0 where
  pub right : AreGood fields objects → HasNamedSymbol fields objects from reference → BindsReference fields objects from reference bound

-- the reference of a binding asks for what the binding says, and gets the symbol that `bind` returns
abbrev pub IsBindingOf : {E : Type 0} → {r : _} → (E → SymbolFields) → List (DynamicObject E r) → Binding E → Type 0
IsBindingOf fields objects binding = IsAskedAt fields objects binding.from binding.reference binding.asked
    × IsReferenceBound fields objects binding.from binding.reference binding.bound
    × IsBoundRight fields objects binding.from binding.reference binding.bound

-- the same of an item; an error is that of the relocations of an object
abbrev pub IsItemOf : {E : Type 0} → {r : _} → (E → SymbolFields) → List (DynamicObject E r) → Result (Binding E) (ℕ × LinkError) → Type 0
IsItemOf fields objects (Ok binding) = IsBindingOf fields objects binding
IsItemOf fields objects (Err _) = ⊤

-- the references of the object at an index, each with the index; or the error of its relocations
abbrev pub references_with : ℕ → Result (List Reference) LinkError → List (ℕ × Result Reference LinkError)
references_with from (Ok references) = map (λ reference. (from, Ok reference)) references
references_with from (Err error) = (from, Err error) ∷ []

-- the references of objects that follow one another in a scope, the first at index `from`: each with the index of its
-- object, or the error of an object's relocations
abbrev pub references_from : {E : Type 0} → {r : _} → ℕ → List (DynamicObject E r) → List (ℕ × Result Reference LinkError)
references_from from [] = []
references_from from (object ∷ rest) =
    references_with from (references_of (object_file object) (view_entries (object_view object))) ++ references_from (from + 1) rest

-- the reference of an item, with the index of its object
abbrev pub reference_of_item : {E : Type 0} → Result (Binding E) (ℕ × LinkError) → ℕ × Result Reference LinkError
reference_of_item (Ok binding) = (binding.from, Ok binding.reference)
reference_of_item (Err failed) = (failed.0, Err failed.1)

-- the references that are left of the object that was read last
abbrev pub current_left : Option References → List Reference
current_left None = []
current_left (Some references) = references_left references

-- the scope of an iterator
abbrev pub bindings_objects : {E : Type 0} → {r : _} → Bindings E r → List (DynamicObject E r)
bindings_objects iter = (scope_objects iter.scope).now

-- the references that an iterator has not yet returned
abbrev pub bindings_left : {E : Type 0} → {r : _} → Bindings E r → List (ℕ × Result Reference LinkError)
bindings_left iter = references_with iter.from (Ok (current_left iter.references))
    ++ references_from iter.next (drop iter.next (bindings_objects iter))
