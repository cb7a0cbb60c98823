-- The references of all objects of a scope of files whose checks passed, and what each gets (gABI, "Relocation" and
-- "Dynamic Section"). They come in the order of the scope; this order is the project's own.
use Rattle.std.specs.Prelude.{ℕ, ◌+◌, ◌/◌, ◌==◌, not, Bool, true, false, List, [], ◌∷◌, ◌++◌, drop, filter, map, slice_get, Option, None, Some, option_map, Result, Ok, Err}
use Rattle.elf_linking.specs.Bindings.{current_left}
use Rattle.elf_linking.specs.CheckedScope.{bound_fields, bound_in}
use Rattle.elf_linking.specs.Exports.{ObjectParts}
use Rattle.elf_linking.specs.declared.checked.bindings.CheckedBinding.{CheckedBinding}
use Rattle.elf_linking.specs.declared.checked.bindings.CheckedBindings.{CheckedBindings}
use Rattle.elf_linking.specs.declared.checked.unresolved.Unresolved.{Unresolved}
use Rattle.elf_linking.specs.declared.references.Reference.{Reference}
use Rattle.elf_linking.specs.declared.scope.Bound.{Bound}
use Rattle.xmas_elf.specs.Symbol.{SymbolFields}

-- references of the object at an index of a scope, each with the index and with what it gets; None in the place of
-- relocations that can't be read
abbrev pub bindings_at : List ObjectParts → ℕ → Option (List Reference) → List (ℕ × Option (Reference × Option (Bound SymbolFields)))
bindings_at objects from None = (from, None) ∷ []
bindings_at objects from (Some references) = map (λ reference. (from, Some (reference, bound_in objects from reference))) references

-- the references of objects that follow one another in a scope, the first of them at index `from`: each with the index of
-- its object and with what it gets in the scope `objects`
abbrev pub bindings_from : List ObjectParts → ℕ → List ObjectParts → List (ℕ × Option (Reference × Option (Bound SymbolFields)))
bindings_from objects from [] = []
bindings_from objects from (object ∷ rest) = bindings_at objects from object.references ++ bindings_from objects (from + 1) rest

-- the references of all objects of a scope, in its order, each with the index of its object and with what it gets
abbrev pub all_bindings : List ObjectParts → List (ℕ × Option (Reference × Option (Bound SymbolFields)))
all_bindings objects = bindings_from objects 0 objects

-- what an item of an iterator says: the index of an object, a reference of it, and what that gets; of an error the index
-- alone, since the relocations of that object can't be read
abbrev pub item_parts : {E : Type 0} → (E → SymbolFields) → Result (CheckedBinding E) ℕ → ℕ × Option (Reference × Option (Bound SymbolFields))
item_parts fields (Ok binding) = (binding.from, Some (binding.reference, bound_fields fields binding.bound))
item_parts fields (Err from) = (from, None)

-- the objects of an iterator's scope
abbrev pub checked_objects : {E : Type 0} → CheckedBindings E → List ObjectParts
checked_objects iter = iter.scope

-- the items that an iterator has not yet returned
abbrev pub checked_left : {E : Type 0} → CheckedBindings E → List (ℕ × Option (Reference × Option (Bound SymbolFields)))
checked_left iter = let objects = checked_objects iter in
    bindings_at objects iter.from (Some (current_left iter.references)) ++ bindings_from objects iter.next (drop iter.next objects)

-- Those that get no symbol.

-- a symbol is weak (gABI, "Symbol Table": STB_WEAK, 2), if there is one
abbrev pub is_weak : Option SymbolFields → Bool
is_weak None = false
is_weak (Some fields) = fields.info / 16 == 2

-- the symbol at an index of an object is weak, if there are both
abbrev pub is_weak_in : Option ObjectParts → ℕ → Bool
is_weak_in None index = false
is_weak_in (Some object) index = is_weak (option_map (λ symbol. symbol.fields) (slice_get object.symbols index))

-- a reference gets no symbol and isn't weak; or the relocations of the object can't be read
abbrev pub is_unresolved : List ObjectParts → ℕ × Option (Reference × Option (Bound SymbolFields)) → Bool
is_unresolved objects (from, None) = true
is_unresolved objects (from, Some (reference, Some bound)) = false
is_unresolved objects (from, Some (reference, None)) = not (is_weak_in (slice_get objects from) reference.symbol)

-- the references of a scope that get no symbol and aren't weak, in its order
abbrev pub all_unresolved : List ObjectParts → List (ℕ × Option (Reference × Option (Bound SymbolFields)))
all_unresolved objects = filter (is_unresolved objects) (all_bindings objects)

-- those that an iterator has not yet returned
abbrev pub unresolved_left : {E : Type 0} → Unresolved E → List (ℕ × Option (Reference × Option (Bound SymbolFields)))
unresolved_left iter = filter (is_unresolved (checked_objects iter.bindings)) (checked_left iter.bindings)
