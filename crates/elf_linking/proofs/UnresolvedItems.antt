-- The remaining unresolved references of an iterator, reference by reference.
use Rattle.std.proofs.Common.{◌≡◌, ℕ, true, false, List, [], ◌∷◌, filter, Option}
use Rattle.elf_linking.specs.CheckedBindings.{is_unresolved}
use Rattle.elf_linking.specs.Exports.{ObjectParts}
use Rattle.elf_linking.specs.declared.references.Reference.{Reference}
use Rattle.elf_linking.specs.declared.scope.Bound.{Bound}
use Rattle.elf_linking.proofs.Filtered.{kept_first, kept_none, kept_other}
use Rattle.xmas_elf.specs.Symbol.{SymbolFields}

abbrev pub Item : Type 0
Item = ℕ × Option (Reference × Option (Bound SymbolFields))

pub missing_none : (objects : List ObjectParts) (items : List Item) → items ≡ [] → filter (is_unresolved objects) items ≡ []
missing_none objects = kept_none is_unresolved objects

pub missing_first : (objects after : List ObjectParts) (items others : List Item) (item : Item) → after ≡ objects → items ≡ item ∷ others → is_unresolved objects item ≡ true
    → filter (is_unresolved objects) items ≡ item ∷ filter (is_unresolved after) others
missing_first objects = kept_first is_unresolved objects

pub missing_other : (objects after : List ObjectParts) (items others : List Item) (item : Item) → after ≡ objects → items ≡ item ∷ others → is_unresolved objects item ≡ false
    → filter (is_unresolved objects) items ≡ filter (is_unresolved after) others
missing_other objects = kept_other is_unresolved objects
