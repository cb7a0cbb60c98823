-- The words of an object that are left (this project's own).
use Rattle.std.specs.Prelude.{◌≡◌, ℕ, List, Option, None, Some, Result, Err, slice_get}
use Rattle.std.specs.Borrow.{Bor}
use Rattle.elf_linking.specs.DynamicObject.{object_file, object_view}
use Rattle.elf_linking.specs.DynamicView.{view_entries}
use Rattle.elf_loading.specs.Types.{Binding, DynamicObject, LinkError, Relocated, Relocation}
use Rattle.elf_linking.specs.declared.error.LinkError.TheVariants.{ObjectIndex}
use Rattle.elf_linking.specs.Scope.{scope_objects}
use Rattle.elf_loading.specs.InOrder.{order_left, relocations_in_order}
use Rattle.elf_loading.specs.Words.{HasWord, binds_lazily}
use Rattle.xmas_elf.specs.Symbol.{SymbolFields}
use Rattle.elf_loading.specs.declared.words.Words.{Words}

-- the relocations of an object in their order, if there is such an object
abbrev pub own_relocations : {E : Type 0} → {r : _} → Option (DynamicObject E r) → Result (List Relocation) LinkError
own_relocations None = Err ObjectIndex
own_relocations (Some own) = relocations_in_order (object_file own) (view_entries (object_view own))

-- the objects of the scope
abbrev pub words_objects : {E : Type 0} → {r : _} → Words E r → Bor (List (DynamicObject E r))
words_objects words = scope_objects words.scope

-- the relocations whose words are left
abbrev pub relocations_left : {E : Type 0} → {r : _} → Words E r → List Relocation
relocations_left words = order_left words.order

-- an item has the symbol that its relocation gets, and the word that it writes, of the object of an iterator
abbrev pub HasWordOf : {E : Type 0} → {r : _} → (E → SymbolFields) → Words E r → Relocated E → Type 0
HasWordOf fields words item =
    HasWord fields (words_objects words).now words.file words.own.now words.of words.lazy item

-- two iterators are over the words of the same object
abbrev pub IsSame : {E : Type 0} → {r : _} → Words E r → Words E r → Type 0
IsSame one other = (words_objects other ≡ words_objects one) × (other.file ≡ one.file) × (other.own.now ≡ one.own.now)
    × (other.of ≡ one.of) × (other.lazy ≡ one.lazy)

-- the words are those of the object at an index of a scope
pub record AreWordsOf {E : Type 0} {r : _} (objects : Bor (List (DynamicObject E r))) (of : ℕ) (when : Binding) (words : Words E r) : Type 0 where
  pub objects_are : words_objects words ≡ objects
  pub own_is : slice_get objects.now of ≡ Some words.own.now
  pub file_is : words.file ≡ object_file words.own.now
  pub index_is : words.of ≡ of
  pub lazy_is : words.lazy ≡ binds_lazily (view_entries (object_view words.own.now)) when

-- the relocation of an item
abbrev pub relocation_of : {E : Type 0} → Relocated E → Relocation
relocation_of item = item.relocation
