-- The relocation of all objects of a process, whose images are one after another in memory (this project's own; the order
-- is that of glibc 2.36).
use Rattle.std.specs.Prelude.{◌≡◌, ◌≢◌, ℕ, ◌+◌, ◌-◌, ◌<◌, ◌≤◌, ◌^◌, min, slice_get, true, false, List, [], ◌∷◌, ◌++◌, drop, length, take, IfOk, IfErr, Option, None, Some, Result, Ok, Err}
use Rattle.std.specs.Borrow.{Bor}
use Rattle.elf_linking.specs.declared.error.LinkError.{LinkError}
use Rattle.elf_linking.specs.declared.error.LinkError.TheVariants.{ObjectIndex}
use Rattle.elf_linking.specs.declared.object.DynamicObject.{DynamicObject}
use Rattle.elf_loading.specs.OneWord.{HasErrorLeft, IsByOneWordIn}
use Rattle.elf_loading.specs.Plan.{plan_size}
use Rattle.elf_loading.specs.Relocate.{IsRelocationIn}
use Rattle.elf_loading.specs.WordErrors.{IsRelocationErrorIn, error_alone}
use Rattle.elf_loading.specs.declared.error.LoadError.{LoadError}
use Rattle.elf_loading.specs.declared.error.LoadError.TheVariants.{ImageSize}
use Rattle.elf_loading.specs.declared.plan.LoadPlan.{LoadPlan}
use Rattle.elf_loading.specs.declared.relocate.Place.{Place}
use Rattle.elf_loading.specs.declared.word_error.WordError.{WordError}
use Rattle.elf_loading.specs.declared.words.Binding.{Binding}
use Rattle.xmas_elf.specs.Symbol.{SymbolFields, dyn_entry_32_fields, dyn_entry_64_fields}
use Rattle.xmas_elf.specs.Types.{DynEntry32, DynEntry64}
use Rattle.elf_c.specs.LoadObjects.{AreObjectsOf, ArePlacesOf, ArePlansOf, IsFailedAt, IsUnplannedAt, failed_alone, failed_at, failed_in, is_first_narrow}
use Rattle.elf_c.specs.declared.load_objects.Failure.{Failure}
use Rattle.elf_c.specs.declared.load_objects.LoadObject.{LoadObject}
use Rattle.elf_c.specs.declared.load_objects.TheConstants.{MOST_OBJECTS}
use Rattle.elf_c.specs.declared.status.AnyError.{AnyError}
use Rattle.elf_c.specs.declared.status.AnyError.TheVariants.{Link, Load, ManyObjects}

-- The places of images in memory.

-- the number of bytes of the images of these plans
unfoldable pub total_size : List LoadPlan → ℕ
total_size [] = 0
total_size (plan ∷ plans) = plan_size plan + total_size plans

-- the size of the image of a plan, if there is one
abbrev pub size_in : Option LoadPlan → ℕ
size_in None = 0
size_in (Some plan) = plan_size plan

-- the size of the image at an index
abbrev pub size_at : List LoadPlan → ℕ → ℕ
size_at plans index = size_in (slice_get plans index)

-- the index in memory of the first byte of an image
abbrev pub begin_at : List LoadPlan → ℕ → ℕ
begin_at plans index = total_size (take index plans)

-- the image at an index, in the images after the one at index `of`
abbrev pub image_behind : List LoadPlan → ℕ → List ℕ → ℕ → List ℕ
image_behind plans of behind index = take (size_at plans index) (drop (begin_at plans index - begin_at plans (of + 1)) behind)

-- The relocation of objects.

-- what the relocation of the object at index `of` copies from: the images of the objects after it; the others are empty
pub record AreShown (plans : List LoadPlan) (of : ℕ) (behind : List ℕ) (images : List (Bor (List ℕ))) : Type 0 where
  pub same_count : length images ≡ length plans
  pub empty : (index : ℕ) (image : Bor (List ℕ)) → index ≤ of → slice_get images index ≡ Some image → image.now ≡ []
  pub shown : (index : ℕ) (image : Bor (List ℕ)) → of < index → slice_get images index ≡ Some image
      → image.now ≡ image_behind plans of behind index

-- the object at an index is relocated as the library says: its image is changed, and the rest of memory is not. If it is
-- Ok, the byte at each address that one word has is that of the word
pub record IsImageRelocated {E : Type 0} {r : _} (fields : E → SymbolFields) (objects : Bor (List (DynamicObject E r))) (plans : Bor (List LoadPlan)) (when : Binding) (places : List Place) (of : ℕ) (before after : List ℕ) (answer : Result ℕ WordError) : Type 0 where
  pub lent : Bor (List Place)
  pub places_are : lent.now ≡ places
  pub images : Bor (List (Bor (List ℕ)))
  pub front : List ℕ
  pub image : List ℕ
  pub written : List ℕ
  pub behind : List ℕ
  pub before_is : before ≡ front ++ (image ++ behind)
  pub after_is : after ≡ front ++ (written ++ behind)
  pub begin_is : length front ≡ begin_at plans.now of
  pub size_is : length image ≡ size_at plans.now of
  pub images_are : AreShown plans.now of behind images.now
  pub relocation : IsRelocationIn fields objects plans of when lent images image written (error_alone answer)
  pub once : IfOk (error_alone answer) (λ count. IsByOneWordIn fields objects plans of when lent images image written)
  pub errors : IfErr (error_alone answer) (HasErrorLeft fields objects.now plans.now of when)
  pub first : IfErr answer (IsRelocationErrorIn fields objects plans of when lent images (length image))

-- the objects from an index on are relocated, the last first, and this many of their words have no number
pub data AreRelocated {E : Type 0} {r : _} (fields : E → SymbolFields) (objects : Bor (List (DynamicObject E r))) (plans : Bor (List LoadPlan)) (when : Binding) (places : List Place) (before : List ℕ) : ℕ → List ℕ → ℕ → Type 0 where
  none_relocated : (from : ℕ) (after : List ℕ) (left : ℕ) → from ≡ length plans.now → after ≡ before → left ≡ 0
      → AreRelocated fields objects plans when places before from after left
  one_relocated : (of : ℕ) (middle after : List ℕ) (others count left : ℕ) → of < length plans.now
      → AreRelocated fields objects plans when places before (of + 1) middle others
      → IsImageRelocated fields objects plans when places of middle after (Ok count) → left ≡ min (others + count) (2 ^ 64 - 1)
      → AreRelocated fields objects plans when places before of after left

-- all objects are relocated, or those after the first one, from the last on, that can't be
pub data RelocatesEach {E : Type 0} {r : _} (fields : E → SymbolFields) (objects : Bor (List (DynamicObject E r))) (plans : Bor (List LoadPlan)) (when : Binding) (places : List Place) (before after : List ℕ) (result : Result ℕ Failure) : Type 0 where
  each_relocated : (left : ℕ) → AreRelocated fields objects plans when places before 0 after left → result ≡ Ok left
      → RelocatesEach fields objects plans when places before after result
  one_failed : (of : ℕ) (middle : List ℕ) (left : ℕ) (found : WordError) → of < length plans.now
      → AreRelocated fields objects plans when places before (of + 1) middle left
      → IsImageRelocated fields objects plans when places of middle after (Err found) → result ≡ Err (failed_in found of)
      → RelocatesEach fields objects plans when places before after result

-- The result of the call.

-- the result for files of one class
pub data RelocatesAllAs {E : Type 0} (r : _) (class size : ℕ) (fields : E → SymbolFields) (loads : List LoadObject) (when : Binding) (page limit : ℕ) (before after : List ℕ) (result : Result ℕ Failure) : Type 0 where
  all_relocated : (objects : Bor (List (DynamicObject E r))) (plans : Bor (List LoadPlan)) (places : List Place)
      → AreObjectsOf class size loads objects.now → ArePlansOf page limit objects.now plans.now → ArePlacesOf loads places
      → total_size plans.now ≡ length before → RelocatesEach fields objects plans when places before after result
      → RelocatesAllAs r class size fields loads when page limit before after result
  all_misfit : (objects : List (DynamicObject E r)) (plans : List LoadPlan) → AreObjectsOf class size loads objects
      → ArePlansOf page limit objects plans → total_size plans ≢ length before
      → result ≡ Err (failed_alone (Load ImageSize)) → after ≡ before
      → RelocatesAllAs r class size fields loads when page limit before after result
  all_unread : (index : ℕ) (error : LinkError) → IsFailedAt {E = E} r class size loads index error
      → result ≡ Err (failed_at (Link error) index) → after ≡ before
      → RelocatesAllAs r class size fields loads when page limit before after result
  all_unplanned : (objects : List (DynamicObject E r)) (index : ℕ) (error : LoadError)
      → AreObjectsOf class size loads objects → IsUnplannedAt page limit objects index error
      → result ≡ Err (failed_at (Load error) index) → after ≡ before
      → RelocatesAllAs r class size fields loads when page limit before after result

-- the result: without an object, or with more than a call takes, an error; otherwise one by the class of the first file.
-- The first two arguments say how the record of a symbol of each class is read
pub data RelocatesAll (narrow_record wide_record : _) (loads : List LoadObject) (when : Binding) (page limit : ℕ) (before after : List ℕ) (result : Result ℕ Failure) : Type 0 where
  all_of_none : length loads ≡ 0 → result ≡ Err (failed_alone (Link ObjectIndex)) → after ≡ before
      → RelocatesAll narrow_record wide_record loads when page limit before after result
  all_of_many : MOST_OBJECTS < length loads → result ≡ Err (failed_alone ManyObjects)
      → after ≡ before → RelocatesAll narrow_record wide_record loads when page limit before after result
  all_narrow : length loads ≤ MOST_OBJECTS → is_first_narrow loads ≡ true
      → RelocatesAllAs {E = DynEntry32} narrow_record 1 16 dyn_entry_32_fields loads when page limit before after result
      → RelocatesAll narrow_record wide_record loads when page limit before after result
  all_wide : length loads ≤ MOST_OBJECTS → is_first_narrow loads ≡ false
      → RelocatesAllAs {E = DynEntry64} wide_record 2 24 dyn_entry_64_fields loads when page limit before after result
      → RelocatesAll narrow_record wide_record loads when page limit before after result
