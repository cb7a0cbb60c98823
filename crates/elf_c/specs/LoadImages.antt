-- The images of objects, and their relocation, by the files of the objects (this project's own).
use Rattle.std.specs.Prelude.{◌≡◌, ℕ, ◌+◌, ◌-◌, ◌==◌, ◌<◌, ◌≤◌, true, false, List, length, IfErr, IfOk, Result, Ok, Err, if◌then◌else◌}
use Rattle.std.specs.Borrow.{Bor}
use Rattle.elf_linking.specs.declared.error.LinkError.{LinkError}
use Rattle.elf_linking.specs.declared.error.LinkError.TheVariants.{ObjectIndex}
use Rattle.elf_linking.specs.declared.object.DynamicObject.{DynamicObject}
use Rattle.elf_loading.specs.Bytes.{byte_number, byte_of}
use Rattle.elf_loading.specs.FileCheck.{check_file}
use Rattle.elf_loading.specs.ImageWords.{IsImageCheck}
use Rattle.elf_loading.specs.OneWord.{HasErrorLeft, IsByOneWordIn}
use Rattle.elf_loading.specs.Relocate.{IsRelocationIn}
use Rattle.elf_loading.specs.Segments.{loads_of}
use Rattle.elf_loading.specs.Spans.{span_of}
use Rattle.elf_loading.specs.WordErrors.{IsImageError, IsRelocationErrorIn, error_alone}
use Rattle.elf_loading.specs.declared.error.LoadError.{LoadError}
use Rattle.elf_loading.specs.declared.error.LoadError.TheVariants.{ImageSize}
use Rattle.elf_loading.specs.declared.mapping.Loader.{Loader}
use Rattle.elf_loading.specs.declared.plan.LoadPlan.{LoadPlan}
use Rattle.elf_loading.specs.declared.relocate.Place.{Place}
use Rattle.elf_loading.specs.declared.word_error.WordError.{WordError}
use Rattle.elf_loading.specs.declared.words.Binding.{Binding}
use Rattle.xmas_elf.specs.Symbol.{SymbolFields, dyn_entry_32_fields, dyn_entry_64_fields}
use Rattle.xmas_elf.specs.Types.{DynEntry32, DynEntry64, ElfFile}
use Rattle.elf_c.specs.LoadObjects.{AreImagesOf, AreObjectsOf, ArePlacesOf, ArePlansOf, IsFailedAt, IsUnplannedAt, as_failure, failed_alone, failed_at, is_first_narrow}
use Rattle.elf_c.specs.LoadPlans.{if_checked}
use Rattle.elf_c.specs.declared.load_objects.Failure.{Failure}
use Rattle.elf_c.specs.declared.load_objects.LoadObject.{LoadObject}
use Rattle.elf_c.specs.declared.load_objects.TheConstants.{MOST_OBJECTS}
use Rattle.elf_c.specs.declared.status.AnyError.{AnyError}
use Rattle.elf_c.specs.declared.status.AnyError.TheVariants.{Link, Load, ManyObjects}

-- whether an image of `len` bytes can hold the span of a file, or why not
abbrev pub image_answer : ElfFile → ℕ → ℕ → ℕ → Result (Unit {0}) AnyError
image_answer file page limit len = let span = span_of page (loads_of file) in if_checked (check_file file page limit)
    (if len == span.end - span.start then Ok tt else Err (Load ImageSize))

-- the byte of a file's plan at an index from the start of its span on
abbrev pub planned_byte : ElfFile → ℕ → Loader → ℕ → ℕ
planned_byte file page by i = byte_number file.input.now
    (byte_of page by (length file.input.now) ((span_of page (loads_of file)).start + i) (loads_of file))

-- The check of an image, with `bits` marks. The plans have pages of `page` bytes, and addresses up to `limit`.

-- the result for files of one class
pub data ChecksAs {E : Type 0} (r : _) (class size : ℕ) (fields : E → SymbolFields) (loads : List LoadObject) (of page limit bits : ℕ) (result : Result (Unit {0}) Failure) : Type 0 where
  checked : (objects : List (DynamicObject E r)) (plans : List LoadPlan) (answer : Result (Unit {0}) WordError)
      → AreObjectsOf class size loads objects → ArePlansOf page limit objects plans
      → IsImageCheck size fields objects plans of bits (error_alone answer)
      → IfErr answer (IsImageError size fields objects plans of bits) → result ≡ as_failure answer of
      → ChecksAs r class size fields loads of page limit bits result
  unchecked : (index : ℕ) (error : LinkError) → IsFailedAt {E = E} r class size loads index error
      → result ≡ Err (failed_at (Link error) index)
      → ChecksAs r class size fields loads of page limit bits result
  unplanned : (objects : List (DynamicObject E r)) (index : ℕ) (error : LoadError) → AreObjectsOf class size loads objects
      → IsUnplannedAt page limit objects index error → result ≡ Err (failed_at (Load error) index)
      → ChecksAs r class size fields loads of page limit bits result

-- the result: without an object, or with more than a call takes, an error; otherwise one by the class of the first file.
-- The first two arguments say how the record of a symbol of each class is read
pub data Checks (narrow_record wide_record : _) (loads : List LoadObject) (of page limit bits : ℕ) (result : Result (Unit {0}) Failure) : Type 0 where
  checks_none : length loads ≡ 0 → result ≡ Err (failed_alone (Link ObjectIndex))
      → Checks narrow_record wide_record loads of page limit bits result
  checks_many : MOST_OBJECTS < length loads → result ≡ Err (failed_alone ManyObjects)
      → Checks narrow_record wide_record loads of page limit bits result
  checks_narrow : length loads ≤ MOST_OBJECTS → is_first_narrow loads ≡ true
      → ChecksAs {E = DynEntry32} narrow_record 1 16 dyn_entry_32_fields loads of page limit bits result
      → Checks narrow_record wide_record loads of page limit bits result
  checks_wide : length loads ≤ MOST_OBJECTS → is_first_narrow loads ≡ false
      → ChecksAs {E = DynEntry64} wide_record 2 24 dyn_entry_64_fields loads of page limit bits result
      → Checks narrow_record wide_record loads of page limit bits result

-- The relocation of an image.

-- the result for files of one class. If it is Ok, the byte at each address that one word has is that of the word
pub data RelocatesAs {E : Type 0} (r : _) (class size : ℕ) (fields : E → SymbolFields) (loads : List LoadObject) (of : ℕ) (when : Binding) (page limit : ℕ) (before after : List ℕ) (result : Result ℕ Failure) : Type 0 where
  relocated : (objects : Bor (List (DynamicObject E r))) (plans : Bor (List LoadPlan)) (places : Bor (List Place))
      (images : Bor (List (Bor (List ℕ)))) (answer : Result ℕ WordError) → AreObjectsOf class size loads objects.now
      → ArePlansOf page limit objects.now plans.now → ArePlacesOf loads places.now → AreImagesOf loads images.now
      → IsRelocationIn fields objects plans of when places images before after (error_alone answer)
      → IfOk (error_alone answer) (λ count. IsByOneWordIn fields objects plans of when places images before after)
      → IfErr (error_alone answer) (HasErrorLeft fields objects.now plans.now of when)
      → IfErr answer (IsRelocationErrorIn fields objects plans of when places images (length before))
      → result ≡ as_failure answer of → RelocatesAs r class size fields loads of when page limit before after result
  unrelocated : (index : ℕ) (error : LinkError) → IsFailedAt {E = E} r class size loads index error
      → result ≡ Err (failed_at (Link error) index) → after ≡ before
      → RelocatesAs r class size fields loads of when page limit before after result
  unmapped : (objects : List (DynamicObject E r)) (index : ℕ) (error : LoadError) → AreObjectsOf class size loads objects
      → IsUnplannedAt page limit objects index error → result ≡ Err (failed_at (Load error) index) → after ≡ before
      → RelocatesAs r class size fields loads of when page limit before after result

-- the result: without an object, or with more than a call takes, an error; otherwise one by the class of the first file
pub data Relocates (narrow_record wide_record : _) (loads : List LoadObject) (of : ℕ) (when : Binding) (page limit : ℕ) (before after : List ℕ) (result : Result ℕ Failure) : Type 0 where
  relocates_none : length loads ≡ 0 → result ≡ Err (failed_alone (Link ObjectIndex)) → after ≡ before
      → Relocates narrow_record wide_record loads of when page limit before after result
  relocates_many : MOST_OBJECTS < length loads → result ≡ Err (failed_alone ManyObjects) → after ≡ before
      → Relocates narrow_record wide_record loads of when page limit before after result
  relocates_narrow : length loads ≤ MOST_OBJECTS → is_first_narrow loads ≡ true
      → RelocatesAs {E = DynEntry32} narrow_record 1 16 dyn_entry_32_fields loads of when page limit before after result
      → Relocates narrow_record wide_record loads of when page limit before after result
  relocates_wide : length loads ≤ MOST_OBJECTS → is_first_narrow loads ≡ false
      → RelocatesAs {E = DynEntry64} wide_record 2 24 dyn_entry_64_fields loads of when page limit before after result
      → Relocates narrow_record wide_record loads of when page limit before after result
