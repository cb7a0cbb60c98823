-- Whether the words of files can be written to their memory (this project's own).
use Rattle.std.specs.Prelude.{◌≡◌, ◌<◌, ◌≤◌, ℕ, true, false, List, length, IsSomeAnd, MatchOption, Some, Ok, Err, slice_get, take}
use Rattle.std.specs.List.{AllZip}
use Rattle.elf_linking.specs.Checked.{AreChecked}
use Rattle.elf_linking.specs.DynamicObject.{object_dynamic_symbols, object_file}
use Rattle.elfload.specs.Types.{DynamicObject, Input, LinkError, LoadError, LoadPlan, Failed}
use Rattle.elf_loading.specs.FileCheck.{check_file}
use Rattle.elf_loading.specs.ImageWords.{IsImageCheck}
use Rattle.elf_loading.specs.Plan.{IsPlanOf, plan_size}
use Rattle.elf_loading.specs.declared.error.LoadError.TheVariants.{Link, Machine}
use Rattle.linking_programs.specs.Checks.{IsGood}
use Rattle.linking_programs.specs.Files.{AreObjectsOf, IsOfInput, is_first_narrow}
use Rattle.elfload.specs.Plans.{header_limit}
use Rattle.xmas_elf.specs.Symbol.{SymbolFields, dyn_entry_32_fields, dyn_entry_64_fields}
use Rattle.xmas_elf.specs.Types.{DynEntry32, DynEntry64, ElfFile}

-- The plans of the files.

-- the plan is that of the file of an object, with pages of a size and the addresses of its machine
abbrev pub IsPlanFor : {E : Type 0} → {r : _} → ℕ → DynamicObject E r → LoadPlan → Type 0
IsPlanFor page object plan = let file = object_file object in
    IsSomeAnd (header_limit file.header) (λ limit. IsPlanOf file page limit plan)

-- the plans are those of the objects, in order
abbrev pub ArePlansOf : {E : Type 0} → {r : _} → ℕ → List (DynamicObject E r) → List LoadPlan → Type 0
ArePlansOf page objects plans = AllZip (IsPlanFor page) objects plans

-- why a file has no plan: the end of addresses of its machine isn't known, or `check_load` has this error
abbrev pub LacksPlan : ℕ → ElfFile → LoadError → Type 0
LacksPlan page file error = MatchOption (header_limit file.header) (error ≡ Machine)
    (λ limit. check_file file page limit ≡ Err error)

-- the first of the objects whose file has no plan, and why; those before it have
pub record IsPlanMissing {E : Type 0} {r : _} (page : ℕ) (inputs : List Input) (objects : List (DynamicObject E r)) (failed : Failed LoadError) : Type 0 where
  pub index : ℕ
  pub object : DynamicObject E r
  pub object_is : slice_get objects index ≡ Some object
  pub plans : List LoadPlan
  pub before : ArePlansOf page (take index objects) plans
  pub path_is : IsOfInput inputs index failed
  pub why : LacksPlan page (object_file object) failed.error

-- The checks.

-- the image of the object at an index passes the check, with as many marks as are enough
abbrev pub IsImageGood : {E : Type 0} → {r : _} → ℕ → (E → SymbolFields) → List (DynamicObject E r) → List LoadPlan → ℕ → Type 0
IsImageGood size fields objects plans index = (bits : ℕ) × IsImageCheck size fields objects plans index bits (Ok tt)

-- the object at an index passes both checks
pub record IsChecked {E : Type 0} {r : _} (size : ℕ) (fields : E → SymbolFields) (objects : List (DynamicObject E r)) (plans : List LoadPlan) (index : ℕ) : Type 0 where
  pub object : DynamicObject E r
  pub object_is : slice_get objects index ≡ Some object
  pub good : IsGood (object_dynamic_symbols fields object)
  pub image : IsImageGood size fields objects plans index

-- these marks are enough for the plan at an index
abbrev pub AreEnough : List LoadPlan → ℕ → ℕ → Type 0
AreEnough plans index bits = IsSomeAnd (slice_get plans index) (λ plan. plan_size plan ≤ bits)

-- why the image of the object at an index does not pass the check, with as many marks as are enough
abbrev pub IsWordsError : {E : Type 0} → {r : _} → ℕ → (E → SymbolFields) → List (DynamicObject E r) → List LoadPlan → ℕ → LoadError → Type 0
IsWordsError size fields objects plans index error =
    (bits : ℕ) × AreEnough plans index bits × IsImageCheck size fields objects plans index bits (Err error)

-- why the object at an index does not pass: by its symbols; or, if these pass, by its words
pub data IsCheckError {E : Type 0} {r : _} (size : ℕ) (fields : E → SymbolFields) (objects : List (DynamicObject E r)) (plans : List LoadPlan) (index : ℕ) : LoadError → Type 0 where
  by_symbols : (object : DynamicObject E r) (error : LinkError) → slice_get objects index ≡ Some object
      → AreChecked (object_dynamic_symbols fields object) (Err error) → IsCheckError size fields objects plans index (Link error)
  by_words : (object : DynamicObject E r) (error : LoadError) → slice_get objects index ≡ Some object
      → IsGood (object_dynamic_symbols fields object) → IsWordsError size fields objects plans index error
      → IsCheckError size fields objects plans index error

-- the error of the input at an index is that of its object
pub record IsFailedAt {E : Type 0} {r : _} (size : ℕ) (fields : E → SymbolFields) (inputs : List Input) (objects : List (DynamicObject E r)) (plans : List LoadPlan) (index : ℕ) (failed : Failed LoadError) : Type 0 where
  pub path_is : IsOfInput inputs index failed
  pub error_is : IsCheckError size fields objects plans index failed.error

-- the first object that does not pass, and why
pub record IsImageError {E : Type 0} {r : _} (size : ℕ) (fields : E → SymbolFields) (inputs : List Input) (objects : List (DynamicObject E r)) (plans : List LoadPlan) (failed : Failed LoadError) : Type 0 where
  pub index : ℕ
  pub before : (i : ℕ) → i < index → IsChecked size fields objects plans i
  pub why : IsFailedAt size fields inputs objects plans index failed

-- all objects pass
abbrev pub AreAllChecked : {E : Type 0} → {r : _} → ℕ → (E → SymbolFields) → List (DynamicObject E r) → List LoadPlan → Type 0
AreAllChecked size fields objects plans = (i : ℕ) → i < length objects → IsChecked size fields objects plans i

-- The same of the inputs, by the class of the first.

-- they are files of this class, whose symbols have this size; with pages of a size all have plans, and pass
pub record AreInputsChecked {E : Type 0} (r : _) (fields : E → SymbolFields) (class size page : ℕ) (inputs : List Input) : Type 0 where
  pub objects : List (DynamicObject E r)
  pub objects_are : AreObjectsOf class size inputs objects
  pub plans : List LoadPlan
  pub plans_are : ArePlansOf page objects plans
  pub checked : AreAllChecked size fields objects plans

-- the first two arguments say how the record of a symbol of each class is read
pub data AreImagesGood (narrow_record wide_record : _) (page : ℕ) (inputs : List Input) : Type 0 where
  narrow : is_first_narrow inputs ≡ true
      → AreInputsChecked {E = DynEntry32} narrow_record dyn_entry_32_fields 1 16 page inputs
      → AreImagesGood narrow_record wide_record page inputs
  wide : is_first_narrow inputs ≡ false
      → AreInputsChecked {E = DynEntry64} wide_record dyn_entry_64_fields 2 24 page inputs
      → AreImagesGood narrow_record wide_record page inputs
