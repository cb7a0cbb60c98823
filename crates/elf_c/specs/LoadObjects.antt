-- The objects of a process: a program and its libraries, in the order in which they are loaded (this project's own).
use Rattle.std.specs.Prelude.{◌≡◌, ℕ, ◌==◌, ◌<◌, Bool, true, false, List, length, slice_get, IsSomeAnd, Option, Some, None, unwrap_or, Result, Ok, Err, if◌then◌else◌}
use Rattle.std.specs.Borrow.{Bor}
use Rattle.elf_base.specs.FileHeader.{file_class, header_of}
use Rattle.elf_base.specs.declared.error.ElfError.{ElfError}
use Rattle.elf_linking.specs.DynamicObject.{IsObjectErrorOf, IsObjectOfBytes, object_file}
use Rattle.elf_linking.specs.declared.error.LinkError.{LinkError}
use Rattle.elf_linking.specs.declared.error.LinkError.TheVariants.{ObjectIndex}
use Rattle.elf_linking.specs.declared.object.DynamicObject.{DynamicObject}
use Rattle.elf_loading.specs.FileCheck.{check_file}
use Rattle.elf_loading.specs.Plan.{IsPlanOf}
use Rattle.elf_loading.specs.declared.error.LoadError.{LoadError}
use Rattle.elf_loading.specs.declared.error.LoadError.TheVariants as reason
use Rattle.elf_loading.specs.declared.plan.LoadPlan.{LoadPlan}
use Rattle.elf_loading.specs.declared.relocate.Place.{Place}
use Rattle.elf_loading.specs.declared.word_error.WordError.{WordError}
use Rattle.elf_loading.specs.declared.words.Binding.{Binding}
use Rattle.elf_loading.specs.declared.words.Binding.TheVariants.{Lazy, Now}
use Rattle.xmas_elf.specs.Types.{Header}
use Rattle.elf_c.specs.LoadPlans.{default_limit}
use Rattle.elf_c.specs.Status.{failure_number}
use Rattle.elf_c.specs.declared.load_objects.Failure.{Failure}
use Rattle.elf_c.specs.declared.load_objects.LoadObject.{LoadObject}
use Rattle.elf_c.specs.declared.load_objects.TheConstants.{MOST_OBJECTS}
use Rattle.elf_c.specs.declared.status.AnyError.{AnyError}
use Rattle.elf_c.specs.declared.status.AnyError.TheVariants.{Load}

-- a header is of class 32
abbrev pub is_narrow_header : Result Header ElfError → Bool
is_narrow_header (Ok header) = file_class header == 1
is_narrow_header (Err error) = false

-- an object, if there is one, has a file that is of class 32
abbrev pub is_narrow_load : Option LoadObject → Bool
is_narrow_load None = false
is_narrow_load (Some load) = is_narrow_header (header_of load.file.now)

-- the first file is of class 32
abbrev pub is_first_narrow : List LoadObject → Bool
is_first_narrow loads = is_narrow_load (slice_get loads 0)

-- the first `count` of all are these, and each of all is one of these
pub record ArePadded (loads all : List LoadObject) (count : ℕ) : Type 0 where
  pub long : length all ≡ MOST_OBJECTS
  pub own : (index : ℕ) → index < count → slice_get all index ≡ slice_get loads index
  pub one : (index : ℕ) (load : LoadObject) → slice_get all index ≡ Some load
      → (place : ℕ) × (slice_get loads place ≡ Some load)

-- of each of the first `count` items of a list one is made, at its index of another
abbrev pub AreFirstMade : {A B : Type 0} → (A → B → Type 0) → List A → ℕ → List B → Type 0
AreFirstMade {A} Is from count made =
    (index : ℕ) (item : A) → index < count → slice_get from index ≡ Some item → IsSomeAnd (slice_get made index) (Is item)

-- of each item of a list one is made, in order
pub record AreMade {A B : Type 0} (Is : A → B → Type 0) (from : List A) (made : List B) : Type 0 where
  pub same_count : length made ≡ length from
  pub each : (index : ℕ) (item : A) → slice_get from index ≡ Some item → IsSomeAnd (slice_get made index) (Is item)

-- the first item of a list of which none is made, and why
pub record IsFirstUnmade {A B C : Type 0} (Is : A → B → Type 0) (Fails : A → C → Type 0) (from : List A) (error : C) : Type 0 where
  pub index : ℕ
  pub item : A
  pub item_is : slice_get from index ≡ Some item
  pub made : List B
  pub before : AreFirstMade Is from index made
  pub why : Fails item error

-- the same with its index
pub record IsFirstUnmadeAt {A B C : Type 0} (Is : A → B → Type 0) (Fails : A → C → Type 0) (from : List A) (index : ℕ) (error : C) : Type 0 where
  pub first : IsFirstUnmade Is Fails from error
  pub index_is : first.index ≡ index

-- the object is that of the file of another
abbrev pub IsObjectOf : {E : Type 0} → {r : _} → ℕ → ℕ → LoadObject → DynamicObject E r → Type 0
IsObjectOf class size load object = IsObjectOfBytes class size load.file.now object

-- the objects are those of the files, in order
abbrev pub AreObjectsOf : {E : Type 0} → {r : _} → ℕ → ℕ → List LoadObject → List (DynamicObject E r) → Type 0
AreObjectsOf class size loads objects = AreMade (IsObjectOf class size) loads objects

-- the file at an index is the first that is none of an object of this class, and why
pub record IsFailedAt {E : Type 0} (r : _) (class size : ℕ) (loads : List LoadObject) (index : ℕ) (error : LinkError) : Type 0 where
  pub failed : IsFirstUnmadeAt {B = DynamicObject E r} (IsObjectOf class size) (λ load. IsObjectErrorOf class size load.file.now)
      loads index error

-- the plan is that of the file of an object, with pages of a size and addresses up to a limit
abbrev pub IsPlanFor : {E : Type 0} → {r : _} → ℕ → ℕ → DynamicObject E r → LoadPlan → Type 0
IsPlanFor page limit object plan = let file = object_file object in IsPlanOf file page (default_limit file limit) plan

-- the plans are those of the objects, in order
abbrev pub ArePlansOf : {E : Type 0} → {r : _} → ℕ → ℕ → List (DynamicObject E r) → List LoadPlan → Type 0
ArePlansOf page limit objects plans = AreMade (IsPlanFor page limit) objects plans

-- why the file of an object has no plan
abbrev pub LacksPlan : {E : Type 0} → {r : _} → ℕ → ℕ → DynamicObject E r → LoadError → Type 0
LacksPlan page limit object error = let file = object_file object in check_file file page (default_limit file limit) ≡ Err error

-- the object at an index is the first whose file has no plan, and why
abbrev pub IsUnplannedAt : {E : Type 0} → {r : _} → ℕ → ℕ → List (DynamicObject E r) → ℕ → LoadError → Type 0
IsUnplannedAt page limit objects index error =
    IsFirstUnmadeAt {B = LoadPlan} (IsPlanFor page limit) (LacksPlan page limit) objects index error

-- where an object is loaded
abbrev pub load_place : LoadObject → Place
load_place load = record { base = load.base; «module» = load.«module»; thread = load.thread }

-- the places are those of the objects, in order
pub record ArePlacesOf (loads : List LoadObject) (places : List Place) : Type 0 where
  pub same_count : length places ≡ length loads
  pub each : (index : ℕ) (load : LoadObject) → slice_get loads index ≡ Some load
      → slice_get places index ≡ Some (load_place load)

-- the images are those of the objects, in order
pub record AreImagesOf (loads : List LoadObject) (images : List (Bor (List ℕ))) : Type 0 where
  pub same_count : length images ≡ length loads
  pub each : (index : ℕ) (load : LoadObject) → slice_get loads index ≡ Some load
      → slice_get images index ≡ Some load.image

-- when jump slots get their symbols: 1 when a function is called first, any other number before the program runs
abbrev pub when_of : ℕ → Binding
when_of lazy = if lazy == 1 then Lazy else Now

-- Which object has an error.

-- an error of the object at an index
abbrev pub failed_at : AnyError → ℕ → Failure
failed_at error index = record { error = error; object = Some index; relocation = None }

-- an error that is not that of an object
abbrev pub failed_alone : AnyError → Failure
failed_alone error = record { error = error; object = None; relocation = None }

-- an error of the words of the object at an index, with the relocation that has it
abbrev pub failed_in : WordError → ℕ → Failure
failed_in found of = record { error = Load found.error; object = Some of; relocation = found.relocation }

-- an error is that of no object: its index names none, or the marks or the image are not of the size that is wanted
abbrev pub is_of_call : LoadError → Bool
is_of_call (reason.Link ObjectIndex) = true
is_of_call reason.FewMarks = true
is_of_call reason.ImageSize = true
is_of_call error = false

-- an error of the check or the relocation of the object at an index
abbrev pub failed_words : WordError → ℕ → Failure
failed_words found of = if is_of_call found.error then failed_alone (Load found.error) else failed_in found of

-- the result of the check or the relocation of the object at an index
abbrev pub as_failure : {A : Type 0} → Result A WordError → ℕ → Result A Failure
as_failure (Ok value) of = Ok value
as_failure (Err found) of = Err (failed_words found of)

-- the status and what is stored: the value, or the indices of the object and of the relocation with the error
abbrev pub GivesOrFails : {T : Type 0} → Result T Failure → T → ℕ → ℕ → ℕ → T → ℕ → ℕ → Type 0
GivesOrFails (Ok value) old failed relocation status new failed_new relocation_new =
    (status ≡ 0) × (new ≡ value) × (failed_new ≡ failed) × (relocation_new ≡ relocation)
GivesOrFails (Err why) old failed relocation status new failed_new relocation_new = (status ≡ failure_number why.error)
    × (new ≡ old) × (failed_new ≡ unwrap_or why.object failed) × (relocation_new ≡ unwrap_or why.relocation relocation)
