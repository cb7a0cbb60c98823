-- Which functions run when a program starts, in the order in which glibc runs them (gABI, "Initialization and Termination
-- Functions"; glibc 2.36, `_dl_init` and `call_init` of elf/dl-init.c, and of csu/libc-start.c for those of the program).
use Rattle.std.specs.Prelude.{◌≡◌, ◌<◌, ◌==◌, ◌&&◌, ◌++◌, ◌+◌, ◌*◌, ◌/◌, ◌%◌, ◌^◌, ℕ, [], ◌∷◌, List, Option, Some, None, Result, Ok, Err, codes, decimal, length, nat_lt, position, slice_get, slice_set, take, drop, if◌then◌else◌}
use Rattle.std.specs.Borrow.{Bor}
use Rattle.std.specs.List.{AllZip, flat_map}
use Rattle.elf_base.specs.FileHeader.{header_fields}
use Rattle.elf_linking.specs.DynamicObject.{object_file, object_view}
use Rattle.elf_linking.specs.DynamicView.{number_with, view_entries}
use Rattle.elf_linking.specs.Loaded.{word_at_of}
use Rattle.elf_linking.specs.declared.view.tags.TheConstants.{DT_INIT, DT_INIT_ARRAY, DT_INIT_ARRAYSZ, DT_PREINIT_ARRAY, DT_PREINIT_ARRAYSZ}
use Rattle.elf_loading.specs.ImageWords.{MatchBoth}
use Rattle.elf_loading.specs.Relocate.{less, plus}
use Rattle.elf_loading.specs.Words.{address_size}
use Rattle.elf_loading.specs.WordsLeft.{AreWordsOf, own_relocations, relocations_left}
use Rattle.elf_loading.specs.declared.error.LoadError.TheVariants.{Link}
use Rattle.elf_loading.specs.declared.value.Origin.TheVariants.{Base, Zero}
use Rattle.elf_loading.specs.declared.value.Value.TheVariants.{Sum}
use Rattle.elf_loading.specs.declared.words.Binding.TheVariants.{Now}
use Rattle.elfload.specs.Records.{value_members}
use Rattle.elfload.specs.Types.{DynamicObject, ElfFile, Failed, Input, LinkError, LoadError, Relocated, Value, Word, Words}
use Rattle.elfload.specs.Words.{AreItemsOf, IsTextError, is_unchanged, value_text}
use Rattle.elfload.specs.declared.arrays.Slots.{Slots}
use Rattle.elfload.specs.declared.starts.Start.{Start}
use Rattle.elfload.specs.declared.steps.Part.{Part}
use Rattle.elfload.specs.declared.steps.Part.TheVariants.{Entry, Init, InitArray, Preinit}
use Rattle.elfload.specs.declared.steps.Step.{Step}
use Rattle.program_ends.specs.Json.{json_line, member, number_or_null, text_value}
use Rattle.program_ends.specs.declared.json.Form.{Form}
use Rattle.program_ends.specs.declared.json.Form.TheVariants.{Json, Text}
use Rattle.xmas_elf.specs.Symbol.{SymbolFields}

-- The order.

-- an index, or another number if there is none
abbrev pub index_or : ℕ → Option ℕ → ℕ
index_or other None = other
index_or other (Some index) = index

-- the index of a number in a list; that after the last if it is not in it
abbrev pub place_in : List ℕ → ℕ → ℕ
place_in list number = index_or (length list) (position (λ other. other == number) list)

-- the functions of a part of the file at an index
abbrev pub step : Part → ℕ → Step
step part of = record { part = part; of = of }

-- what a file has run: the function of DT_INIT, and those of DT_INIT_ARRAY
abbrev pub own_steps : ℕ → List Step
own_steps of = step Init of ∷ step InitArray of ∷ []

-- what libraries have run, by their numbers
abbrev pub library_steps : List ℕ → List ℕ → List Step
library_steps list numbers = flat_map (λ number. own_steps (place_in list number)) numbers

-- first the functions of some libraries that start early, of those in the order in which they start; then those of
-- DT_PREINIT_ARRAY of the program; then those of the other libraries; then the entry point of the program, from which libc
-- runs the program's own. The numbers of objects are those of a tree, and the indices those in the list in which names are
-- looked up.
abbrev pub start_steps : List ℕ → List ℕ → ℕ → List Step
start_steps list starts early = library_steps list (take early starts) ++ (step Preinit 0
    ∷ (library_steps list (drop early starts) ++ (step Entry 0 ∷ own_steps 0)))

-- The words of an array.

-- an array of addresses by its address and its size in bytes: none without one of these
abbrev pub slots_of : ℕ → Option ℕ → Option ℕ → Slots
slots_of width None size = record { start = 0; count = 0; width = width }
slots_of width (Some start) None = record { start = 0; count = 0; width = width }
slots_of width (Some start) (Some size) = record { start = start; count = size / width; width = width }

-- the same of an object, by two entries of its dynamic segment
abbrev pub object_slots : {E : Type 0} → {r : _} → DynamicObject E r → ℕ → ℕ → Slots
object_slots object array size = let entries = view_entries (object_view object) in
    slots_of (address_size (object_file object)) (number_with array entries) (number_with size entries)

-- the address of the word at an index
abbrev pub slot_address : Slots → ℕ → ℕ
slot_address slots index = plus slots.start ((slots.width * index) % 2 ^ 64)

-- the index of the word at an address
abbrev pub slot_at : Slots → ℕ → Option ℕ
slot_at slots address = let distance = less slots.start address in
    if distance % slots.width == 0 && nat_lt (distance / slots.width) slots.count then Some (distance / slots.width) else None

-- these are the first words of an array, as they are in the file
pub data AreInPlace (file : ElfFile) (slots : Slots) : List Value → Type 0 where
  none_in_place : AreInPlace file slots []
  more_in_place : (values : List Value) (number : ℕ) → AreInPlace file slots values
      → word_at_of file (slot_address slots (length values)) ≡ Ok number
      → AreInPlace file slots (values ++ (Sum Zero number ∷ []))

-- the first word of an array that can't be read from the file, and why
pub record IsSlotError (file : ElfFile) (slots : Slots) (error : LoadError) : Type 0 where
  pub before : List Value
  pub are : AreInPlace file slots before
  pub below : length before < slots.count
  pub cause : LinkError
  pub word_is : word_at_of file (slot_address slots (length before)) ≡ Err cause
  pub error_is : error ≡ Link cause

-- the values with another one at an index, if there is one
abbrev pub with_value : List Value → Value → Option ℕ → List Value
with_value values value None = values
with_value values value (Some index) = slice_set values index value

-- the values of an array after a word is written
abbrev pub with_word : Slots → List Value → Result Word LoadError → List Value
with_word slots values (Ok word) =
    if is_unchanged word.value then values else with_value values word.value (slot_at slots word.address)
with_word slots values (Err error) = values

-- the same after the words of relocations, in order
abbrev pub with_items : {E : Type 0} → Slots → List Value → List (Relocated E) → List Value
with_items slots values [] = values
with_items slots values (item ∷ items) = with_items slots (with_word slots values item.word) items

-- they are the same after all words that are left
abbrev pub AreSet : {E : Type 0} → {r : _} → (E → SymbolFields) → Slots → Words E r → List Value → List Value → Type 0
AreSet {E} {r} fields slots words before after =
    (items : List (Relocated E)) × AreItemsOf fields words items × (after ≡ with_items slots before items)

-- they are the same after the relocations of the object at an index
pub record AreRelocated {E : Type 0} {r : _} (fields : E → SymbolFields) (objects : List (DynamicObject E r)) (of : ℕ) (slots : Slots) (before after : List Value) : Type 0 where
  pub lent : Bor (List (DynamicObject E r))
  pub lent_is : lent.now ≡ objects
  pub words : Words E r
  pub words_are : AreWordsOf lent of Now words
  pub left : own_relocations (slice_get objects of) ≡ Ok (relocations_left words)
  pub written : AreSet fields slots words before after

-- the values of an array of the object at an index: the words in the file, and over them those that its relocations write
pub record AreValues {E : Type 0} {r : _} (fields : E → SymbolFields) (objects : List (DynamicObject E r)) (of : ℕ) (object : DynamicObject E r) (slots : Slots) (values : List Value) : Type 0 where
  pub in_place : List Value
  pub are_in_place : AreInPlace (object_file object) slots in_place
  pub all : length in_place ≡ slots.count
  pub relocated : AreRelocated fields objects of slots in_place values

-- The functions.

-- a function of the file at a path, in a step, with its index in an array and its address
abbrev pub start_of : Bor (List ℕ) → Step → Option ℕ → Value → Start
start_of path step index value = record { path = path; step = step; index = index; value = value }

-- the function at an address of the file of a step, if there is one
abbrev pub single : Bor (List ℕ) → Step → Option ℕ → List Start
single path step None = []
single path step (Some offset) = start_of path step None (Sum (Base step.of) offset) ∷ []

-- the functions of an array, by their indices
abbrev pub numbered : Bor (List ℕ) → Step → ℕ → List Value → List Start
numbered path step index [] = []
numbered path step index (value ∷ values) =
    start_of path step (Some index) value ∷ numbered path step (index + 1) values

-- the functions of an array of the object of a step
abbrev pub IsArrayOf : {E : Type 0} → {r : _} → (E → SymbolFields) → List (DynamicObject E r) → DynamicObject E r → Bor (List ℕ) → Step → Slots → List Start → Type 0
IsArrayOf fields objects object path step slots starts =
    (values : List Value) × AreValues fields objects step.of object slots values × (starts ≡ numbered path step 0 values)

-- the functions of a part of the object of a step
abbrev pub IsPartOf : {E : Type 0} → {r : _} → (E → SymbolFields) → List (DynamicObject E r) → DynamicObject E r → Bor (List ℕ) → Step → Part → List Start → Type 0
IsPartOf fields objects object path step Preinit starts =
    IsArrayOf fields objects object path step (object_slots object DT_PREINIT_ARRAY DT_PREINIT_ARRAYSZ) starts
IsPartOf fields objects object path step Init starts =
    starts ≡ single path step (number_with DT_INIT (view_entries (object_view object)))
IsPartOf fields objects object path step InitArray starts =
    IsArrayOf fields objects object path step (object_slots object DT_INIT_ARRAY DT_INIT_ARRAYSZ) starts
IsPartOf fields objects object path step Entry starts =
    starts ≡ single path step (Some (header_fields (object_file object).header.pt2).entry_point)

-- the functions of a step: none if no file has its index
abbrev pub IsGroup : {E : Type 0} → {r : _} → (E → SymbolFields) → List Input → List (DynamicObject E r) → Step → List Start → Type 0
IsGroup fields inputs objects step starts = MatchBoth (slice_get objects step.of) (slice_get inputs step.of) (starts ≡ [])
    (λ object input. IsPartOf fields objects object input.path step step.part starts)

-- the elements of some lists, in order
abbrev pub joined : List (List Start) → List Start
joined groups = flat_map (λ group. group) groups

-- the functions of some steps, in order
abbrev pub AreStartsOf : {E : Type 0} → {r : _} → (E → SymbolFields) → List Input → List (DynamicObject E r) → List Step → List Start → Type 0
AreStartsOf fields inputs objects steps starts =
    (groups : List (List Start)) × AllZip (IsGroup fields inputs objects) steps groups × (starts ≡ joined groups)

-- Why they are not known.

-- a word of an array of the object at an index can't be read, or its relocations, or one of them has a word that is not known
pub data IsArrayError {E : Type 0} {r : _} (fields : E → SymbolFields) (objects : List (DynamicObject E r)) (of : ℕ) (object : DynamicObject E r) (slots : Slots) (error : LoadError) : Type 0 where
  by_slot : IsSlotError (object_file object) slots error → IsArrayError fields objects of object slots error
  by_words : IsTextError fields Now objects of error → IsArrayError fields objects of object slots error

-- the error of an array of the object of a step
abbrev pub IsPartError : {E : Type 0} → {r : _} → (E → SymbolFields) → List (DynamicObject E r) → ℕ → DynamicObject E r → Part → LoadError → Type 0
IsPartError fields objects of object Preinit = IsArrayError fields objects of object (object_slots object DT_PREINIT_ARRAY DT_PREINIT_ARRAYSZ)
IsPartError fields objects of object Init = λ error. ⊥
IsPartError fields objects of object InitArray = IsArrayError fields objects of object (object_slots object DT_INIT_ARRAY DT_INIT_ARRAYSZ)
IsPartError fields objects of object Entry = λ error. ⊥

-- the same, with the path of its file
abbrev pub IsStepFailed : {E : Type 0} → {r : _} → (E → SymbolFields) → List Input → List (DynamicObject E r) → Step → Failed LoadError → Type 0
IsStepFailed fields inputs objects step failed = MatchBoth (slice_get objects step.of) (slice_get inputs step.of) ⊥
    (λ object input. (failed.path ≡ input.path) × IsPartError fields objects step.of object step.part failed.error)

-- one of the steps has an error; those before it have their functions
pub record AreStartsFailed {E : Type 0} {r : _} (fields : E → SymbolFields) (inputs : List Input) (objects : List (DynamicObject E r)) (steps : List Step) (failed : Failed LoadError) : Type 0 where
  pub index : ℕ
  pub step_of : Step
  pub step_is : slice_get steps index ≡ Some step_of
  pub error_is : IsStepFailed fields inputs objects step_of failed

-- The text.

-- the name of a part
abbrev pub part_text : Part → List ℕ
part_text Preinit = codes "preinit_array"
part_text Init = codes "init"
part_text InitArray = codes "init_array"
part_text Entry = codes "entry"

-- an index in an array, if there is one
abbrev pub index_text : Option ℕ → List ℕ
index_text None = []
index_text (Some index) = codes "[" ++ (decimal index ++ codes "]")

-- the line of a function
abbrev pub start_text : Start → List ℕ
start_text start = start.path.now ++ (codes " " ++ (part_text start.step.part ++ (index_text start.index
    ++ (codes " = " ++ (value_text start.step.of start.value ++ codes "\n")))))

-- the same as JSON
abbrev pub start_record : Start → List ℕ
start_record start = json_line (member (codes "file") (text_value start.path.now)
    ∷ member (codes "runs") (text_value (part_text start.step.part)) ∷ member (codes "index") (number_or_null start.index)
    ∷ value_members start.value)

-- the line in a form
abbrev pub start_line : Form → Start → List ℕ
start_line Text start = start_text start
start_line Json start = start_record start
