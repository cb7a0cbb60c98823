-- What the program writes of words (this project's own): a line for each that is written, free of bases, as text or as JSON.
use Rattle.std.specs.Prelude.{◌≡◌, ℕ, ◌++◌, ◌==◌, nat_eq, Bool, true, false, [], ◌∷◌, List, Option, Some, None, Result, Ok, Err, All, map, codes, decimal, drop, length, slice_get, IsOk, IsSomeAnd, if◌then◌else◌}
use Rattle.std.specs.Borrow.{Bor}
use Rattle.std.specs.List.{flat_map, starts_with}
use Rattle.elf_linking.specs.DynamicObject.{object_file}
use Rattle.elf_linking.specs.References.{file_machine}
use Rattle.elf_linking.specs.RelocationNames.{relocation_name}
use Rattle.elfload.specs.Types.{Binding, DynamicObject, Input, LinkError, LoadError, Origin, Failed, Relocated, Relocation, Value, Word, Words}
use Rattle.elf_loading.specs.WordsLeft.{AreWordsOf, HasWordOf, relocation_of, relocations_left, own_relocations}
use Rattle.elf_loading.specs.declared.error.LoadError.TheVariants.{Link}
use Rattle.elf_loading.specs.declared.value.Origin.TheVariants.{Base, Call, Zero}
use Rattle.elf_loading.specs.declared.value.Value.TheVariants as values
use Rattle.linking_programs.specs.Files.{IsOfInput}
use Rattle.elfload.specs.Interpreter.{binding_of}
use Rattle.elfload.specs.Records.{value_members}
use Rattle.elfload.specs.Texts.{hex}
use Rattle.elfload.specs.declared.words.Place.{Place}
use Rattle.program_ends.specs.Json.{json_line, member, text_or_null, text_value}
use Rattle.program_ends.specs.declared.json.Form.{Form}
use Rattle.program_ends.specs.declared.json.Form.TheVariants.{Json, Text}
use Rattle.program_ends.specs.declared.json.Value.TheVariants.{Number}
use Rattle.xmas_elf.specs.Symbol.{SymbolFields}

-- The text of a word.

-- what a sum begins with: nothing, the base of an object, or the result of a function
abbrev pub start_text : Origin → List ℕ
start_text Zero = []
start_text (Base object) = codes "base(" ++ (decimal object ++ codes ") + ")
start_text (Call (Some object) offset) = codes "call(base(" ++ (decimal object ++ (codes ") + 0x" ++ (hex offset ++ codes ") + ")))
start_text (Call None offset) = codes "call(0x" ++ (hex offset ++ codes ") + ")

-- what is written to a word of the object at an index
abbrev pub value_text : ℕ → Value → List ℕ
value_text of values.Unchanged = []
value_text of (values.Sum origin offset) = start_text origin ++ (codes "0x" ++ hex offset)
value_text of (values.Distance origin offset) =
    start_text origin ++ (codes "0x" ++ (hex offset ++ (codes " - base(" ++ (decimal of ++ codes ")"))))
value_text of (values.Module object) = codes "module(" ++ (decimal object ++ codes ")")
value_text of (values.Thread object offset) = codes "thread(" ++ (decimal object ++ (codes ") + 0x" ++ hex offset))
value_text of (values.ThreadNegated object offset) =
    codes "0x" ++ (hex offset ++ (codes " - thread(" ++ (decimal object ++ codes ")")))
value_text of (values.Descriptor (Some object) offset) =
    codes "descriptor(" ++ (decimal object ++ (codes ", 0x" ++ (hex offset ++ codes ")")))
value_text of (values.Descriptor None offset) = codes "descriptor(0x" ++ (hex offset ++ codes ")")
value_text of (values.Copy object offset size) =
    codes "copy(" ++ (decimal object ++ (codes ", 0x" ++ (hex offset ++ (codes ", " ++ (decimal size ++ codes ")")))))

-- what the names of relocation types of a machine begin with
abbrev pub prefix_of : ℕ → List ℕ
prefix_of machine = if machine == 3 then codes "R_386_" else (if machine == 62 then codes "R_X86_64_" else codes "R_AARCH64_")

-- `text` without `prefix`, if it begins with it
abbrev pub without_prefix : List ℕ → List ℕ → List ℕ
without_prefix prefix text = if starts_with nat_eq text prefix then drop (length prefix) text else text

-- a name without the prefix of its machine, or the number where there is no name
abbrev pub name_text_of : ℕ → ℕ → Option (List ℕ) → List ℕ
name_text_of machine kind None = decimal kind
name_text_of machine kind (Some name) = without_prefix (prefix_of machine) name

-- the name of a relocation type of a machine, without what all of them begin with, or else its number
abbrev pub name_text : ℕ → ℕ → List ℕ
name_text machine kind = name_text_of machine kind (relocation_name machine kind)

-- the line of a word of the object at an index, in a file for a machine
abbrev pub word_text : ℕ → ℕ → ℕ → Word → List ℕ
word_text machine kind of word =
    codes "word 0x" ++ (hex word.address ++ (codes " " ++ (decimal word.width ++ (codes " " ++ (name_text machine kind
    ++ (codes " = " ++ (value_text of word.value ++ codes "\n")))))))

-- the same as JSON, with the path of the file, and the number and the name of the type
abbrev pub word_record : List ℕ → ℕ → ℕ → Word → List ℕ
word_record path machine kind word = json_line (member (codes "file") (text_value path)
    ∷ member (codes "word") (Number word.address) ∷ member (codes "width") (Number word.width)
    ∷ member (codes "type") (Number kind) ∷ member (codes "name") (text_or_null (relocation_name machine kind))
    ∷ value_members word.value)

-- the line of a word in a form
abbrev pub line_in : Form → List ℕ → ℕ → ℕ → ℕ → Word → List ℕ
line_in Text path machine of kind word = word_text machine kind of word
line_in Json path machine of kind word = word_record path machine kind word

-- the same, of a relocation of a type
abbrev pub line_text : Place → ℕ → Word → List ℕ
line_text place kind word = line_in place.form place.path.now place.machine place.of kind word

-- nothing is written
abbrev pub is_unchanged : Value → Bool
is_unchanged values.Unchanged = true
is_unchanged _ = false

-- the text of a relocation: none if its word is not known
abbrev pub result_text : Place → ℕ → Result Word LoadError → List ℕ
result_text place kind (Ok word) = if is_unchanged word.value then [] else line_text place kind word
result_text place kind (Err error) = []

-- the same of an item
abbrev pub item_text : {E : Type 0} → Place → Relocated E → List ℕ
item_text place item = result_text place item.relocation.reference.kind item.word

-- the line with the path of a file, before its words
abbrev pub path_text : List ℕ → List ℕ
path_text path = codes "words " ++ (path ++ codes "\n")

-- the same in a form: JSON has no such line
abbrev pub heading_text : Form → List ℕ → List ℕ
heading_text Text path = path_text path
heading_text Json path = []

-- What is written of the relocations of an object.

-- the word of an item is known
abbrev pub HasKnownWord : {E : Type 0} → Relocated E → Type 0
HasKnownWord item = IsOk item.word

-- these are the items of the relocations that are left, and each has its word
pub record AreItemsOf {E : Type 0} {r : _} (fields : E → SymbolFields) (words : Words E r) (items : List (Relocated E)) : Type 0 where
  pub are : map relocation_of items ≡ relocations_left words
  pub have_words : All (HasWordOf fields words) items
  pub known : All HasKnownWord items

-- the text of the relocations that are left
pub record IsItemsText {E : Type 0} {r : _} (fields : E → SymbolFields) (place : Place) (words : Words E r) (text : List ℕ) : Type 0 where
  pub items : List (Relocated E)
  pub items_are : AreItemsOf fields words items
  pub text_is : text ≡ flat_map (item_text place) items

-- the first relocation that is left whose word is not known, and why
pub record IsWordError {E : Type 0} {r : _} (fields : E → SymbolFields) (words : Words E r) (error : LoadError) : Type 0 where
  pub earlier : List (Relocated E)
  pub item : Relocated E
  pub later : List Relocation
  pub are : relocations_left words ≡ map relocation_of earlier ++ (relocation_of item ∷ later)
  pub known : All HasKnownWord earlier
  pub has_word : HasWordOf fields words item
  pub word_is : item.word ≡ Err error

-- how the lines of the object at an index are written, in a file at a path for a machine
abbrev pub place_of : Form → Bor (List ℕ) → ℕ → ℕ → Place
place_of form path machine of = record { form = form; path = path; machine = machine; of = of }

-- the text of the object at an index: the heading of its file, and its words
pub record IsObjectText {E : Type 0} {r : _} (fields : E → SymbolFields) (form : Form) (when : Binding) (inputs : List Input) (objects : List (DynamicObject E r)) (of : ℕ) (object : DynamicObject E r) (text : List ℕ) : Type 0 where
  pub lent : Bor (List (DynamicObject E r))
  pub lent_is : lent.now ≡ objects
  pub words : Words E r
  pub words_are : AreWordsOf lent of when words
  pub left : own_relocations (Some object) ≡ Ok (relocations_left words)
  pub items : List ℕ
  pub text_is : IsSomeAnd (slice_get inputs of) (λ input.
      IsItemsText fields (place_of form input.path (file_machine (object_file object)) of) words items
      × (text ≡ heading_text form input.path.now ++ items))

-- the same with the binding that is asked for, but of the interpreter with each symbol at once
abbrev pub IsAskedText : {E : Type 0} → {r : _} → (E → SymbolFields) → Form → Binding → List Input → List (DynamicObject E r) → ℕ → DynamicObject E r → List ℕ → Type 0
IsAskedText fields form when inputs objects of = IsObjectText fields form (binding_of objects when of) inputs objects of

-- what is written of some items in order: for each, by its index, a text
pub data AreTexts {A : Type 0} (Is : ℕ → A → List ℕ → Type 0) : List A → List ℕ → Type 0 where
  nothing : AreTexts Is [] []
  further : (items : List A) (item : A) (text own : List ℕ) → AreTexts Is items text
      → Is (length items) item own → AreTexts Is (items ++ (item ∷ [])) (text ++ own)

-- the text of all objects, which are those of the inputs
abbrev pub AreWordsWritten : {E : Type 0} → {r : _} → (E → SymbolFields) → Form → Binding → List Input → List (DynamicObject E r) → List ℕ → Type 0
AreWordsWritten fields form when inputs objects = AreTexts (IsAskedText fields form when inputs objects) objects

-- why the text ends before the last word: the relocations of the object at an index can't be read, or one of them has a
-- word that is not known
pub data IsTextError {E : Type 0} {r : _} (fields : E → SymbolFields) (when : Binding) (objects : List (DynamicObject E r)) (of : ℕ) : LoadError → Type 0 where
  by_relocations : (error : LinkError) → own_relocations (slice_get objects of) ≡ Err error → IsTextError fields when objects of (Link error)
  by_word : (lent : Bor (List (DynamicObject E r))) (words : Words E r) (error : LoadError) → lent.now ≡ objects
      → AreWordsOf lent of when words → IsWordError fields words error
      → IsTextError fields when objects of error

-- the error of the input at an index is such an error of its object
pub record IsTextFailed {E : Type 0} {r : _} (fields : E → SymbolFields) (when : Binding) (inputs : List Input) (objects : List (DynamicObject E r)) (failed : Failed LoadError) : Type 0 where
  pub of : ℕ
  pub path_is : IsOfInput inputs of failed
  pub error_is : IsTextError fields (binding_of objects when of) objects of failed.error
