-- What the program writes of the references of some files (this project's own): a line for each that is looked up,
-- with the file in which its symbol is found, and the symbol's value.
use Rattle.std.specs.Prelude.{◌≡◌, ℕ, ◌++◌, ◌&&◌, if◌then◌else◌, not, Bool, false, List, [], ◌∷◌, Option, Some, None, option_and_then, option_map, map, Err, codes, slice_get, IsSome, IsSomeAnd}
use Rattle.std.specs.Borrow.{Bor}
use Rattle.std.specs.Fmt.{digits}
use Rattle.elf_linking.specs.CheckedBindings.{all_bindings, is_weak}
use Rattle.elf_linking.specs.CheckedScope.{asked_in}
use Rattle.elf_linking.specs.DynamicObject.{object_file, object_view}
use Rattle.elf_linking.specs.DynamicView.{view_entries}
use Rattle.elf_linking.specs.Exports.{ObjectParts, object_parts}
use Rattle.elf_linking.specs.References.{references_of}
use Rattle.elf_linking.specs.Scope.{asked_of}
use Rattle.elf_linking.specs.declared.error.LinkError.{LinkError}
use Rattle.elf_linking.specs.declared.find.Wanted.{Wanted}
use Rattle.elf_linking.specs.declared.find.Wanted.TheVariants.{Newest, Unversioned, Version}
use Rattle.elf_linking.specs.declared.object.DynamicObject.{DynamicObject}
use Rattle.elf_linking.specs.declared.references.Reference.{Reference}
use Rattle.elf_linking.specs.declared.scope.Bound.{Bound}
use Rattle.elf_linking.specs.declared.scope.asking.Asked.{Asked}
use Rattle.elf_linking.specs.declared.scope.asking.Asked.TheVariants.{Look, Own}
use Rattle.elfbind.specs.Files.{AreWritten}
use Rattle.elfbind.specs.declared.bindings.Style.{Style}
use Rattle.linking_programs.specs.Files.{IsOfInput}
use Rattle.linking_programs.specs.declared.Input.{Input}
use Rattle.linking_programs.specs.declared.Failed.{Failed}
use Rattle.program_ends.specs.Names.{escaped}
use Rattle.program_ends.specs.Json.{json_line, member, name_value, text_value}
use Rattle.program_ends.specs.declared.json.Form.{Form}
use Rattle.program_ends.specs.declared.json.Form.TheVariants.{Json, Text}
use Rattle.program_ends.specs.declared.json.Member.{Member}
use Rattle.program_ends.specs.declared.json.Value.{Value}
use Rattle.program_ends.specs.declared.json.Value.TheVariants as values
use Rattle.xmas_elf.specs.Symbol.{SymbolFields}

-- The text of a line.

-- the version that is asked for, after the name
abbrev pub version_text : Wanted → List ℕ
version_text (Version name _ _) = codes "@" ++ name.now
version_text Unversioned = []
version_text Newest = []

-- a file and a value in hexadecimal, or that there is none, and whether the reference is weak
abbrev pub target_text : Bool → Option (Bor (List ℕ) × ℕ) → List ℕ
target_text weak (Some target) = target.0.now ++ (codes " 0x" ++ digits 16 false target.1)
target_text weak None = if weak then codes "unresolved (weak)" else codes "unresolved"

-- the version as a value, or null
abbrev pub version_value : Wanted → Value
version_value (Version name _ _) = text_value name.now
version_value Unversioned = values.Null
version_value Newest = values.Null

-- the members of a file and a value, or null for both
abbrev pub target_members : Option (Bor (List ℕ) × ℕ) → List Member
target_members (Some target) = member (codes "file") (text_value target.0.now) ∷ member (codes "value") (values.Number target.1) ∷ []
target_members None = member (codes "file") values.Null ∷ member (codes "value") values.Null ∷ []

-- the line of a reference: its file, the name and the version, and what it gets; or these as members, with whether it is
-- weak
abbrev pub line_text : Form → List ℕ → List ℕ → Wanted → Bool → Option (Bor (List ℕ) × ℕ) → List ℕ
line_text Json file name wanted weak target = json_line (member (codes "from") (text_value file)
    ∷ member (codes "name") (name_value name) ∷ member (codes "version") (version_value wanted)
    ∷ member (codes "weak") (values.Bool weak) ∷ target_members target)
line_text Text file name wanted weak target =
    file ++ (codes " " ++ (escaped name ++ (version_text wanted ++ (codes " -> " ++ (target_text weak target ++ codes "\n")))))

-- a line, if it is asked for
abbrev pub shown_text : Bool → List ℕ → List ℕ
shown_text shown line = if shown then line else []

-- The line of an item of `CheckedScope::bindings`: the index of an object, and a reference with the symbol that it gets,
-- or None in the place of relocations that can't be read.

-- the path of the file at an index
abbrev pub path_in : Option Input → List ℕ
path_in None = []
path_in (Some input) = input.path.now

-- the path of the file that has the symbol, and the symbol's value
abbrev pub target_of : List Input → Option (Bound SymbolFields) → Option (Bor (List ℕ) × ℕ)
target_of inputs None = None
target_of inputs (Some bound) = option_map (λ input. (input.path, bound.symbol.value)) (slice_get inputs bound.object)

-- a reference is missing its symbol: it gets none, and isn't weak
abbrev pub is_missing : Bool → Option (Bound SymbolFields) → Bool
is_missing weak None = not weak
is_missing weak (Some bound) = false

-- of a reference of the object at index `from`, which may be weak, by what it gets and what it asks for: whether it is
-- missing its symbol, and its line. The line is empty if the reference gets the symbol that it names without a look-up,
-- or if it isn't missing its symbol and only those that are, are asked for
abbrev pub line_by : List Input → Style → ℕ → Bool → Option (Bound SymbolFields) → Asked SymbolFields → Bool × List ℕ
line_by inputs style from weak bound (Own own) = (false, [])
line_by inputs style from weak bound (Look name wanted purpose own) = (
  is_missing weak bound,
  shown_text (not (style.only_missing && not (is_missing weak bound)))
      (line_text style.form (path_in (slice_get inputs from)) name.now wanted weak (target_of inputs bound)),
)

-- whether the reference of an item is missing its symbol, and its line; None if the relocations of the object, or what
-- the reference asks for, can't be read
abbrev pub line_of : List Input → List ObjectParts → Style → ℕ × Option (Reference × Option (Bound SymbolFields)) → Option (Bool × List ℕ)
line_of inputs objects style item =
    option_and_then (λ binding. option_and_then (λ object.
    let weak = is_weak (option_map (λ symbol. symbol.fields) (slice_get object.symbols binding.0.symbol)) in
    option_map (line_by inputs style item.0 weak binding.1) (asked_in object binding.0)) (slice_get objects item.0)) item.1

-- why an item of an object has no line: the error of its relocations, or of what the reference asks for
abbrev pub IsErrorIn : {E : Type 0} → {r : _} → (E → SymbolFields) → DynamicObject E r → Option (Reference × Option (Bound SymbolFields)) → LinkError → Type 0
IsErrorIn fields object None error = references_of (object_file object) (view_entries (object_view object)) ≡ Err error
IsErrorIn fields object (Some binding) error = asked_of fields object binding.0 ≡ Err error

-- the same, with the path of the file
abbrev pub IsErrorOf : {E : Type 0} → {r : _} → (E → SymbolFields) → List Input → List (DynamicObject E r) → ℕ × Option (Reference × Option (Bound SymbolFields)) → Failed LinkError → Type 0
IsErrorOf fields inputs objects item failed = IsSomeAnd (slice_get objects item.0) (λ object.
    IsOfInput inputs item.0 failed × IsErrorIn fields object item.1 failed.error)

-- an item is of an object; if it has no reference, the relocations of the object can't be read
abbrev pub IsItemOf : List ObjectParts → ℕ × Option (Reference × Option (Bound SymbolFields)) → Type 0
IsItemOf objects item = IsSomeAnd (slice_get objects item.0) (λ object. item.1 ≡ None → object.references ≡ None)

-- The lines of all items.

-- an item has a line
abbrev pub IsLine : List Input → List ObjectParts → Style → ℕ → ℕ × Option (Reference × Option (Bound SymbolFields)) → Bool → List ℕ → Type 0
IsLine inputs objects style _ item missing line = line_of inputs objects style item ≡ Some (missing, line)

-- what is written of all objects: the lines of the items, in order
abbrev pub AreBindingsWritten : List Input → List ObjectParts → Style → Bool → List ℕ → Type 0
AreBindingsWritten inputs objects style = AreWritten (IsLine inputs objects style) (all_bindings objects)

-- an item has a property, and those before it have their lines
pub record IsAtItem (inputs : List Input) (objects : List ObjectParts) (style : Style) (P : ℕ × Option (Reference × Option (Bound SymbolFields)) → Type 0) : Type 0 where
  pub earlier : List (ℕ × Option (Reference × Option (Bound SymbolFields)))
  pub item : ℕ × Option (Reference × Option (Bound SymbolFields))
  pub later : List (ℕ × Option (Reference × Option (Bound SymbolFields)))
  pub items_are : all_bindings objects ≡ earlier ++ (item ∷ later)
  pub missing : Bool
  pub text : List ℕ
  pub lines : AreWritten (IsLine inputs objects style) earlier missing text
  pub here : P item

-- why the lines end before the last: the first item that has an error
abbrev pub AreBindingsFailed : {E : Type 0} → {r : _} → (E → SymbolFields) → List Input → List (DynamicObject E r) → Style → Failed LinkError → Type 0
AreBindingsFailed fields inputs objects style failed =
    IsAtItem inputs (map (object_parts fields) objects) style (λ item. IsErrorOf fields inputs objects item failed)

-- an item has its line, as those before it have
abbrev pub AreBindingsBegun : List Input → List ObjectParts → Style → Type 0
AreBindingsBegun inputs objects style =
    IsAtItem inputs objects style (λ item. IsSome (line_of inputs objects style item))
