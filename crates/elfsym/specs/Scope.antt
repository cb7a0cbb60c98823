-- What the program writes of names that are looked up in a program and its libraries (this project's own): a line for
-- each, with the value and the size of its symbol and the path of the file that has it.
use Rattle.std.specs.Prelude.{◌≡◌, ℕ, ◌++◌, ◌∷◌, [], true, false, List, Option, None, Some, Result, Ok, Err, codes, option_map, slice_get, take}
use Rattle.std.specs.Borrow.{Bor}
use Rattle.std.specs.Fmt.{digits}
use Rattle.std.specs.List.{AllZip, concat}
use Rattle.elf_linking.specs.Checked.{AreChecked}
use Rattle.elf_linking.specs.CheckedScope.{looked_up}
use Rattle.elf_linking.specs.DynamicObject.{IsObjectErrorOf, IsObjectOfBytes, object_dynamic_symbols}
use Rattle.elf_linking.specs.Exports.{ObjectParts, object_parts}
use Rattle.elf_linking.specs.declared.error.LinkError.{LinkError}
use Rattle.elf_linking.specs.declared.find.Use.TheVariants.{Any}
use Rattle.elf_linking.specs.declared.find.Wanted.{Wanted}
use Rattle.elf_linking.specs.declared.object.DynamicObject.{DynamicObject}
use Rattle.elf_linking.specs.declared.scope.Bound.{Bound}
use Rattle.elfsym.specs.Lines.{Asks}
use Rattle.elfsym.specs.declared.scope.Target.{Target}
use Rattle.linking_programs.specs.Files.{is_first_narrow}
use Rattle.linking_programs.specs.declared.Input.{Input}
use Rattle.program_ends.specs.Json.{json_line, member, text_value}
use Rattle.program_ends.specs.declared.Fault.{Fault}
use Rattle.program_ends.specs.declared.Fault.TheVariants as faults
use Rattle.program_ends.specs.declared.json.Form.{Form}
use Rattle.program_ends.specs.declared.json.Form.TheVariants.{Json, Text}
use Rattle.program_ends.specs.declared.json.Member.{Member}
use Rattle.program_ends.specs.declared.json.Value.TheVariants.{Null, Number}
use Rattle.program_libraries.specs.Listed.{AreListed}
use Rattle.program_libraries.specs.declared.store.StoredFile.{StoredFile}
use Rattle.program_libraries.specs.declared.trees.Tree.{Tree}
use Rattle.xmas_elf.specs.Symbol.{SymbolFields, dyn_entry_32_fields, dyn_entry_64_fields}
use Rattle.xmas_elf.specs.Types.{DynEntry32, DynEntry64}

-- The lines.

-- the members of the line of a reference: as it was asked for, and the value and the size of its symbol and the path of
-- the file, or null for all three
abbrev pub target_members : List ℕ → Option Target → List Member
target_members reference (Some target) = member (codes "name") (text_value reference)
    ∷ member (codes "value") (Number target.value) ∷ member (codes "size") (Number target.size)
    ∷ member (codes "file") (text_value target.path.now) ∷ []
target_members reference None = member (codes "name") (text_value reference)
    ∷ member (codes "value") Null ∷ member (codes "size") Null ∷ member (codes "file") Null ∷ []

-- the line of a reference: the value and the size of its symbol in hexadecimal, and the path of the file, or that there
-- is none; or these members
abbrev pub scope_text : Form → List ℕ → Option Target → List ℕ
scope_text Json reference target = json_line (target_members reference target)
scope_text Text reference (Some target) =
    reference ++ (codes " 0x" ++ (digits 16 false target.value ++ (codes " 0x" ++ (digits 16 false target.size ++ (codes " " ++ (target.path.now ++ codes "\n"))))))
scope_text Text reference None = reference ++ codes ": none\n"

-- what the line says of a symbol: its value, its size, and the path of the file that has it
abbrev pub target_of : List Input → Option (Bound SymbolFields) → Option Target
target_of inputs None = None
target_of inputs (Some bound) =
    option_map (λ input. record { value = bound.symbol.value; size = bound.symbol.size; path = input.path }) (slice_get inputs bound.object)

-- the symbol for a reference: that which a look-up for the program, at index 0, finds for any use, as `dlsym` and
-- `dlvsym` do
abbrev pub IsScopeBound : List ObjectParts → List ℕ → Option (Bound SymbolFields) → Type 0
IsScopeBound objects reference bound = (name : List ℕ) × (wanted : Wanted) × Asks reference name wanted
    × (bound ≡ looked_up objects 0 name wanted Any)

-- the line of a reference, by that symbol
abbrev pub IsScopeLine : Form → List Input → List ObjectParts → List ℕ → List ℕ → Type 0
IsScopeLine form inputs objects reference line = (bound : Option (Bound SymbolFields)) × IsScopeBound objects reference bound
    × (line ≡ scope_text form reference (target_of inputs bound))

-- the text is a line for each reference, in order
pub record AreScopeLines {S : Type 0} (form : Form) (text_of : S → List ℕ) (inputs : List Input) (objects : List ObjectParts) (references : List S) (text : List ℕ) : Type 0 where
  pub lines : List (List ℕ)
  pub each : AllZip (λ reference line. IsScopeLine form inputs objects (text_of reference) line) references lines
  pub text_is : text ≡ concat lines

-- The objects.

-- the object is that of a file of this class, which these bytes are, and its checks pass
pub record IsScopeObject {E : Type 0} (r : _) (fields : E → SymbolFields) (class size : ℕ) (bytes : List ℕ) (parts : ObjectParts) : Type 0 where
  pub object : DynamicObject E r
  pub object_is : IsObjectOfBytes class size bytes object
  pub checked : AreChecked (object_dynamic_symbols fields object) (Ok tt)
  pub parts_are : parts ≡ object_parts fields object

-- why bytes give no such object: they are no such file, or a check of its object fails
pub data IsUnreadObject {E : Type 0} (r : _) (fields : E → SymbolFields) (class size : ℕ) (bytes : List ℕ) (error : LinkError) : Type 0 where
  by_file : IsObjectErrorOf class size bytes error → IsUnreadObject r fields class size bytes error
  by_check : (object : DynamicObject E r) → IsObjectOfBytes class size bytes object
      → AreChecked (object_dynamic_symbols fields object) (Err error) → IsUnreadObject r fields class size bytes error

-- the objects are those of the inputs, in order
pub record AreScopeObjects {E : Type 0} (r : _) (fields : E → SymbolFields) (class size : ℕ) (inputs : List Input) (objects : List ObjectParts) : Type 0 where
  pub each : AllZip (λ input parts. IsScopeObject r fields class size input.bytes.items parts) inputs objects

-- Why no such lines are written.

-- the first of the inputs that gives no object, by its path, and why; those before it give theirs
pub record IsUnreadInput {E : Type 0} (r : _) (fields : E → SymbolFields) (class size : ℕ) (inputs : List Input) (path : Bor (List ℕ)) (error : LinkError) : Type 0 where
  pub index : ℕ
  pub input : Input
  pub input_is : slice_get inputs index ≡ Some input
  pub objects : List ObjectParts
  pub objects_are : AreScopeObjects r fields class size (take index inputs) objects
  pub path_is : path ≡ input.path
  pub error_is : IsUnreadObject r fields class size input.bytes.items error

-- the fault for files of one class: an error of one of them; or writing failed once all gave their objects; or memory was
-- short
pub data IsScopeFault {E : Type 0} (r : _) (fields : E → SymbolFields) (class size : ℕ) (inputs : List Input) : Fault LinkError → Type 0 where
  by_input : (path : Bor (List ℕ)) (error : LinkError) → IsUnreadInput r fields class size inputs path error
      → IsScopeFault r fields class size inputs (faults.Failed path error)
  by_write : (objects : List ObjectParts) → AreScopeObjects r fields class size inputs objects
      → IsScopeFault r fields class size inputs faults.Write
  by_memory : IsScopeFault r fields class size inputs faults.Memory

-- How the program ends.

-- for files of one class: there is a text for their objects, or the fault
pub data IsScopeEndOf {E S : Type 0} (r : _) (fields : E → SymbolFields) (class size : ℕ) (form : Form) (text_of : S → List ℕ) (inputs : List Input) (references : List S) : Result (Unit {0}) (Fault LinkError) → Type 0 where
  written : (objects : List ObjectParts) (text : List ℕ) → AreScopeObjects r fields class size inputs objects
      → AreScopeLines form text_of inputs objects references text
      → IsScopeEndOf r fields class size form text_of inputs references (Ok tt)
  stopped : (fault : Fault LinkError) → IsScopeFault r fields class size inputs fault
      → IsScopeEndOf r fields class size form text_of inputs references (Err fault)

-- for the files of a program and its libraries, in the order in which names are looked up, and of the class of the first;
-- or there is no memory for these. The first two arguments say how the record of a symbol of each class is read.
pub data IsScopeEnd {S : Type 0} (narrow_record wide_record : _) (form : Form) (text_of : S → List ℕ) (files : List StoredFile) (tree : Tree) (references : List S) (end : Result (Unit {0}) (Fault LinkError)) : Type 0 where
  narrow_scope : (inputs : List Input) → AreListed files tree inputs → is_first_narrow inputs ≡ true
      → IsScopeEndOf {E = DynEntry32} narrow_record dyn_entry_32_fields 1 16 form text_of inputs references end
      → IsScopeEnd narrow_record wide_record form text_of files tree references end
  wide_scope : (inputs : List Input) → AreListed files tree inputs → is_first_narrow inputs ≡ false
      → IsScopeEndOf {E = DynEntry64} wide_record dyn_entry_64_fields 2 24 form text_of inputs references end
      → IsScopeEnd narrow_record wide_record form text_of files tree references end
  short : end ≡ Err faults.Memory → IsScopeEnd narrow_record wide_record form text_of files tree references end
