-- What the program writes of the checks of some files (this project's own): a line for each.
use Rattle.std.specs.Prelude.{◌≡◌, ℕ, ◌++◌, ◌∷◌, [], Bool, List, Result, Ok, Err, codes, is_err, slice_get, IsSomeAnd}
use Rattle.elf_linking.specs.Checked.{AreChecked}
use Rattle.elf_linking.specs.DynamicObject.{object_dynamic_symbols}
use Rattle.elf_linking.specs.Message.{link_message}
use Rattle.elf_linking.specs.declared.error.LinkError.{LinkError}
use Rattle.elf_linking.specs.declared.object.DynamicObject.{DynamicObject}
use Rattle.linking_programs.specs.declared.Input.{Input}
use Rattle.program_ends.specs.Json.{json_line, member, text_value}
use Rattle.program_ends.specs.declared.json.Form.{Form}
use Rattle.program_ends.specs.declared.json.Form.TheVariants.{Json, Text}
use Rattle.program_ends.specs.declared.json.Value.{Value}
use Rattle.program_ends.specs.declared.json.Value.TheVariants.{Null}
use Rattle.xmas_elf.specs.Symbol.{SymbolFields}

-- the error of checks as a value, or null if they pass
abbrev pub error_value : Result (Unit {0}) LinkError → Value
error_value (Ok _) = Null
error_value (Err error) = text_value (link_message error)

-- the line of a file: its path, and that its checks pass, or why not; or these as members
abbrev pub check_text : Form → List ℕ → Result (Unit {0}) LinkError → List ℕ
check_text Json path result = json_line (member (codes "file") (text_value path) ∷ member (codes "error") (error_value result) ∷ [])
check_text Text path (Ok _) = path ++ codes ": ok\n"
check_text Text path (Err error) = path ++ (codes ": " ++ (link_message error ++ codes "\n"))

-- the line of the object at an index, and whether its checks fail
pub record IsCheckLine {E : Type 0} {r : _} (form : Form) (fields : E → SymbolFields) (inputs : List Input) (index : ℕ) (object : DynamicObject E r) (failing : Bool) (line : List ℕ) : Type 0 where
  pub result : Result (Unit {0}) LinkError
  pub checked : AreChecked (object_dynamic_symbols fields object) result
  pub line_is : IsSomeAnd (slice_get inputs index) (λ input. line ≡ check_text form input.path.now result)
  pub failing_is : failing ≡ is_err result
