-- The objects of a scope, by what is read of files, and the faults of lines that are written of them.
use Rattle.std.proofs.Common.{◌≡◌, ◌<◌, ℕ, List, get_or, length, take, Option, Result, Ok, Err, refl, subst}
use Rattle.std.specs.Prelude.{IfOk, MatchResult, ⊤}
use Rattle.std.proofs.lemmas.Option.{slice_get_read}
use Rattle.elf_linking.specs.Checked.{AreChecked}
use Rattle.elf_linking.specs.DynamicObject.{IsObjectOfBytes, object_dynamic_symbols}
use Rattle.elf_linking.specs.Exports.{ObjectParts, object_parts}
use Rattle.elf_linking.specs.VersionTables.{result_map}
use Rattle.elf_linking.specs.declared.error.LinkError.{LinkError}
use Rattle.elf_linking.specs.declared.object.DynamicObject.{DynamicObject}
use Rattle.elfsym.specs.Scope.{AreScopeLines, AreScopeObjects, IsScopeEndOf, IsScopeFault, IsScopeObject, IsUnreadObject, by_check, by_input, by_memory, by_write, stopped, written}
use Rattle.linking_programs.specs.Files.{failed_fault_of}
use Rattle.linking_programs.specs.declared.Input.{Input}
use Rattle.linking_programs.specs.declared.Failed as reasons
use Rattle.program_ends.specs.Appended.{AppendsSome}
use Rattle.program_ends.specs.declared.Fault.{Fault}
use Rattle.program_ends.specs.declared.Fault.TheVariants as faults
use Rattle.program_ends.specs.Stops.{IsStop}
use Rattle.program_ends.specs.declared.json.Form.{Form}
use Rattle.program_ends.specs.declared.Stop.{Stop}
use Rattle.program_ends.specs.declared.Stop.TheVariants.{Memory, Failed, Write}
use Rattle.xmas_elf.specs.Symbol.{SymbolFields}

-- the object of a file after its checks, or why there is none
pub checked_by : {E : Type 0} {r : _} (fields : E → SymbolFields) (class size : ℕ) (bytes : List ℕ) (object : DynamicObject E r) (result : Result ObjectParts LinkError) → IsObjectOfBytes class size bytes object
    → IfOk result (λ parts. parts ≡ object_parts fields object) → AreChecked (object_dynamic_symbols fields object) (result_map (λ _. tt) result)
    → MatchResult result (IsScopeObject r fields class size bytes) (IsUnreadObject r fields class size bytes)
checked_by fields class size bytes object (Ok parts) is same checked = record {
  object = object;
  object_is = is;
  checked = checked;
  parts_are = same;
}
checked_by fields class size bytes object (Err error) is same checked = by_check object is checked

pub unread_at : {E : Type 0} (r : _) (fields : E → SymbolFields) (class size : ℕ) (inputs : List Input) (index : ℕ) (input : Input) (objects : List ObjectParts) (error : LinkError) → index < length inputs → input ≡ get_or inputs index input
    → AreScopeObjects r fields class size (take index inputs) objects → IsUnreadObject r fields class size input.bytes.items error → IsScopeFault r fields class size inputs (faults.Failed input.path error)
unread_at r fields class size inputs index input objects error below is earlier why = by_input input.path error (record {
  index = index;
  input = input;
  input_is = slice_get_read inputs (length inputs) index input refl below is;
  objects = objects;
  objects_are = earlier;
  path_is = refl;
  error_is = why;
})

-- the fault of lines that stop, where all inputs give their objects
pub lines_fault : {E : Type 0} (r : _) (fields : E → SymbolFields) (class size : ℕ) (inputs : List Input) (objects : List ObjectParts) (Written : Type 0) (stop : Stop (reasons.Failed LinkError)) → AreScopeObjects r fields class size inputs objects
    → IsStop (λ failed. ⊥) Written ⊤ stop → IsScopeFault r fields class size inputs (failed_fault_of stop)
lines_fault r fields class size inputs objects Written (Failed failed) are never = absurd never
lines_fault r fields class size inputs objects Written Write are begun = by_write objects are
lines_fault r fields class size inputs objects Written Memory are short = by_memory

-- the end for files of one class, by how their lines end
pub end_written : {E S : Type 0} (r : _) (fields : E → SymbolFields) (class size : ℕ) (form : Form) (text_of : S → List ℕ) (inputs items : List Input) (references : List S) (old new : Option (List ℕ)) → inputs ≡ items
    → (objects : List ObjectParts) × AreScopeObjects r fields class size inputs objects × AppendsSome (AreScopeLines form text_of inputs objects references) old new
    → IsScopeEndOf r fields class size form text_of items references (Ok tt)
end_written r fields class size form text_of inputs items references old new same (objects, are, appended) =
    subst (λ (xs : List Input). IsScopeEndOf r fields class size form text_of xs references (Ok tt)) same (written objects appended.0 are appended.1)

pub end_stopped : {E S : Type 0} (r : _) (fields : E → SymbolFields) (class size : ℕ) (form : Form) (text_of : S → List ℕ) (inputs items : List Input) (references : List S) (fault : Fault LinkError) → inputs ≡ items
    → IsScopeFault r fields class size inputs fault → IsScopeEndOf r fields class size form text_of items references (Err fault)
end_stopped r fields class size form text_of inputs items references fault same why =
    subst (λ (xs : List Input). IsScopeEndOf r fields class size form text_of xs references (Err fault)) same (stopped fault why)
