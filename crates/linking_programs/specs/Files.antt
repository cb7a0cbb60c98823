-- The files that a program is given, and their objects (this project's own).
use Rattle.std.specs.Prelude.{◌≡◌, ℕ, ◌==◌, Bool, false, List, [], ◌∷◌, IsOkAnd, IsSomeAnd, Result, Ok, Err, slice_get, Some, take}
use Rattle.std.specs.Borrow.{Bor}
use Rattle.std.specs.List.{AllZip}
use Rattle.elf_base.specs.FileHeader.{file_class, header_of}
use Rattle.elf_base.specs.declared.error.ElfError.{ElfError}
use Rattle.elf_linking.specs.DynamicObject.{IsObjectErrorOf, IsObjectOfBytes}
use Rattle.elf_linking.specs.declared.error.LinkError.{LinkError}
use Rattle.elf_linking.specs.declared.object.DynamicObject.{DynamicObject}
use Rattle.linking_programs.specs.declared.Input.{Input}
use Rattle.linking_programs.specs.declared.Failed as reasons
use Rattle.program_ends.specs.declared.Fault.{Fault}
use Rattle.program_ends.specs.declared.Fault.TheVariants as faults
use Rattle.program_ends.specs.declared.Stop.{Stop}
use Rattle.program_ends.specs.declared.Stop.TheVariants as stops
use Rattle.xmas_elf.specs.Types.{Header}
use Rattle.xmas_elf.specs.declared.ElfFile.{ElfFile}

-- an input is the file of its header, with a property
abbrev pub OfHeader : Bor (List ℕ) → (ElfFile → Type 0) → Type 0
OfHeader input P = IsOkAnd (header_of input.now) (λ header. P (record { input = input; header = header }))

-- the objects are those of the inputs, in order
abbrev pub AreObjectsOf : {E : Type 0} → {r : _} → ℕ → ℕ → List Input → List (DynamicObject E r) → Type 0
AreObjectsOf class size inputs objects =
    AllZip (λ input object. IsObjectOfBytes class size input.bytes.items object) inputs objects

-- an error is that of the input at an index, which is named by its path
abbrev pub IsOfInput : {F : Type 0} → List Input → ℕ → reasons.Failed F → Type 0
IsOfInput inputs index failed = IsSomeAnd (slice_get inputs index) (λ input. failed.path ≡ input.path)

-- the first of the inputs that is no such file, and why; those before it are
pub record IsInputError {E : Type 0} (r : _) (class size : ℕ) (inputs : List Input) (failed : reasons.Failed LinkError) : Type 0 where
  pub index : ℕ
  pub input : Input
  pub input_is : slice_get inputs index ≡ Some input
  pub objects : List (DynamicObject E r)
  pub objects_are : AreObjectsOf class size (take index inputs) objects
  pub path_is : failed.path ≡ input.path
  pub error_is : IsObjectErrorOf class size input.bytes.items failed.error

-- a header is of class 32
abbrev pub is_narrow_header : Result Header ElfError → Bool
is_narrow_header (Ok header) = file_class header == 1
is_narrow_header (Err error) = false

-- the first input is of class 32
abbrev pub is_first_narrow : List Input → Bool
is_first_narrow [] = false
is_first_narrow (input ∷ others) = is_narrow_header (header_of input.bytes.items)

-- what a program says where its output isn't written to its end
abbrev pub failed_fault_of : {F : Type 0} → Stop (reasons.Failed F) → Fault F
failed_fault_of (stops.Failed failed) = faults.Failed failed.path failed.error
failed_fault_of stops.Write = faults.Write
failed_fault_of stops.Memory = faults.Memory
