-- Whether one loader maps each file (this project's own).
use Rattle.std.specs.Prelude.{◌≡◌, ◌<◌, ◌++◌, ℕ, true, [], ◌∷◌, List, Option, Some, None, Result, Ok, Err, IfSome, IsSomeAnd, codes, slice_get}
use Rattle.std.specs.Borrow.{Bor}
use Rattle.elf_base.specs.FileHeader.{header_of}
use Rattle.elf_loading.specs.LoaderCheck.{check_by}
use Rattle.elf_loading.specs.declared.mapping.Loader.TheVariants.{Glibc, Kernel}
use Rattle.elfload.specs.Plans.{header_limit}
use Rattle.elfload.specs.Types.{ElfError, ElfFile, Fault, Input, LoadError, Loader}
use Rattle.elfload.specs.declared.plans.AnyError.{AnyError}
use Rattle.elfload.specs.declared.plans.AnyError.TheVariants.{Elf, Load, Machine}
use Rattle.program_ends.specs.declared.Fault.TheVariants as faults
use Rattle.program_ends.specs.Json.{json_line, member, text_value}
use Rattle.program_ends.specs.declared.json.Form.{Form}
use Rattle.program_ends.specs.declared.json.Form.TheVariants.{Json, Text}
use Rattle.program_ends.specs.declared.json.Value.TheVariants.{Bool}
use Rattle.xmas_elf.specs.Types.{Header}

-- the option that asks for a loader alone
abbrev pub option_of : Loader → List ℕ
option_of Kernel = codes "--kernel"
option_of Glibc = codes "--glibc"

-- the result of a check, with its error as the program says it
abbrev pub as_said : Result (Unit {0}) LoadError → Result (Unit {0}) AnyError
as_said (Ok done) = Ok done
as_said (Err error) = Err (Load error)

-- the result of a loader for a file, with the end of the addresses of its machine if that is known
abbrev pub verdict_within : Loader → ℕ → ElfFile → Option ℕ → Result (Unit {0}) AnyError
verdict_within by page file (Some limit) = as_said (check_by by page limit file)
verdict_within by page file None = Err Machine

-- the same of bytes, by their header or the error that it has
abbrev pub verdict_of : Loader → ℕ → Bor (List ℕ) → Result Header ElfError → Result (Unit {0}) AnyError
verdict_of by page input (Ok header) = verdict_within by page (record { input = input; header = header }) (header_limit header)
verdict_of by page input (Err error) = Err (Elf error)

-- a loader has this result for the file that these bytes are
abbrev pub HasVerdict : Loader → ℕ → List ℕ → Result (Unit {0}) AnyError → Type 0
HasVerdict by page bytes verdict =
    (input : Bor (List ℕ)) × (input.now ≡ bytes) × (verdict ≡ verdict_of by page input (header_of input.now))

-- the line of a file that is mapped, in a form
abbrev pub mapped_line : Form → List ℕ → List ℕ
mapped_line Text path = path ++ codes ": loads: yes\n"
mapped_line Json path = json_line (member (codes "file") (text_value path) ∷ member (codes "loads") (Bool true) ∷ [])

-- the text is that line
abbrev pub IsMappedLine : Form → List ℕ → List ℕ → Type 0
IsMappedLine form path text = text ≡ mapped_line form path

-- how the program ends for the file at a path: it is mapped; or it has this error; or its line can't be written
abbrev pub IsVerdictEnd : Loader → ℕ → Bor (List ℕ) → List ℕ → Result (Unit {0}) (Fault AnyError) → Type 0
IsVerdictEnd by page path bytes (Ok done) = HasVerdict by page bytes (Ok tt)
IsVerdictEnd by page path bytes (Err (faults.Failed at error)) = (at ≡ path) × HasVerdict by page bytes (Err error)
IsVerdictEnd by page path bytes (Err faults.Write) = HasVerdict by page bytes (Ok tt)
IsVerdictEnd by page path bytes (Err fault) = ⊥

-- a loader maps each input below an index
abbrev pub AreMapped : Loader → ℕ → List Input → ℕ → Type 0
AreMapped by page inputs count =
    (i : ℕ) → i < count → IfSome (slice_get inputs i) (λ input. HasVerdict by page input.bytes.items (Ok tt))

-- the status for the inputs below an index: 0 if each is mapped; 1 after one with this fault, if those before it are mapped
pub data IsStatus (by : Loader) (page : ℕ) (inputs : List Input) (count : ℕ) : ℕ → Type 0 where
  mapped : AreMapped by page inputs count → IsStatus by page inputs count 0
  failed : (index : ℕ) (fault : Fault AnyError) → AreMapped by page inputs index
      → IsSomeAnd (slice_get inputs index) (λ input. IsVerdictEnd by page input.path input.bytes.items (Err fault))
      → IsStatus by page inputs count 1
