-- What the program writes of a file (this project's own): its header, and its plan for both loaders.
use Rattle.std.specs.Prelude.{◌≡◌, ℕ, ◌++◌, ◌==◌, ◌&&◌, ◌||◌, ◌*◌, List, Option, Some, None, Err, codes, IsOk, IsSomeAnd, MatchOption, if◌then◌else◌, option_map}
use Rattle.std.specs.Borrow.{Bor}
use Rattle.elf_base.specs.FileHeader.{file_class, header_fields, header_of, machine_number}
use Rattle.elf_base.specs.Text.{EndsInZero}
use Rattle.elfload.specs.Types.{ElfError, LoadError, Loader}
use Rattle.elf_loading.specs.FileCheck.{check_file, kind_of}
use Rattle.elf_loading.specs.Mappings.{mappings_of}
use Rattle.elf_loading.specs.Segments.{interpreter_of, loads_of, relro_of, stack_of, tls_of}
use Rattle.elf_loading.specs.Spans.{relro_span, span_of}
use Rattle.elf_loading.specs.declared.mapping.Loader.TheVariants.{Glibc, Kernel}
use Rattle.elfload.specs.PlanRecords.{head_record, mapping_records, rest_record}
use Rattle.elfload.specs.Texts.{head_text, mappings_text}
use Rattle.elfload.specs.declared.plans.Head.{Head}
use Rattle.elfload.specs.declared.plans.AnyError as failures
use Rattle.elfload.specs.declared.plans.AnyError.TheVariants as failures_are
use Rattle.linking_programs.specs.Files.{OfHeader}
use Rattle.program_ends.specs.Names.{escaped}
use Rattle.program_ends.specs.declared.json.Form.{Form}
use Rattle.program_ends.specs.declared.json.Form.TheVariants.{Json, Text}
use Rattle.xmas_elf.specs.Types.{ElfFile, Header}

-- the number of a machine (e_machine)
abbrev pub machine_of : Header → ℕ
machine_of header = machine_number (header_fields header.pt2).machine

-- the end of the addresses that Linux gives a program, by the class and the machine (TASK_SIZE of x86-64, of AArch64 with
-- addresses of 48 bits, and of both machines' programs of class 32 on x86-64)
abbrev pub limit_of : ℕ → ℕ → Option ℕ
limit_of class machine =
    if class == 2 && machine == 62 then Some 0x7ffffffff000
    else (if class == 2 && machine == 183 then Some 0x1000000000000
    else (if class == 1 && (machine == 3 || machine == 62) then Some 0xffffe000
    else None))

-- the same of a header
abbrev pub header_limit : Header → Option ℕ
header_limit header = limit_of (file_class header) (machine_of header)

-- the head of the plan of a file
abbrev pub head_of : ℕ → Bor (List ℕ) → ElfFile → Head
head_of page path file = record {
  path = path;
  class = 32 * file_class file.header;
  kind = kind_of file.header;
  machine = machine_of file.header;
  entry = (header_fields file.header.pt2).entry_point;
  span = span_of page (loads_of file);
  relro = option_map (relro_span page) (relro_of file);
  tls = option_map (λ tls. record {
    address = tls.address;
    file_size = tls.file_size;
    mem_size = tls.mem_size;
    align = tls.align;
  }) (tls_of file);
  stack = option_map (λ stack. stack.flags) (stack_of file);
}

-- the path of the interpreter with its control characters escaped, or that there is none
abbrev pub IsInterpreterText : ElfFile → List ℕ → Type 0
IsInterpreterText file text = MatchOption (interpreter_of file) (text ≡ codes "none")
    (λ segment. (path : List ℕ) × EndsInZero file.input.now segment.offset path × (text ≡ escaped path))

-- the lines of the mappings of a file, as a loader makes them
abbrev pub lines_by : Loader → ℕ → ElfFile → List ℕ
lines_by by page file = mappings_text (mappings_of page by None (loads_of file))

-- the text of the plan of a file
pub record IsPlanText (page : ℕ) (path : Bor (List ℕ)) (file : ElfFile) (text : List ℕ) : Type 0 where
  pub interpreter : List ℕ
  pub interpreter_is : IsInterpreterText file interpreter
  pub text_is : text ≡ head_text (head_of page path file)
      ++ (interpreter ++ (codes "\nkernel\n" ++ (lines_by Kernel page file ++ (codes "glibc\n" ++ lines_by Glibc page file))))

-- the path of the interpreter, if there is one
abbrev pub IsInterpreter : ElfFile → Option (List ℕ) → Type 0
IsInterpreter file None = interpreter_of file ≡ None
IsInterpreter file (Some path) = IsSomeAnd (interpreter_of file) (λ segment. EndsInZero file.input.now segment.offset path)

-- the mappings of a file as JSON, as a loader makes them
abbrev pub records_by : Loader → List ℕ → List ℕ → ℕ → ElfFile → List ℕ
records_by by path name page file = mapping_records path name (mappings_of page by None (loads_of file))

-- the plan of a file as JSON
pub record IsPlanRecords (page : ℕ) (path : Bor (List ℕ)) (file : ElfFile) (text : List ℕ) : Type 0 where
  pub interpreter : Option (List ℕ)
  pub interpreter_is : IsInterpreter file interpreter
  pub text_is : text ≡ head_record (head_of page path file) ++ (rest_record (head_of page path file) interpreter
      ++ (records_by Kernel path.now (codes "kernel") page file ++ records_by Glibc path.now (codes "glibc") page file))

-- the plan of a file in a form
abbrev pub IsPlanIn : Form → ℕ → Bor (List ℕ) → ElfFile → List ℕ → Type 0
IsPlanIn Text page path file = IsPlanText page path file
IsPlanIn Json page path file = IsPlanRecords page path file

-- a file has a plan (`check_load`), with pages of a size
pub record IsLoaded (page : ℕ) (file : ElfFile) : Type 0 where
  pub limit : ℕ
  pub limit_is : header_limit file.header ≡ Some limit
  pub checked : IsOk (check_file file page limit)

-- a file has a plan, and this is its text
abbrev pub IsFilePlan : Form → ℕ → Bor (List ℕ) → ElfFile → List ℕ → Type 0
IsFilePlan form page path file text = IsLoaded page file × IsPlanIn form page path file text

-- why a file has no plan: its machine has no limit of addresses here, or an error of its check
pub data IsFileError (page : ℕ) (file : ElfFile) : failures.AnyError → Type 0 where
  no_limit : header_limit file.header ≡ None → IsFileError page file failures_are.Machine
  no_plan : (limit : ℕ) (error : LoadError) → header_limit file.header ≡ Some limit
      → check_file file page limit ≡ Err error → IsFileError page file (failures_are.Load error)

-- The same of an input.

-- an input is a file with a plan, and this is its text
abbrev pub IsInputPlan : Form → ℕ → Bor (List ℕ) → Bor (List ℕ) → List ℕ → Type 0
IsInputPlan form page path input text = OfHeader input (λ file. IsFilePlan form page path file text)

-- an input is a file with a plan
abbrev pub IsInputLoaded : ℕ → Bor (List ℕ) → Type 0
IsInputLoaded page input = OfHeader input (IsLoaded page)

-- why an input has no plan: an error of its header, or of the file
pub data IsInputError (page : ℕ) (input : Bor (List ℕ)) : failures.AnyError → Type 0 where
  no_header : (error : ElfError) → header_of input.now ≡ Err error
      → IsInputError page input (failures_are.Elf error)
  no_file : (failure : failures.AnyError) → OfHeader input (λ file. IsFileError page file failure)
      → IsInputError page input failure
