-- The plan of a load and its mappings, as numbers (gABI, "Program Loading"; the plan is that of Linux and glibc).
use Rattle.std.specs.Prelude.{ℕ, ◌==◌, List, length, map, Option, None, Some, option_map, is_some, Result, Ok, Err, if◌then◌else◌}
use Rattle.elf_base.specs.FileHeader.{file_class, header_fields}
use Rattle.elf_base.specs.Text.{bytes_up_to_zero_of}
use Rattle.elf_base.specs.declared.error.ElfError.{ElfError}
use Rattle.elf_linking.specs.References.{file_machine}
use Rattle.elf_loading.specs.FileCheck.{check_file}
use Rattle.elf_loading.specs.Mappings.{mappings_of}
use Rattle.elf_loading.specs.Segments.{interpreter_of, loads_of, relro_of, stack_of, tls_of}
use Rattle.elf_loading.specs.Spans.{relro_span, span_of}
use Rattle.elf_loading.specs.declared.error.LoadError.{LoadError}
use Rattle.elf_loading.specs.declared.mapping.Contents.{Contents}
use Rattle.elf_loading.specs.declared.mapping.Contents.TheVariants.{File, NoAccess, Zero}
use Rattle.elf_loading.specs.declared.mapping.Loader.{Loader}
use Rattle.elf_loading.specs.declared.mapping.Loader.TheVariants.{Glibc, Kernel}
use Rattle.elf_loading.specs.declared.mapping.Mapping.{Mapping}
use Rattle.elf_loading.specs.declared.span.Span as loading
use Rattle.xmas_elf.specs.Types.{ElfFile}
use Rattle.elf_linking.specs.declared.segments.Segment.{Segment}
use Rattle.elf_c.specs.Records.{flag_number, record_in, range_at}
use Rattle.elf_c.specs.declared.load_plans.LoadMapping.{LoadMapping}
use Rattle.elf_c.specs.declared.load_plans.Plan.{Plan}
use Rattle.elf_c.specs.declared.load_plans.Span.{Span}
use Rattle.elf_c.specs.declared.load_plans.TheConstants.{FILE, NO_ACCESS, ZERO}
use Rattle.elf_c.specs.declared.load_plans.Template.{Template}
use Rattle.elf_c.specs.declared.names.Range.{Range}
use Rattle.elf_c.specs.declared.status.AnyError.{AnyError}
use Rattle.elf_c.specs.declared.status.AnyError.TheVariants.{Load}

-- the size of a page; 0 means 4096
abbrev pub page_of : ℕ → ℕ
page_of page = if page == 0 then 4096 else page

-- the end of the addresses that Linux gives a program of a class and a machine: of 386 for class 32; of AArch64 (183), with
-- 48 bits of addresses; otherwise of x86-64
abbrev pub linux_limit : ℕ → ℕ → ℕ
linux_limit class machine = if class == 1 then 0xffffe000
    else (if machine == 183 then 0x1000000000000 else 0x7ffffffff000)

-- the end of the addresses that a loader may use; 0 means that of Linux
abbrev pub default_limit : ElfFile → ℕ → ℕ
default_limit file limit = if limit == 0 then linux_limit (file_class file.header) (file_machine file) else limit

-- the loader of a number: 1 for glibc, any other number for Linux
abbrev pub loader_of : ℕ → Loader
loader_of loader = if loader == 1 then Glibc else Kernel

-- the numbers of a range of addresses; 0 if there is none
abbrev pub span_record : Option loading.Span → Span
span_record None = record { start = 0; end = 0 }
span_record (Some span) = record { start = span.start; end = span.end }

-- the numbers of the template of thread-local storage; 0 if there is none
abbrev pub template_record : Option Segment → Template
template_record None = record { address = 0; file_size = 0; mem_size = 0; align = 0 }
template_record (Some tls) =
    record { address = tls.address; file_size = tls.file_size; mem_size = tls.mem_size; align = tls.align }

-- the permissions of the stack; 0 if the file says none
abbrev pub stack_flags : Option Segment → ℕ
stack_flags None = 0
stack_flags (Some stack) = stack.flags.0

-- the number of bytes before the first zero byte
abbrev pub path_size : Result (List ℕ) ElfError → ℕ
path_size (Ok path) = length path
path_size (Err _) = 0

-- the range of the path of the interpreter, without its zero byte; empty and at 0 if there is none
abbrev pub path_range : List ℕ → Option Segment → Range
path_range input None = range_at 0 0
path_range input (Some segment) = range_at segment.offset (path_size (bytes_up_to_zero_of input segment.offset))

-- 1 if there is a segment of a kind, otherwise 0
abbrev pub presence : Option Segment → ℕ
presence segment = flag_number (is_some segment)

-- the numbers of the plan of a file with this size of a page
abbrev pub plan_record : ElfFile → ℕ → Plan
plan_record file page = record {
  span = span_record (Some (span_of page (loads_of file)));
  relro = span_record (option_map (relro_span page) (relro_of file));
  tls = template_record (tls_of file);
  interpreter = path_range file.input.now (interpreter_of file);
  entry = (header_fields file.header.pt2).entry_point;
  stack_flags = stack_flags (stack_of file);
  has_stack = presence (stack_of file);
  has_relro = presence (relro_of file);
  has_interpreter = presence (interpreter_of file);
}

-- a value, if the check of the file has passed
abbrev pub if_checked : {T : Type 0} → Result ℕ LoadError → Result T AnyError → Result T AnyError
if_checked (Ok end) value = value
if_checked (Err error) value = Err (Load error)

-- the numbers of the plan of a file, or why it can't be loaded
abbrev pub plan_of : ElfFile → ℕ → ℕ → Result Plan AnyError
plan_of file page limit = if_checked (check_file file page limit) (Ok (plan_record file page))

-- what a mapping holds, as a number
abbrev pub contents_number : Contents → ℕ
contents_number NoAccess = NO_ACCESS
contents_number (File offset) = FILE
contents_number Zero = ZERO

-- the offset of the first byte of a mapping in the file; 0 if it holds none of the file
abbrev pub contents_offset : Contents → ℕ
contents_offset (File offset) = offset
contents_offset _ = 0

-- the numbers of a mapping
abbrev pub mapping_record : Mapping → LoadMapping
mapping_record mapping = record {
  start = mapping.start;
  end = mapping.end;
  offset = contents_offset mapping.contents;
  flags = mapping.flags.0;
  contents = contents_number mapping.contents;
}

-- the mappings of a file that can be loaded, as numbers
abbrev pub mapping_records : ElfFile → ℕ → Loader → List LoadMapping
mapping_records file page by = map mapping_record (mappings_of page by None (loads_of file))

-- the numbers of the mapping at an index, or why there is none
abbrev pub mapping_at : ElfFile → ℕ → ℕ → Loader → ℕ → Result LoadMapping AnyError
mapping_at file page limit by index =
    if_checked (check_file file page limit) (record_in (λ one. one) (mapping_records file page by) index)
