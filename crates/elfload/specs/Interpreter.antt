-- Which object is the interpreter of a program, whose slots wait for no call: it relocates itself before all others, with
-- each symbol at once (glibc 2.36, `_dl_start` and `dl_main` of elf/rtld.c, which relocate `_dl_rtld_map` with `lazy` 0).
use Rattle.std.specs.Prelude.{ℕ, ◌-◌, ◌==◌, ◌&&◌, ◌||◌, Bool, false, List, Option, Some, None, Result, Ok, Err, if◌then◌else◌, length, nat_eq, option_and_then, slice_get, slice_index}
use Rattle.std.specs.List.{ends_with}
use Rattle.std.specs.Result.{result_ok}
use Rattle.elf_base.specs.Text.{bytes_up_to_zero_of}
use Rattle.elf_linking.specs.DynamicObject.{object_file, object_view}
use Rattle.elf_linking.specs.DynamicView.{text_with}
use Rattle.elf_linking.specs.declared.segments.Segment.{Segment}
use Rattle.elf_linking.specs.declared.view.tags.TheConstants.{DT_SONAME}
use Rattle.elf_loading.specs.Segments.{interpreter_of}
use Rattle.elf_loading.specs.declared.words.Binding.TheVariants.{Now}
use Rattle.elfload.specs.Types.{Binding, DynamicObject, ElfFile, LinkError}

-- the path in a segment of a file: its bytes up to the first zero
abbrev pub path_in : ElfFile → Option Segment → Option (List ℕ)
path_in file None = None
path_in file (Some segment) = result_ok (bytes_up_to_zero_of file.input.now segment.offset)

-- the path of the interpreter that a file names (PT_INTERP: the first counts)
abbrev pub interpreter_path : ElfFile → Option (List ℕ)
interpreter_path file = path_in file (interpreter_of file)

-- the interpreter of objects is that of the first
abbrev pub program_path : {E : Type 0} → {r : _} → List (DynamicObject E r) → Option (List ℕ)
program_path objects = option_and_then (λ program. interpreter_path (object_file program)) (slice_get objects 0)

-- a path ends in a name, with a slash or nothing before it
abbrev pub is_last_part : List ℕ → List ℕ → Bool
is_last_part name path = let before = length path - length name in
    ends_with nat_eq path name && (before == 0 || slice_index path (before - 1) == 47)

-- a name that can be read is the last part of a path
abbrev pub is_name_of : List ℕ → Option (Result (List ℕ) LinkError) → Bool
is_name_of path (Some (Ok name)) = is_last_part name path
is_name_of path (Some (Err error)) = false
is_name_of path None = false

-- an object is the interpreter with a path, by its name as a library (DT_SONAME)
abbrev pub is_interpreter : {E : Type 0} → {r : _} → Option (List ℕ) → DynamicObject E r → Bool
is_interpreter None object = false
is_interpreter (Some path) object = is_name_of path (text_with DT_SONAME (object_view object))

-- when jump slots of an object get their symbols, where `when` is asked for
abbrev pub object_binding : {E : Type 0} → {r : _} → Option (List ℕ) → Binding → Option (DynamicObject E r) → Binding
object_binding path when None = when
object_binding path when (Some object) = if is_interpreter path object then Now else when

-- the same of the object at an index
abbrev pub binding_of : {E : Type 0} → {r : _} → List (DynamicObject E r) → Binding → ℕ → Binding
binding_of objects when of = object_binding (program_path objects) when (slice_get objects of)
