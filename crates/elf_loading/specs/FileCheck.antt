-- Why a file can't be loaded, as Linux and glibc decide it (this project's own list).
use Rattle.std.specs.Prelude.{◌≡◌, ⊤, ◌++◌, ℕ, ◌+◌, ◌-◌, ◌==◌, ◌&&◌, ◌||◌, not, min, nat_le, nat_lt, slice_index, Bool, true, false, List, [], ◌∷◌, length, Option, Some, None, is_none, is_some, ok_or, Result, Ok, if◌then◌else◌}
use Rattle.std.specs.Int.{is_power_of_two}
use Rattle.std.specs.List.{filter, last_or, list_any}
use Rattle.elf_base.specs.FileHeader.{file_class, header_fields, type_number}
use Rattle.elf_base.specs.FirstError.{and_then, unless}
use Rattle.xmas_elf.specs.Types.{ElfFile, Header}
use Rattle.elf_loading.specs.Types.{LoadError, Segment}
use Rattle.elf_loading.specs.LoadCheck.{check_loads, holds_address, load_end, loads_rows}
use Rattle.elf_loading.specs.Pages.{down}
use Rattle.elf_linking.specs.Segments.{segment_size, table_size}
use Rattle.elf_loading.specs.Segments.{interpreter_of, loads_of, phdr_of, relro_of, tls_of}
use Rattle.elf_loading.specs.declared.error.LoadError.TheVariants as error

-- the type of a file (e_type): 2 of programs at fixed addresses, 3 of those at any, and of libraries
abbrev pub kind_of : Header → ℕ
kind_of header = type_number (header_fields header.pt2).type_

-- why the program header table can't be used: a loader reads a page of it at most, and 65,536 bytes
abbrev pub header_rows : ElfFile → ℕ → List (Bool × LoadError)
header_rows file page = let part = header_fields file.header.pt2 in
    (not (kind_of file.header == 2) && not (kind_of file.header == 3), error.Type)
    ∷ (not (part.ph_entry_size == segment_size (file_class file.header == 1)), error.EntrySize)
    ∷ (part.ph_count == 0 || nat_lt (min page 65536) (table_size file.header), error.Count)
    ∷ (nat_lt (length file.input.now) (part.ph_offset + table_size file.header), error.Table)
    ∷ []

-- the bytes that a load has in the file contain the byte at an offset
abbrev pub holds_offset : ℕ → Segment → Bool
holds_offset offset load = nat_le load.offset offset && nat_lt offset (load.offset + load.file_size)

-- the last of these loads with the byte at an offset, or `before` if there is none
abbrev pub holder_in : ℕ → Option Segment → List Segment → Option Segment
holder_in offset before loads = last_or before (filter (holds_offset offset) loads)

-- a load puts the byte at an offset at an address
abbrev pub is_put_at : ℕ → ℕ → Option Segment → Bool
is_put_at offset address (Some load) = load.address + (offset - load.offset) == address
is_put_at offset address None = false

-- the loads don't put the program header table where PT_PHDR says; without one, a file of type 3 asks for an
-- interpreter
abbrev pub is_misplaced : ElfFile → Option Segment → Bool
is_misplaced file (Some phdr) = let offset = (header_fields file.header.pt2).ph_offset in
    not (is_put_at offset phdr.address (holder_in offset None (loads_of file)))
is_misplaced file None = kind_of file.header == 3 && is_some (interpreter_of file)

-- the path of an interpreter has less than 2 bytes or more than 4096, or extends past the end of the file, or
-- does not end with a zero
abbrev pub is_no_path : List ℕ → Option Segment → Bool
is_no_path input (Some segment) = nat_lt segment.file_size 2 || nat_lt 4096 segment.file_size
    || nat_lt (length input) (segment.offset + segment.file_size)
    || not (slice_index input (segment.offset + segment.file_size - 1) == 0)
is_no_path input None = false

-- the first page from `address` on that is in none of these loads, whose addresses increase
abbrev pub covered_to : ℕ → ℕ → List Segment → ℕ
covered_to page address [] = address
covered_to page address (load ∷ loads) =
    covered_to page (if holds_address page address load then load_end page load else address) loads

-- a page of what is read-only after relocation is in no load
abbrev pub is_uncovered : ℕ → List Segment → Option Segment → Bool
is_uncovered page loads (Some relro) =
    nat_lt (covered_to page (down page relro.address) loads) (down page (relro.address + relro.mem_size))
is_uncovered page loads None = false

-- the bytes of a template are in the memory of a load
abbrev pub holds_template : Segment → Segment → Bool
holds_template tls load = nat_le load.address tls.address
    && nat_le (tls.address + tls.file_size) (load.address + load.mem_size)

-- a template of thread-local storage is larger in the file than in memory, or its alignment is no power of two,
-- or it has bytes that are not in one load
abbrev pub is_no_template : List Segment → Option Segment → Bool
is_no_template loads (Some tls) = nat_lt tls.mem_size tls.file_size || not (is_power_of_two tls.align)
    || (not (tls.file_size == 0) && not (list_any (holds_template tls) loads))
is_no_template loads None = false

-- the entry point of a program without an interpreter is at a limit or past it
abbrev pub is_entry_past : ℕ → ElfFile → Bool
is_entry_past limit file =
    is_none (interpreter_of file) && nat_le limit (header_fields file.header.pt2).entry_point

-- why the other segments can't be used
abbrev pub segment_rows : ElfFile → ℕ → ℕ → List (Bool × LoadError)
segment_rows file page limit =
    (is_misplaced file (phdr_of file), error.Headers)
    ∷ (is_no_path file.input.now (interpreter_of file), error.Interpreter)
    ∷ (is_uncovered page (loads_of file) (relro_of file), error.Relro)
    ∷ (is_no_template (loads_of file) (tls_of file), error.Tls)
    ∷ (is_entry_past limit file, error.Entry)
    ∷ []

-- the end of the last load of a file, or the first reason why a file can't be loaded: of its header, of its
-- loads, that there is none, or of its other segments
unfoldable pub check_file : ElfFile → ℕ → ℕ → Result ℕ LoadError
check_file file page limit =
    and_then (unless (header_rows file page) (tt {0})) (λ done.
    and_then (check_loads page limit (length file.input.now) None (loads_of file)) (λ last.
    and_then (ok_or last error.NoLoad) (λ end.
    and_then (unless (segment_rows file page limit) (tt {0})) (λ passed. Ok end))))

-- there is no load
abbrev pub has_no_load : List Segment → Bool
has_no_load [] = true
has_no_load (load ∷ loads) = false

-- all reasons why a file can't be loaded, in order: those of its header, of each load, that there is no load, and
-- those of its other segments
abbrev pub all_rows : ElfFile → ℕ → ℕ → List (Bool × LoadError)
all_rows file page limit = header_rows file page
    ++ (loads_rows page limit (length file.input.now) None (loads_of file)
    ++ ((has_no_load (loads_of file), error.NoLoad) ∷ segment_rows file page limit))

-- no reason of a list applies
abbrev pub NoneApplies : List (Bool × LoadError) → Type 0
NoneApplies [] = ⊤
NoneApplies (row ∷ rows) = (row.0 ≡ false) × NoneApplies rows
