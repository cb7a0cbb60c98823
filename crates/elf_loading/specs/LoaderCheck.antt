-- Which files one loader maps: a program by Linux (`load_elf_binary` of its `fs/binfmt_elf.c`, version 6.18), a library by
-- glibc 2.36 (`_dl_map_object_from_fd` of its `elf/dl-load.c`). Sums are exact, where both loaders compute modulo 2 to the 64.
use Rattle.std.specs.Prelude.{ℕ, ◌+◌, ◌-◌, ◌*◌, ◌%◌, ◌==◌, ◌&&◌, ◌||◌, bit_and, not, nat_le, nat_lt, Bool, false, List, [], ◌∷◌, length, slice_get, Option, Some, None, option_map, Result, Ok, Err}
use Rattle.std.specs.Int.{is_power_of_two}
use Rattle.std.specs.List.{last_or, list_all, list_any}
use Rattle.elf_base.specs.FirstError.{and_then, unless}
use Rattle.elf_library.specs.Fits.{header_of_library}
use Rattle.elf_library.specs.Segments.{dynamic_address}
use Rattle.elf_library.specs.declared.error.HeaderError.{HeaderError}
use Rattle.elf_library.specs.declared.error.HeaderError.TheVariants as header
use Rattle.elf_linking.specs.Segments.{segments_of}
use Rattle.elf_loading.specs.FileCheck.{has_no_load, header_rows, is_entry_past, is_no_path, kind_of}
use Rattle.elf_loading.specs.LoadCheck.{file_end, is_inside_page, load_end, load_start}
use Rattle.elf_loading.specs.Others.{memory_of, template_of}
use Rattle.elf_loading.specs.Pages.{down, up}
use Rattle.elf_loading.specs.Segments.{interpreter_of, loads_of, relro_of, tls_of}
use Rattle.elf_loading.specs.Types.{ElfFile, Extent, LoadError, Loader, Segment, Tls}
use Rattle.elf_loading.specs.declared.error.LoadError.TheVariants as error
use Rattle.elf_loading.specs.declared.mapping.Loader.TheVariants.{Glibc, Kernel}

-- the first error of these loads, load by load, each with its own list
abbrev pub check_each : (Segment → List (Bool × LoadError)) → List Segment → Result (Unit {0}) LoadError
check_each rows [] = Ok tt
check_each rows (load ∷ loads) = and_then (unless (rows load) (tt {0})) (λ _. check_each rows loads)

-- the address and the offset of a load differ modulo the page size
abbrev pub is_misaligned : ℕ → Segment → Bool
is_misaligned page load = not (load.address % page == load.offset % page)

-- the pages of the bytes of a load extend past the offsets that a file can have (2 to the 63)
abbrev pub is_past_offsets : ℕ → Segment → Bool
is_past_offsets page load = nat_lt 0x7fffffffffffffff (up page (load.offset + load.file_size))

-- a load has zeros that begin in a page of the file past its end, of `len` bytes
abbrev pub has_lost_zeros : ℕ → ℕ → Segment → Bool
has_lost_zeros page len load = nat_lt load.file_size load.mem_size
    && (not (down page (load.address + load.file_size) == load.address + load.file_size)
    && nat_le len (down page (load.offset + load.file_size)))

-- Linux.

-- why Linux doesn't map a load of a program: it ends the program
abbrev pub kernel_rows : ℕ → ℕ → ℕ → Segment → List (Bool × LoadError)
kernel_rows page limit len load =
    (nat_lt load.mem_size load.file_size, error.FileSize)
    ∷ (not (load.file_size == 0) && is_misaligned page load, error.Misaligned)
    ∷ (nat_le limit load.address || nat_lt limit (load.address + load.mem_size), error.Range)
    ∷ (not (load.file_size == 0) && is_past_offsets page load, error.Data)
    ∷ (not (load.file_size == 0) && bit_and load.flags.0 2 == 2 && has_lost_zeros page len load, error.Data)
    ∷ []

-- a load has no memory, and is at an address
abbrev pub is_nothing_at : ℕ → Segment → Bool
is_nothing_at address load = load.mem_size == 0 && load.address == address

-- the loads of a file have no memory
abbrev pub are_nothing : ℕ → List Segment → Bool
are_nothing page [] = false
are_nothing page (load ∷ loads) = list_all (is_nothing_at (load_start page load)) (load ∷ loads)

-- why Linux doesn't start a program, once its loads are mapped: a file of type 3 has no memory, or the entry point
abbrev pub start_rows : ℕ → ℕ → ElfFile → List (Bool × LoadError)
start_rows page limit file =
    (kind_of file.header == 3 && are_nothing page (loads_of file), error.Empty)
    ∷ (is_entry_past limit file, error.Entry)
    ∷ []

-- the result of Linux for a program: the header and the path of the interpreter, the loads, and the rest
unfoldable pub check_program : ℕ → ℕ → ElfFile → Result (Unit {0}) LoadError
check_program page limit file =
    and_then (unless (header_rows file 65536) (tt {0})) (λ _.
    and_then (unless ((is_no_path file.input.now (interpreter_of file), error.Interpreter) ∷ []) (tt {0})) (λ _.
    and_then (check_each (kernel_rows page limit (length file.input.now)) (loads_of file)) (λ _.
    unless (start_rows page limit file) (tt {0}))))

-- glibc.

-- the error of a file for the error of its header
abbrev pub header_error : HeaderError → LoadError
header_error header.ShortFile = error.Table
header_error header.Magic = error.Table
header_error header.ByteOrder = error.ByteOrder
header_error header.IdentVersion = error.IdentVersion
header_error header.OsAbi = error.OsAbi
header_error header.AbiVersion = error.AbiVersion
header_error header.Padding = error.Padding
header_error header.Version = error.Version
header_error header.Type = error.Type
header_error header.EntrySize = error.EntrySize
header_error header.FileData = error.Table

-- the same result with this error
abbrev pub with_header_error : Result (Unit {0}) HeaderError → Result (Unit {0}) LoadError
with_header_error (Ok done) = Ok done
with_header_error (Err error) = Err (header_error error)

-- why glibc doesn't read a load
abbrev pub command_rows : ℕ → Segment → List (Bool × LoadError)
command_rows page load = (is_misaligned page load, error.Misaligned) ∷ []

-- a file has no load, or is a program at a fixed address
abbrev pub kind_rows : ElfFile → List (Bool × LoadError)
kind_rows file = (has_no_load (loads_of file), error.NoLoad) ∷ (kind_of file.header == 2, error.Executable) ∷ []

-- the end of the memory of a load
abbrev pub memory_end : Segment → ℕ
memory_end load = load.address + load.mem_size

-- the number of bytes from the first page of a library to the end of its memory
abbrev pub spread_size : ℕ → Segment → Segment → ℕ
spread_size page first last = memory_end last - load_start page first

-- a load of a library of `size` bytes is aligned to more than pages, and there are not as many addresses as glibc then
-- asks for, to choose an aligned one among them: the size plus the alignment, and twice the alignment at least
abbrev pub is_too_aligned : ℕ → ℕ → ℕ → Segment → Bool
is_too_aligned page limit size load = nat_lt page load.align && is_power_of_two load.align
    && (nat_le limit (size + load.align) || nat_le limit (2 * load.align))

-- with its first load glibc maps the file for all pages of a library: they extend past the offsets that a file can have
abbrev pub is_spread_past : ℕ → ℕ → Segment → Bool
is_spread_past page size first = nat_lt 0x7fffffffffffffff (up page (down page first.offset + size))

-- glibc takes the pages from the first load to the end of the last: there are none, or as many bytes as addresses, or more; the addresses
-- or the offsets aren't enough; or the last of several loads begins before the end of the bytes of the first
abbrev pub spread_rows : ℕ → ℕ → List Segment → Segment → Segment → List (Bool × LoadError)
spread_rows page limit loads first last = let size = spread_size page first last in (
  nat_le (memory_end last) (load_start page first)
      || nat_le (load_start page first + limit) (memory_end last),
  error.Range,
)
    ∷ (list_any (is_too_aligned page limit size) loads, error.Range)
    ∷ (is_spread_past page size first, error.Data)
    ∷ (nat_lt 1 (length loads) && nat_lt (load_start page last) (file_end page first), error.Overlap)
    ∷ []

-- a load after the first of which glibc maps no page of the file: it has no bytes there, and begins with a page
abbrev pub maps_nothing : ℕ → Segment → Bool
maps_nothing page load = load.file_size == 0 && not (is_inside_page page load)

-- why glibc doesn't map a load, where its pages go from `start` to `end`: its memory or its bytes are outside of them
-- (it would write over other memory), the offsets, or zeros that it can't write
abbrev pub segment_rows_in : ℕ → ℕ → ℕ → ℕ → Segment → List (Bool × LoadError)
segment_rows_in page len start end load =
    (nat_lt (load_start page load) start || nat_lt end (memory_end load), error.Overlap)
    ∷ (nat_lt end (load.address + load.file_size), error.FileSize)
    ∷ (not (maps_nothing page load) && is_past_offsets page load, error.Data)
    ∷ (has_lost_zeros page len load, error.Data)
    ∷ []

-- what is read-only after relocation has a page outside of the pages of the library
abbrev pub is_relro_outside : ℕ → ℕ → ℕ → Option Extent → Bool
is_relro_outside page start end (Some relro) =
    let first = down page relro.start in let last = down page (relro.start + relro.size) in
    nat_lt first last && (nat_lt first start || nat_lt end last)
is_relro_outside page start end None = false

-- the pages of a load have the bytes of a template
abbrev pub has_template : ℕ → Tls → Segment → Bool
has_template page tls load = nat_le (load_start page load) tls.address
    && nat_le (tls.address + tls.file_size) (load_end page load)

-- glibc can't lay out or fill thread-local storage when a program starts with the library: the alignment is 0, or the
-- template is larger in the file than in memory, or has bytes that are not in the pages of a load
abbrev pub is_template_unusable : ℕ → List Segment → Option Tls → Bool
is_template_unusable page loads (Some tls) = tls.align == 0 || nat_lt tls.mem_size tls.file_size
    || (not (tls.file_size == 0) && not (list_any (has_template page tls) loads))
is_template_unusable page loads None = false

-- why glibc doesn't use a library, once its loads are mapped
abbrev pub use_rows : ℕ → ℕ → ℕ → ElfFile → List (Bool × LoadError)
use_rows page start end file =
    (dynamic_address (segments_of file) == 0, error.NoDynamic)
    ∷ (is_relro_outside page start end (option_map memory_of (relro_of file)), error.Relro)
    ∷ (is_template_unusable page (loads_of file) (option_map template_of (tls_of file)), error.Tls)
    ∷ []

-- the result of glibc for the segments of a library with these first and last loads
abbrev pub check_between : ℕ → ℕ → ElfFile → Segment → Segment → Result (Unit {0}) LoadError
check_between page limit file first last =
    let start = load_start page first in let end = up page (memory_end last) in
    and_then (unless (spread_rows page limit (loads_of file) first last) (tt {0})) (λ _.
    and_then (check_each (segment_rows_in page (length file.input.now) start end) (loads_of file)) (λ _.
    unless (use_rows page start end file) (tt {0})))

-- the same, where there may be no load
abbrev pub check_ends : ℕ → ℕ → ElfFile → Option Segment → Option Segment → Result (Unit {0}) LoadError
check_ends page limit file (Some first) (Some last) = check_between page limit file first last
check_ends page limit file first last = Ok tt

-- the result of glibc for a library: the header, the addresses of the loads, and the type; then the segments
unfoldable pub check_library : ℕ → ℕ → ElfFile → Result (Unit {0}) LoadError
check_library page limit file =
    and_then (with_header_error (header_of_library (length file.input.now) file.input.now)) (λ _.
    and_then (check_each (command_rows page) (loads_of file)) (λ _.
    and_then (unless (kind_rows file) (tt {0})) (λ _.
    check_ends page limit file (slice_get (loads_of file) 0) (last_or None (loads_of file)))))

-- the result of a loader for a file
abbrev pub check_by : Loader → ℕ → ℕ → ElfFile → Result (Unit {0}) LoadError
check_by Kernel page limit file = check_program page limit file
check_by Glibc page limit file = check_library page limit file
