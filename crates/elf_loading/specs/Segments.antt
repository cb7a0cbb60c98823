-- The segments that a loader asks for, by their type (gABI, "Program Header", p_type; PT_GNU_STACK and
-- PT_GNU_RELRO are GNU's).
use Rattle.std.specs.Prelude.{ℕ, ◌==◌, ◌&&◌, bit_and, nat_le, Bool, List, Option, None}
use Rattle.std.specs.List.{filter, find, last_or}
use Rattle.xmas_elf.specs.Types.{ElfFile}
use Rattle.elf_linking.specs.Segments.{segments_of}
use Rattle.elf_linking.specs.declared.segments.Segment.{Segment}

-- a segment has this type, and at least `size` bytes in memory
abbrev pub is_of_type : ℕ → ℕ → Segment → Bool
is_of_type kind size segment = segment.kind == kind && nat_le size segment.mem_size

-- a segment has these permissions: readable (PF_R, 4), writable (PF_W, 2)
abbrev pub has_flag : ℕ → Segment → Bool
has_flag flag segment = bit_and segment.flags.0 flag == flag

-- a segment is loaded (PT_LOAD)
abbrev pub is_load : Segment → Bool
is_load segment = segment.kind == 1

-- the loads of a file, in the order of its program headers
abbrev pub loads_of : ElfFile → List Segment
loads_of file = filter is_load (segments_of file)

-- the last segment of a type with at least this size
abbrev pub last_of : ℕ → ℕ → ElfFile → Option Segment
last_of kind size file = last_or None (filter (is_of_type kind size) (segments_of file))

-- where the program header table is in memory (PT_PHDR): the last counts
abbrev pub phdr_of : ElfFile → Option Segment
phdr_of file = last_of 6 0 file

-- what is read-only after relocation (PT_GNU_RELRO): the last counts
abbrev pub relro_of : ElfFile → Option Segment
relro_of file = last_of 0x6474e552 0 file

-- the permissions of the stack (PT_GNU_STACK): the last counts
abbrev pub stack_of : ElfFile → Option Segment
stack_of file = last_of 0x6474e551 0 file

-- the template of thread-local storage (PT_TLS): the last that is not empty counts
abbrev pub tls_of : ElfFile → Option Segment
tls_of file = last_of 7 1 file

-- the path of the program interpreter (PT_INTERP): the first counts
abbrev pub interpreter_of : ElfFile → Option Segment
interpreter_of file = find (is_of_type 3 0) (segments_of file)
